use Rattle.std.proofs.Common.{◌≡◌}
use Rattle.fsfs_folders.specs.Standing.{told}
use Rattle.fsfs_folders.proofs.folders.Folders.make_folder.Given as goal

-- nothing is told of folders
abbrev pub invariant-loop-at : goal.invariant-loop-at
invariant-loop-at g l = told (g.C.Calls.history l.self.calls) ≡ told (g.C.Calls.history l.fn.self.calls)
