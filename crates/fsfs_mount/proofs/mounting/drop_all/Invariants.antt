use Rattle.std.proofs.Common.{◌≡◌}
use Rattle.fsfs_folders.specs.Standing.{told}
use Rattle.fsfs_mount.proofs.mounting.drop_all.Given as goal

-- nothing is told of folders
abbrev pub invariant-loop-name : goal.invariant-loop-name
invariant-loop-name g l = told (g.F.Root.Calls.history l.folders.calls) ≡ told (g.F.Root.Calls.history l.fn.folders.calls)
