use Rattle.std.proofs.Common.{take}
use Rattle.fsfs_folders.specs.Quiet.{IsQuiet, IsSynced}
use Rattle.fsfs_folders.proofs.writing.sync_folders.Given as goal

-- so many of the folders were synced
abbrev pub invariant-loop-folder : goal.invariant-loop-folder
invariant-loop-folder g l = IsQuiet (g.C.Calls.history l.fn.calls) (g.C.Calls.history l.calls) × IsSynced (take l.folder-index l.folders) (g.C.Calls.history l.fn.calls) (g.C.Calls.history l.calls)
