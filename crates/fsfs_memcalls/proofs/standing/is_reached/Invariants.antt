use Rattle.std.proofs.Common.{◌≡◌, [], take, drop}
use Rattle.fsfs_folders.specs.System.CallRecord.{names_after, are_there}
use Rattle.fsfs_memcalls.specs.Told.{beginning_of, calls_of}
use Rattle.fsfs_memcalls.proofs.standing.is_reached.Given as goal

-- the folders before this letter are there
abbrev pub invariant-loop-i : goal.invariant-loop-i
invariant-loop-i l =
    are_there (names_after (beginning_of l.first) (calls_of l.calls)).folders (take l.i l.text) (drop l.i l.text)
    ≡ are_there (names_after (beginning_of l.first) (calls_of l.calls)).folders [] l.text
