use Rattle.std.proofs.Common.{◌≡◌, List, ℕ, true, take}
use Rattle.fsfs_folders.specs.System.Paths.{has_path}
use Rattle.fsfs_folders.specs.System.CallRecord.{names_after}
use Rattle.fsfs_memcalls.specs.Told.{beginning_of, calls_of}
use Rattle.fsfs_memcalls.specs.Emptiness.{IsClearAt}
use Rattle.fsfs_memcalls.proofs.emptiness.are_clear.Given as goal

-- nothing stands at those of the paths so far
abbrev pub invariant-loop-path : goal.invariant-loop-path
invariant-loop-path l = (q : List ℕ) → has_path (take l.path-index l.paths) q ≡ true → IsClearAt (names_after (beginning_of l.first) (calls_of l.calls)) l.above q
