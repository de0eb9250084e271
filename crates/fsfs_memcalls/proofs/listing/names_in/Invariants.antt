use Rattle.std.proofs.Common.{take}
use Rattle.fsfs_folders.specs.System.CallRecord.{names_after}
use Rattle.fsfs_memcalls.specs.Told.{beginning_of, calls_of}
use Rattle.fsfs_memcalls.specs.Standing.{stands_as}
use Rattle.fsfs_memcalls.specs.Entries.{IsListSoFar}
use Rattle.fsfs_memcalls.proofs.listing.names_in.Given as goal

-- the listing of the paths so far
abbrev pub invariant-loop-path : goal.invariant-loop-path
invariant-loop-path l = IsListSoFar (stands_as l.kind (names_after (beginning_of l.first) (calls_of l.calls))) l.folder (take l.path-index l.path-items) l.found.items
