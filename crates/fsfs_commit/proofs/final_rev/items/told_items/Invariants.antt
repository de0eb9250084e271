use Rattle.std.proofs.Common.{◌≡◌, ◌++◌, map, reverse, length}
use Rattle.fsfs_final.specs.Pieces.Naming.{ids_of}
use Rattle.fsfs_commit.specs.FinalRev.Items.{told_item}
use Rattle.fsfs_commit.proofs.final_rev.items.told_items.Given as goal

-- the first ones are told
abbrev pub invariant-loop-item : goal.invariant-loop-item
invariant-loop-item l = l.all.items ++ map (told_item l.fn.txn (ids_of l.ids)) (reverse l.left.items) ≡ map (told_item l.fn.txn (ids_of l.ids)) l.fn.folded.items

abbrev pub decreases-loop-item : goal.decreases-loop-item
decreases-loop-item l = length l.left.items
