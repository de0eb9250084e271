use Rattle.std.proofs.Common.{◌≡◌, take}
use Rattle.fsfs_layout.specs.Hash.Reading.{change_views}
use Rattle.fsfs_layout.specs.Hash.Children.{change_all}
use Rattle.fsfs_layout.proofs.hash.children.lay_over.Given as goal

abbrev pub invariant-loop-key : goal.invariant-loop-key
invariant-loop-key l = l.pairs ≡ change_all l.initial.pairs (change_views (take l.key-index l.changes))
