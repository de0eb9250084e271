use Rattle.std.proofs.Common.{take}
use Rattle.fsfs_layout.specs.Hash.Reading.{views}
use Rattle.fsfs_layout.proofs.Rising.{Rise}
use Rattle.fsfs_layout.proofs.hash.in_place.rises.Given as goal

-- the pairs so far rise up to the last
abbrev pub invariant-loop-e : goal.invariant-loop-e
invariant-loop-e l = Rise l.last (views (take l.e-index l.found))
