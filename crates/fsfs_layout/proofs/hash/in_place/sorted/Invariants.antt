use Rattle.std.proofs.Common.{◌≡◌, ◌++◌, []}
use Rattle.fsfs_layout.specs.Hash.Dump.{put_all}
use Rattle.fsfs_layout.specs.Hash.Reading.{views}
use Rattle.fsfs_layout.proofs.hash.in_place.sorted.Given as goal

-- the pairs so far, and those that the map has left
abbrev pub invariant-loop-key : goal.invariant-loop-key
invariant-loop-key l = views l.pairs.items ++ views l.key-iterator ≡ put_all [] (views l.fn.found.items)
