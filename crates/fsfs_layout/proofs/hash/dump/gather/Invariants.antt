use Rattle.std.proofs.Common.{◌≡◌, map, take}
use Rattle.fsfs_layout.specs.Hash.Reading.{views}
use Rattle.fsfs_layout.proofs.PutPairs.{pair_of}
use Rattle.fsfs_layout.proofs.hash.dump.gather.Given as goal

abbrev pub invariant-loop-e : goal.invariant-loop-e
invariant-loop-e l = map pair_of l.pairs.items ≡ views (take l.e-index l.found)
