use Rattle.std.proofs.Common.{◌≡◌, List, ℕ, ◌++◌, map}
use Rattle.std.specs.List.{flat_map}
use Rattle.fsfs_layout.specs.Hash.Dump.{Entries, pair_text}
use Rattle.fsfs_layout.proofs.PutPairs.{pair_of}
use Rattle.fsfs_layout.proofs.hash.writing.put_pairs.Given as goal

-- so much was put, and whatever stands for the rest completes the pairs
abbrev pub invariant-loop-key : goal.invariant-loop-key
invariant-loop-key l = record {
  done : List ℕ;
  put : l.out.items ≡ l.fn.out.items ++ done;
  text : done ++ flat_map pair_text (map pair_of l.key-iterator) ≡ flat_map pair_text l.pairs;
  entries : (tail : List ℕ) → Entries tail (map pair_of l.key-iterator) → Entries (done ++ tail) l.pairs;
}
