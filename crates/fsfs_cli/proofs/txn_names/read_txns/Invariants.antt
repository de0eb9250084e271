use Rattle.std.proofs.Common.{◌≡◌, map, take}
use Rattle.std.specs.Prelude.{Some}
use Rattle.fsfs_cli.specs.Grammars.{txns_named}
use Rattle.fsfs_cli.proofs.txn_names.read_txns.Given as goal

-- so many of the words were read
abbrev pub invariant-loop-word : goal.invariant-loop-word
invariant-loop-word l = txns_named (map (λ word. word.now) (take l.word-index l.words)) ≡ Some (map (λ t. (t.base, t.number.number)) l.names.items)
