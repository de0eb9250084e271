-- The test by which the table compares its keys.
use Rattle.std.proofs.Common.{◌≡◌, Bool, ◌&&◌, refl}
use Rattle.fsfs_draft.specs.Steps.{same_value}
use Rattle.fsfs_txn_nodes.specs.contracts.memory.keys.KeyPartPartialEq.TheImpl as part_test
use Rattle.fsfs_txn_nodes.specs.contracts.memory.keys.NodeKeyPartialEq.TheImpl as the_test
use Rattle.fsfs_txn_nodes.specs.declared.memory.keys.KeyPart.{KeyPart}
use Rattle.fsfs_txn_nodes.specs.declared.memory.keys.KeyPart.TheVariants as keys
use Rattle.fsfs_txn_nodes.specs.declared.memory.keys.NodeKey.{NodeKey}
use Rattle.fsfs_txn_nodes.specs.Memory.Keys.{part_of}
use Rattle.fsfs_txn_nodes.proofs.KeyLemmas.{IsKeyTest}

abbrev pub key_eq : NodeKey → NodeKey → Bool
key_eq = the_test.eq-value.it

abbrev part_eq : KeyPart → KeyPart → Bool
part_eq = part_test.eq-value.it

same_parts : (a b : KeyPart) → part_eq a b ≡ same_value (part_of a) (part_of b)
same_parts (keys.New m) (keys.New n) = refl
same_parts (keys.New m) (keys.Old n) = refl
same_parts (keys.New m) (keys.Made n rev) = refl
same_parts (keys.Old m) (keys.New n) = refl
same_parts (keys.Old m) (keys.Old n) = refl
same_parts (keys.Old m) (keys.Made n rev) = refl
same_parts (keys.Made m made) (keys.New n) = refl
same_parts (keys.Made m made) (keys.Old n) = refl
same_parts (keys.Made m made) (keys.Made n rev) = refl

pub key_test : IsKeyTest key_eq
key_test q k = λ i. same_parts q.node k.node i && same_parts q.copy k.copy i
