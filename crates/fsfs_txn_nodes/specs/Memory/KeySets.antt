-- The keys of steps, as a set.
use Rattle.std.specs.Prelude.{◌≡◌, ◌≤◌, ◌+◌, ℕ, Bool, true, List, vec_len, vec_capacity}
use Rattle.std.specs.List.{list_all}
use Rattle.std.specs.HashSet.{HashSet, contains_by, spare}
use Rattle.std.specs.declared.vec.Vec.{Vec}
use Rattle.fsfs_txn_nodes.specs.declared.memory.keys.NodeKey.{NodeKey}
use Rattle.fsfs_txn_nodes.specs.declared.memory.edit_steps.Step.{Step}
use Rattle.fsfs_txn_nodes.specs.Memory.Keys.{part_of, has_parts}

-- whether a set has the key
abbrev pub has_key : {S : Type 0} → HashSet NodeKey S → NodeKey → Bool
has_key keys key = contains_by (has_parts (part_of key.node) (part_of key.copy)) keys

-- the one has all keys of the other
abbrev pub KeepsKeys : {S : Type 0} → HashSet NodeKey S → HashSet NodeKey S → Type 0
KeepsKeys before after = (q : NodeKey) → has_key before q ≡ true → has_key after q ≡ true

-- it has the keys of all steps
abbrev pub AreKeyed : {S : Type 0} → HashSet NodeKey S → List Step → Type 0
AreKeyed keys steps = list_all (λ (s : Step). has_key keys s.key) steps ≡ true

-- there is room for so many steps more
abbrev pub HasRoom : {Z S : Type 0} → ℕ → Vec Step Z → HashSet NodeKey S → Type 0
HasRoom n steps keys = (vec_len steps + n ≤ vec_capacity steps) × (n ≤ spare keys)
