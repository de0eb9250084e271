-- The keys of steps, as a set.
use Rattle.std.proofs.Common.{◌≡◌, Bool, true, false, cond, ◌&&◌, List, [], ◌∷◌, ◌++◌, refl, sym, ap, ◌∙◌}
use Rattle.std.proofs.Math.Path.{fun_ext}
use Rattle.std.proofs.lemmas.Bool.{and_parts, and_from}
use Rattle.std.specs.Prelude.{Some}
use Rattle.std.specs.List.{list_all}
use Rattle.std.specs.HashSet.{HashSet, contains, contains_by}
use Rattle.fsfs_draft.proofs.Files.{same_value-is}
use Rattle.fsfs_draft.specs.Steps.{Files, same_value}
use Rattle.fsfs_draft.specs.Views.{kept_value}
use Rattle.fsfs_txn_nodes.specs.declared.memory.keys.NodeKey.{NodeKey}
use Rattle.fsfs_txn_nodes.specs.declared.memory.edit_steps.Step.{Step}
use Rattle.fsfs_txn_nodes.specs.Memory.Keys.{part_of, has_parts, at_key, with_key}
use Rattle.fsfs_txn_nodes.specs.Memory.KeySets.{has_key, KeepsKeys, AreKeyed}
use Rattle.fsfs_txn_nodes.specs.Memory.Lists.{with_steps}
use Rattle.fsfs_txn_nodes.proofs.KeyLemmas.{IsKeyTest}

pub set_has : {S : Type 0} (eq : NodeKey → NodeKey → Bool) → IsKeyTest eq → (m : HashSet NodeKey S) (q : NodeKey) → has_key m q ≡ contains eq m q
set_has eq same m q = ap (λ (t : NodeKey → Bool). contains_by t m) (fun_ext (λ (k : NodeKey). sym (same q k)))

-- with the same keys, in another order
pub keeps_same : {S : Type 0} (eq : NodeKey → NodeKey → Bool) → IsKeyTest eq → (m n : HashSet NodeKey S) → ((q : NodeKey) → contains eq n q ≡ contains eq m q) → KeepsKeys m n
keeps_same eq same m n h q has = set_has eq same n q ∙ h q ∙ sym (set_has eq same m q) ∙ has

-- with a key more
pub keeps_put : {S : Type 0} (eq : NodeKey → NodeKey → Bool) → IsKeyTest eq → (m n : HashSet NodeKey S) (key : NodeKey) → ((q : NodeKey) → contains eq n q ≡ cond (eq key q) true (contains eq m q)) → KeepsKeys m n
keeps_put eq same m n key h q has = set_has eq same n q ∙ h q ∙ by (eq key q) (contains eq m q) (sym (set_has eq same m q) ∙ has)
  where
    by : (b c : Bool) → c ≡ true → cond b true c ≡ true
    by true c is = refl
    by false c is = is

-- the same steps
pub keyed_kept : {S : Type 0} (m n : HashSet NodeKey S) → KeepsKeys m n → (ss new : List Step) → new ≡ ss → AreKeyed m ss → AreKeyed n new
keyed_kept m n keeps ss new same k = ap (λ (l : List Step). list_all (λ (s : Step). has_key n s.key) l) same ∙ by ss k
  where
    by : (ss : List Step) → AreKeyed m ss → AreKeyed n ss
    by [] k = refl
    by (s ∷ ss) k = let both = and_parts (has_key m s.key) _ k in and_from _ _ (keeps s.key both.0) (by ss both.1)

-- a step more
pub keyed_push : {S : Type 0} (m n : HashSet NodeKey S) → KeepsKeys m n → (ss new : List Step) (s : Step) → new ≡ ss ++ s ∷ [] → has_key n s.key ≡ true → AreKeyed m ss → AreKeyed n new
keyed_push m n keeps ss new s more here k = ap (λ (l : List Step). list_all (λ (s : Step). has_key n s.key) l) more ∙ by ss k
  where
    by : (ss : List Step) → AreKeyed m ss → AreKeyed n (ss ++ s ∷ [])
    by [] k = and_from _ _ here refl
    by (t ∷ ss) k = let both = and_parts (has_key m t.key) _ k in and_from _ _ (keeps t.key both.0) (by ss both.1)

-- a step whose key the set has is at no key that it lacks
step_away : {S : Type 0} (m : HashSet NodeKey S) (s : Step) (key : NodeKey) (files : Files) → has_key m s.key ≡ true → has_key m key ≡ false → at_key (with_key s.key (kept_value s.kept) files) key ≡ at_key files key
step_away m s key files here none = by (same_value (part_of s.key.node) (part_of key.node) && same_value (part_of s.key.copy) (part_of key.copy)) refl
  where
    by : (b : Bool) → (same_value (part_of s.key.node) (part_of key.node) && same_value (part_of s.key.copy) (part_of key.copy)) ≡ b → cond b (Some (kept_value s.kept)) (at_key files key) ≡ at_key files key
    by false is = refl
    by true is =
        let same = and_parts (same_value (part_of s.key.node) (part_of key.node)) (same_value (part_of s.key.copy) (part_of key.copy)) is in
        let one : has_key m s.key ≡ has_key m key = (λ i. contains_by (has_parts (same_value-is (part_of s.key.node) (part_of key.node) same.0 i) (same_value-is (part_of s.key.copy) (part_of key.copy) same.1 i)) m) in
        let wrong : true ≡ false = sym here ∙ one ∙ none in absurd cc

-- no step puts anything at a key that the set lacks
pub unkeyed : {S : Type 0} (m : HashSet NodeKey S) (ss : List Step) (key : NodeKey) (files : Files) → AreKeyed m ss → has_key m key ≡ false → at_key (with_steps ss files) key ≡ at_key files key
unkeyed m [] key files k none = refl
unkeyed m (s ∷ ss) key files k none =
    let both = and_parts (has_key m s.key) (list_all (λ (t : Step). has_key m t.key) ss) k in
    unkeyed m ss key (with_key s.key (kept_value s.kept) files) both.1 none ∙ step_away m s key files both.0 none
