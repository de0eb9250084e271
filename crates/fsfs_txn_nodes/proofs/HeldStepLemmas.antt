-- Steps, one after another.
use Rattle.std.proofs.Common.{◌≡◌, ◌≤◌, ◌-◌, ◌+◌, Bool, true, false, cond, List, [], ◌∷◌, ◌++◌, take, length, get_or, refl, sym, ap, ◌∙◌, arith}
use Rattle.std.proofs.lemmas.List.{take_all, take_more}
use Rattle.std.specs.Prelude.{Some}
use Rattle.fsfs_noderev.specs.declared.node_id.NodeId.{NodeId}
use Rattle.fsfs_noderev.specs.declared.node_rev.NodeRev.{NodeRev}
use Rattle.fsfs_noderev.specs.Ids.{part_value}
use Rattle.fsfs_draft.specs.Drafts.{Kept}
use Rattle.fsfs_draft.specs.Steps.{Files, with_kept, kept_at}
use Rattle.fsfs_draft.specs.Views.{kept_value, new_kept}
use Rattle.fsfs_txn_nodes.specs.declared.memory.keys.NodeKey.{NodeKey}
use Rattle.fsfs_txn_nodes.specs.declared.memory.edit_steps.Step.{Step}
use Rattle.fsfs_txn_nodes.specs.Memory.Keys.{part_of, has_parts, at_key, with_key}
use Rattle.fsfs_txn_nodes.specs.Memory.Lists.{with_steps}
use Rattle.fsfs_txn_nodes.proofs.KeyLemmas.{IsKeyTest, put_by_id, at_id}

pub steps_push : (ss : List Step) (s : Step) (files : Files) → with_steps (ss ++ s ∷ []) files ≡ with_key s.key (kept_value s.kept) (with_steps ss files)
steps_push [] s files = refl
steps_push (t ∷ ss) s files = steps_push ss s (with_key t.key (kept_value t.kept) files)

-- a key has the parts of an id
pub record IsKeyOf (key : NodeKey) (id : NodeId) : Type 0 where
  pub node : part_of key.node ≡ part_value id.node
  pub copy : part_of key.copy ≡ part_value id.copy

-- a step more, at the key of an id
pub step_put : (ss new : List Step) (s : Step) (id : NodeId) (files : Files) → new ≡ ss ++ s ∷ [] → IsKeyOf s.key id → with_steps new files ≡ with_kept id (kept_value s.kept) (with_steps ss files)
step_put ss new s id files more key_is =
    ap (λ (l : List Step). with_steps l files) more ∙ steps_push ss s files ∙ put_by_id s.key id (kept_value s.kept) (with_steps ss files) key_is.node key_is.copy

-- a step that changes what was found there
pub step_changed : (ss new : List Step) (s : Step) (found : Kept) (id : NodeId) (k : Kept) (how : Kept → Kept) (files : Files) → new ≡ ss ++ s ∷ [] → IsKeyOf s.key id → kept_value s.kept ≡ how found
    → Some found ≡ at_key (with_steps ss files) s.key → kept_at (with_steps ss files) id ≡ Some k → with_steps new files ≡ with_kept id (how k) (with_steps ss files)
step_changed ss new s found id k how files more key_is value here there =
    let one : found ≡ k = (let e = here ∙ at_id s.key id (with_steps ss files) key_is.node key_is.copy ∙ there in cc) in
    step_put ss new s id files more key_is ∙ ap (λ (x : Kept). with_kept id x (with_steps ss files)) (value ∙ ap how one)

-- two steps more: a new node-revision, and the directory that lists it
pub child_put : (ss between new : List Step) (c s : Step) (found : Kept) (child : NodeRev) (id : NodeId) (k : Kept) (how : Kept → Kept) (files : Files) → between ≡ ss ++ c ∷ [] → new ≡ between ++ s ∷ [] → IsKeyOf c.key child.id → kept_value c.kept ≡ new_kept child
    → IsKeyOf s.key id → kept_value s.kept ≡ how found → Some found ≡ at_key (with_steps ss files) s.key → kept_at (with_steps ss files) id ≡ Some k
    → with_steps new files ≡ with_kept id (how k) (with_kept child.id (new_kept child) (with_steps ss files))
child_put ss between new c s found child id k how files first second child_key child_value key_is value here there =
    let one : found ≡ k = (let e = here ∙ at_id s.key id (with_steps ss files) key_is.node key_is.copy ∙ there in cc) in
    step_put between new s id files second key_is
    ∙ ap (λ (x : Kept). with_kept id x (with_steps between files)) (value ∙ ap how one)
    ∙ ap (λ (fs : Files). with_kept id (how k) fs) (step_put ss between c child.id files first child_key ∙ ap (λ (x : Kept). with_kept child.id x (with_steps ss files)) child_value)

-- ---- from the last step on

-- the last of a list that is not empty
pub last_split : (ss : List Step) (s : Step) → 1 ≤ length ss → s ≡ get_or ss (length ss - 1) s → ss ≡ take (length ss - 1) ss ++ s ∷ []
last_split ss s some is =
    sym (take_all (length ss - 1 + 1) ss (omega (arith, some)))
    ∙ take_more ss (length ss - 1) s (omega (arith, some))
    ∙ ap (λ (t : Step). take (length ss - 1) ss ++ t ∷ []) (sym is)

last_at : (before left : List Step) (s : Step) (key : NodeKey) (files : Files) → left ≡ before ++ s ∷ []
    → at_key (with_steps left files) key ≡ cond (has_parts (part_of s.key.node) (part_of s.key.copy) key) (Some (kept_value s.kept)) (at_key (with_steps before files) key)
last_at before left s key files split = ap (λ (l : List Step). at_key (with_steps l files) key) split ∙ ap (λ (fs : Files). at_key fs key) (steps_push before s files)

-- the last step is at the key
pub last_here : (eq : NodeKey → NodeKey → Bool) → IsKeyTest eq → (before left : List Step) (s : Step) (key : NodeKey) (files : Files) → left ≡ before ++ s ∷ [] → eq s.key key ≡ true → at_key (with_steps left files) key ≡ Some (kept_value s.kept)
last_here eq same before left s key files split here =
    last_at before left s key files split ∙ ap (λ (b : Bool). cond b (Some (kept_value s.kept)) (at_key (with_steps before files) key)) (sym (same s.key key) ∙ here)

-- or not
pub last_other : (eq : NodeKey → NodeKey → Bool) → IsKeyTest eq → (before left : List Step) (s : Step) (key : NodeKey) (files : Files) → left ≡ before ++ s ∷ [] → eq s.key key ≡ false → at_key (with_steps left files) key ≡ at_key (with_steps before files) key
last_other eq same before left s key files split other =
    last_at before left s key files split ∙ ap (λ (b : Bool). cond b (Some (kept_value s.kept)) (at_key (with_steps before files) key)) (sym (same s.key key) ∙ other)
