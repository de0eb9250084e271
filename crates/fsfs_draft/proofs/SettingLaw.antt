-- A text or properties put at an own node-revision are the flat edit, and what the transaction keeps is kept.
use Rattle.std.proofs.Common.{◌≡◌, ℕ, Bool, true, false, cond, [], ◌∷◌, ◌++◌, refl, sym, ap, subst, ◌∙◌}
use Rattle.std.specs.Prelude.{Option, Some}
use Rattle.fsfs_base.specs.Paths.{PathName, Path, same_name}
use Rattle.fsfs_base.proofs.PathLemmas.{same_name-is}
use Rattle.fsfs_tree.specs.Nodes.{TreeFunction}
use Rattle.fsfs_base.specs.declared.fields.txn_name.TxnName.{TxnName}
use Rattle.fsfs_revision.specs.Told.{RevisionBytes}
use Rattle.fsfs_noderev.specs.declared.node_id.NodeId.{NodeId}
use Rattle.fsfs_draft.specs.Own.{OwnNode, Own, below, graft, under, with_node, shared_at}
use Rattle.fsfs_draft.specs.Sides.{HasFiles, OwnFiles, DrawnOnce, source_here, OwnSources}
use Rattle.fsfs_draft.specs.Setting.{Setting, own_set, SettingsAreEdits}
use Rattle.fsfs_draft.proofs.LayingKeeps.{links, same_shared}
use Rattle.fsfs_draft.proofs.Setting.{which, TheNode, Another, set_draft, set_shows, text_shows, prop_shows}
use Rattle.fsfs_draft.proofs.Setting as setting_of

-- what stays at the path stays everywhere
pub stays_set : {X : Type 0} (f : Option OwnNode → X) (p : Path) (v w : OwnNode) (own : Own) (r : Path) → own p ≡ Some v → f (Some w) ≡ f (Some v) → f (graft p (with_node w (under p own)) own r) ≡ f (own r)
stays_set f [] v w own [] here same = same ∙ ap f (sym here)
stays_set f [] v w own (y ∷ r) here same = refl
stays_set f (z ∷ p) v w own [] here same = refl
stays_set f (z ∷ p) v w own (y ∷ r) here same = by (same_name z y) refl (stays_set f p v w (below z own) r here same)
  where
    Goal : PathName → Type 0
    Goal y = f (graft p (with_node w (under p (below z own))) (below y own) r) ≡ f (own (y ∷ r))

    by : (b : Bool) → same_name z y ≡ b → Goal z → f (cond b (graft p (with_node w (under p (below z own))) (below y own) r) (own (y ∷ r))) ≡ f (own (y ∷ r))
    by true e inner = subst Goal (same_name-is z y e) inner
    by false e inner = refl

module _ (look : RevisionBytes) (trees : ℕ → TreeFunction) (top base : ℕ) (txn : TxnName) (s : Setting look trees top base txn) where
  abbrev Which : Path → OwnNode → Type 0
  Which q a = setting_of.WhichOf look top base trees s.shown s.within txn s.before s.own s.draft s.path s.was s.here s.is s.set s.after q a

  which_is : (q : Path) (a : OwnNode) → own_set s q ≡ Some a → Which q a
  which_is q a e = which look top base trees s.shown s.within txn s.before s.own s.draft s.path s.was s.here s.is s.set s.after q a e

  record WasAt (q : Path) (a : OwnNode) : Type 0 where
    old : OwnNode
    was : s.own q ≡ Some old
    id : a.node.id ≡ old.node.id
    predecessor : a.node.predecessor ≡ old.node.predecessor
    copy : a.node.copy_from ≡ old.node.copy_from

  was_at : (q : Path) (a : OwnNode) → own_set s q ≡ Some a → WasAt q a
  was_at q a e = by (which_is q a e)
    where
      by : Which q a → WasAt q a
      by (TheNode at same) = record {
        old = s.was;
        was = ap s.own at ∙ s.here;
        id = ap (λ (z : OwnNode). z.node.id) (sym same) ∙ s.set.id;
        predecessor = ap (λ (z : OwnNode). z.node.predecessor) (sym same) ∙ s.set.predecessor;
        copy = ap (λ (z : OwnNode). z.node.copy_from) (sym same) ∙ s.set.copy_from;
      }
      by (Another is not_here) = record { old = a; was = is; id = refl; predecessor = refl; copy = refl }

  files_set : OwnFiles s.own → HasFiles s.is → OwnFiles (own_set s)
  files_set files here q a e = by (which_is q a e)
    where
      by : Which q a → HasFiles a
      by (TheNode at same) = subst HasFiles same here
      by (Another is not_here) = files q a is

  once_set : DrawnOnce s.own → DrawnOnce (own_set s)
  once_set once = record {
    made = λ q r v w e g none lacks same. (let a = was_at q v e in let c = was_at r w g in
        once.made q r a.old c.old a.was c.was (sym a.predecessor ∙ none) (sym c.predecessor ∙ lacks) (ap (λ (i : NodeId). i.node) (sym a.id) ∙ same ∙ ap (λ (i : NodeId). i.node) c.id));
    copied = λ q r v w from other e g copy copies same. (let a = was_at q v e in let c = was_at r w g in
        once.copied q r a.old c.old from other a.was c.was (sym a.copy ∙ copy) (sym c.copy ∙ copies) (ap (λ (i : NodeId). i.copy) (sym a.id) ∙ same ∙ ap (λ (i : NodeId). i.copy) c.id));
    apart = λ q r name up v c from e g plain k copy same. (let a = was_at q up e in let u = was_at (q ++ name ∷ []) v g in let w = was_at r c k in
        ap (λ (i : NodeId). i.copy) u.id
        ∙ once.apart q r name a.old u.old w.old from a.was u.was (sym u.copy ∙ plain) w.was (sym w.copy ∙ copy) (ap (λ (i : NodeId). i.copy) (sym w.id) ∙ same ∙ ap (λ (i : NodeId). i.copy) u.id)
        ∙ ap (λ (i : NodeId). i.copy) (sym a.id));
  }

  shared_set : (q : Path) → shared_at trees q (own_set s) (trees base) [] ≡ shared_at trees q s.own (trees base) []
  shared_set q = same_shared trees q (own_set s) s.own (trees base) (λ r t is n. stays_set links s.path s.was s.is s.own r s.here (λ i. Some (s.set.copy_from i, s.set.predecessor i))) []

  sources_set : OwnSources trees (trees base) s.own → s.is.shown.source ≡ s.was.shown.source → OwnSources trees (trees base) (own_set s)
  sources_set sources same_source q a e = by (which_is q a e) ∙ ap (source_here a.node.copy_from a.node.predecessor) (sym (shared_set q))
    where
      by : Which q a → a.shown.source ≡ source_here a.node.copy_from a.node.predecessor (shared_at trees q s.own (trees base) [])
      by (TheNode at same) = subst (λ (w : OwnNode). w.shown.source ≡ source_here w.node.copy_from w.node.predecessor (shared_at trees q s.own (trees base) [])) same
          (same_source
          ∙ subst (λ (z : Path). s.was.shown.source ≡ source_here s.was.node.copy_from s.was.node.predecessor (shared_at trees z s.own (trees base) [])) (sym at) (sources s.path s.was s.here)
          ∙ (λ i. source_here (sym s.set.copy_from i) (sym s.set.predecessor i) (shared_at trees q s.own (trees base) [])))
      by (Another is not_here) = sources q a is

pub settings_are_edits : SettingsAreEdits
settings_are_edits = record {
  draft = λ look trees top base txn s. set_draft look top base trees s.shown s.within txn s.before s.own s.draft s.path s.was s.here s.is s.set s.after s.setting;
  tree = λ look trees top base txn s q. set_shows look top base trees s.shown s.within txn s.before s.own s.draft s.path s.was s.here s.is s.set s.after q;
  text = λ look trees top base txn s bytes is q. text_shows look top base trees s.shown s.within txn s.before s.own s.draft s.path s.was s.here s.is s.set s.after bytes is q;
  prop = λ look trees top base txn s name value is q. prop_shows look top base trees s.shown s.within txn s.before s.own s.draft s.path s.was s.here s.is s.set s.after name value is q;
  files = λ look trees top base txn s files here. files_set look trees top base txn s files here;
  once = λ look trees top base txn s once. once_set look trees top base txn s once;
  sources = λ look trees top base txn s sources same. sources_set look trees top base txn s sources same;
}
