-- What stands in an own directory of a draft, of the transaction's own.
use Rattle.std.proofs.Common.{◌≡◌, ◌∙◌, ◌≤◌, ℕ, Bool, true, false, ◌&&◌, List, [], ◌∷◌, ◌++◌, refl, sym, ap, subst, Option, Some, None, append-nil}
use Rattle.std.specs.Prelude.{option_map}
use Rattle.fsfs_base.specs.Paths.{PathName, Path}
use Rattle.fsfs_tree.specs.Nodes.{TreeFunction}
use Rattle.fsfs_base.specs.declared.fields.txn_name.TxnName.{TxnName}
use Rattle.fsfs_revision.specs.Told.{RevisionBytes}
use Rattle.fsfs_noderev.specs.declared.node_id.Place.{Place}
use Rattle.fsfs_noderev.specs.declared.node_id.Place.TheVariants as places
use Rattle.fsfs_noderev.specs.declared.node_id.NodeId.{NodeId}
use Rattle.fsfs_noderev.specs.declared.node_rev.NodeRev.{NodeRev}
use Rattle.fsfs_revision.specs.Nodes.{is_revision_id, is_lasting_part, is_revision_place}
use Rattle.fsfs_revision.specs.Shows.Reading.{DirEntry, named, StandsAt}
use Rattle.fsfs_draft.specs.Own.{OwnNode, Own, under}
use Rattle.fsfs_draft.specs.Rules.{at_top, head_at, IsEntryOf, AreEntriesOf, stands_under, above_at, stands_at}
use Rattle.fsfs_draft.specs.Drafts.{Folder, IsDraft, ShowTrees}
use Rattle.fsfs_draft.proofs.Changing.{of_id_lasting}
use Rattle.fsfs_draft.proofs.Here.{head_none, under_is, none_own, rules_under, rule_here, agrees_below}
use Rattle.fsfs_draft.proofs.OwnEntries.{lasting_id}
use Rattle.fsfs_final.specs.Order.Children.{id_named}
use Rattle.fsfs_final.proofs.OrderLists.{differ}

and_false : (b : Bool) → (b && false) ≡ false
and_false true = refl
and_false false = refl

pub not_of_revision : (id : NodeId) (txn : TxnName) → id.place ≡ places.In txn → is_revision_id id ≡ false
not_of_revision id txn is = ap (λ (p : Place). is_lasting_part id.node && is_lasting_part id.copy && is_revision_place p) is ∙ and_false (is_lasting_part id.node && is_lasting_part id.copy)

module _ (look : RevisionBytes) (top base : ℕ) (trees : ℕ → TreeFunction) (shown : ShowTrees look top trees) (le : base ≤ top) (txn : TxnName) (f : Folder) (own : Own) (draft : IsDraft look top base txn f own) where
  module _ (p : Path) (d : OwnNode) (here : own p ≡ Some d) where
    abbrev pub Below : PathName → NodeRev → Type 0
    Below name u = stands_under look (Some d) (λ q v. stands_at look p own (StandsAt look base) q v) (name ∷ []) u

    rule : AreEntriesOf Below d.entries (λ name. head_at (under p own (name ∷ [])))
    rule = (rule_here look top base trees shown le txn f own draft p d here).1

    pub lasting : (name : PathName) (u : NodeRev) → Below name u → is_revision_id u.id ≡ true
    lasting name u at = lasting_id u (of_id_lasting look u.id u ((agrees_below look top base trees shown le txn f own draft p d here).read (name ∷ []) u at))

    pub heads : (entries : List DirEntry) → d.entries ≡ Some entries → (name : PathName) → IsEntryOf (Below name) (named name entries) (head_at (own (p ++ name ∷ [])))
    heads entries is name =
        let all = subst (λ (o : Option (List DirEntry)). AreEntriesOf Below o (λ name. head_at (under p own (name ∷ [])))) is rule in
        subst (λ (o : Option OwnNode). IsEntryOf (Below name) (named name entries) (head_at o)) (under_is p own (name ∷ [])) (all name)

    -- without a list of its own it has nothing of the transaction's
    pub bare_dir : d.entries ≡ None → (name : PathName) → own (p ++ name ∷ []) ≡ None
    bare_dir is name =
        let all = subst (λ (o : Option (List DirEntry)). AreEntriesOf Below o (λ name. head_at (under p own (name ∷ [])))) is rule in
        sym (under_is p own (name ∷ [])) ∙ head_none (under p own (name ∷ [])) (all name)

    -- an id of the transaction is that of what stands there
    pub child_own : (name : PathName) (id : NodeId) → id_named d.entries name ≡ Some id → is_revision_id id ≡ false → (w : OwnNode) × (own (p ++ name ∷ []) ≡ Some w) × (w.node.id ≡ id)
    child_own name id is mine = by d.entries refl is
      where
        behind : (e : DirEntry) → e.id ≡ id → (o : Option OwnNode) → own (p ++ name ∷ []) ≡ o → IsEntryOf (Below name) (Some e) (head_at o) → (w : OwnNode) × (own (p ++ name ∷ []) ≡ Some w) × (w.node.id ≡ id)
        behind e same None there h = absurd (differ (is_revision_id id) (subst (λ (i : NodeId). is_revision_id i ≡ true) (sym h.2 ∙ same) (lasting name h.0 h.1)) mine)
        behind e same (Some w) there h = (w, there, sym h.0 ∙ same)

        in_list : (o : Option DirEntry) → option_map (λ (e : DirEntry). e.id) o ≡ Some id → IsEntryOf (Below name) o (head_at (own (p ++ name ∷ []))) → (w : OwnNode) × (own (p ++ name ∷ []) ≡ Some w) × (w.node.id ≡ id)
        in_list None h e = absurd (let clash : None ≡ Some id = h in cc)
        in_list (Some e) h is_entry = let same : e.id ≡ id = (let g = h in cc) in behind e same (own (p ++ name ∷ [])) refl is_entry

        by : (o : Option (List DirEntry)) → d.entries ≡ o → id_named o name ≡ Some id → (w : OwnNode) × (own (p ++ name ∷ []) ≡ Some w) × (w.node.id ≡ id)
        by None e h = absurd (let clash : None ≡ Some id = h in cc)
        by (Some entries) e h = in_list (named name entries) h (heads entries e name)

    -- and what stands there has an entry
    pub child_named : (name : PathName) (w : OwnNode) → own (p ++ name ∷ []) ≡ Some w → (id_named d.entries name ≡ Some w.node.id) × (is_revision_id w.node.id ≡ false)
    child_named name w at = (by d.entries refl, not_of_revision w.node.id txn (draft.places (p ++ name ∷ []) w at))
      where
        in_list : (o : Option DirEntry) → IsEntryOf (Below name) o (head_at (Some w)) → option_map (λ (e : DirEntry). e.id) o ≡ Some w.node.id
        in_list None h = absurd h
        in_list (Some e) h = ap (λ (i : NodeId). Some i) h.0

        by : (o : Option (List DirEntry)) → d.entries ≡ o → id_named o name ≡ Some w.node.id
        by None e = absurd (let clash : None ≡ Some w = sym (bare_dir e name) ∙ at in cc)
        by (Some entries) e = in_list (named name entries) (subst (λ (o : Option OwnNode). IsEntryOf (Below name) (named name entries) (head_at o)) at (heads entries e name))

  -- what is above an own node-revision is the transaction's own, too
  pub above_own : (a b : Path) (v : OwnNode) → own (a ++ b) ≡ Some v → (d : OwnNode) × (own a ≡ Some d)
  above_own a b v at = by (under a own []) refl
    where
      by : (o : Option OwnNode) → under a own [] ≡ o → (d : OwnNode) × (own a ≡ Some d)
      by None is =
          let none = none_own look top b (under a own) (above_at a own at_top) (λ q u. stands_at look a own (StandsAt look base) q u) (rules_under look top a own at_top (StandsAt look base) draft.rules) is in
          absurd (let clash : None ≡ Some v = sym none ∙ under_is a own b ∙ at in cc)
      by (Some d) is = (d, ap own (sym (append-nil a)) ∙ sym (under_is a own []) ∙ is)
