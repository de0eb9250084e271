-- What the items of a transaction come to are the changed paths of the revision.
use Rattle.std.proofs.Common.{◌≡◌, ◌∙◌, ℕ, true, List, Option, Some, None, refl, sym, ap, subst}
use Rattle.std.specs.Prelude.{◌≢◌, Contains, option_map, unwrap_or}
use Rattle.std.specs.FinMap.{FinMap, get}
use Rattle.fsfs_base.specs.Paths.{Path, path_cmp}
use Rattle.fsfs_base.specs.declared.action.Action.TheVariants.{Delete}
use Rattle.fsfs_base.specs.declared.fields.txn_name.TxnName.{TxnName}
use Rattle.fsfs_tree.specs.declared.change_map.Change.{Change}
use Rattle.fsfs_model.specs.declared.flat.mark.Mark.{Mark}
use Rattle.fsfs_model.specs.Flat.Folding.{fold}
use Rattle.fsfs_revision.specs.Told.{RevisionBytes}
use Rattle.fsfs_noderev.specs.declared.node_id.NodeId.{NodeId}
use Rattle.fsfs_noderev.specs.declared.node_id.Place.TheVariants as places
use Rattle.fsfs_noderev.specs.declared.node_rev.NodeRev.{NodeRev}
use Rattle.fsfs_noderev.specs.declared.changes.item.ChangeItem.{ChangeItem}
use Rattle.fsfs_revision.specs.Nodes.{is_revision_id}
use Rattle.fsfs_revision.specs.Shows.Reading.{StandsAt}
use Rattle.fsfs_revision.specs.Shows.Chains.{own_rev}
use Rattle.fsfs_stands.specs.Changes.{HasItems, Said, IsChangeOf, FitsTree, AreChangesOf}
use Rattle.fsfs_draft.specs.Drafts.{AreItemsOf}
use Rattle.fsfs_edit.specs.Folds.FoldedItems.{fold_items, item_at}
use Rattle.fsfs_edit.specs.Folds.Marks.{Tells, AgreesWith}
use Rattle.fsfs_final.specs.Pieces.Naming.{FinalIds}
use Rattle.fsfs_final.proofs.OrderLists.{differ}
use Rattle.fsfs_final.proofs.OwnChildren.{not_of_revision}
use Rattle.fsfs_final.specs.FittingChanges.{ChangesFit}
use Rattle.fsfs_commit.specs.FinalRev.Items.{told_item, AreFinalItems}
use Rattle.fsfs_commit.specs.FinalRev.FinalBytes.{TellsItems}
use Rattle.fsfs_commit.proofs.ItemLemmas.{told_at, told_agrees, told_id, told_delete, told_from, contained_at, at_contained, agreed, agreed_back}
use Rattle.fsfs_txn.proofs.Saying.{say_marks}

module _ (txn : TxnName) (items : List ChangeItem) (ids : FinalIds) (told : List ChangeItem) (are : AreFinalItems txn items ids told) (marks : List Mark) (of_marks : AreItemsOf items marks) where
  at_path : (p : Path) → item_at told p ≡ option_map (told_item txn ids) (item_at are.folded p)
  at_path p = ap (λ (l : List ChangeItem). item_at l p) are.told_are ∙ told_at txn ids are.folded p

  pub agrees : (p : Path) → AgreesWith (item_at told p) (fold marks p)
  agrees p =
      subst (λ (o : Option ChangeItem). AgreesWith o (fold marks p)) (sym (at_path p))
      (told_agrees txn ids (item_at are.folded p) (fold marks p) (are.marks marks (say_marks items marks of_marks) p))

  -- an item, and what it was made of
  record Made (item : ChangeItem) : Type 0 where
    from : ChangeItem
    at : item_at are.folded item.path ≡ Some from
    is : told_item txn ids from ≡ item

  made_of : (item : ChangeItem) → Contains told item → Made item
  made_of item has =
      let f = told_from txn ids (item_at are.folded item.path) item (sym (at_path item.path) ∙ contained_at told are.once item has) in
      record { from = f.0; at = f.1; is = f.2 }

  -- no delete: the id that is known of its path, or one of the transaction
  id_is : (item : ChangeItem) → Contains told item → item.action ≢ Delete → (y : NodeId) × (item.id ≡ unwrap_or (ids item.path) (record y { place = places.In txn }))
  id_is item has other =
      let m = made_of item has in
      let from_other : m.from.action ≢ Delete = (λ d. other (ap (λ (x : ChangeItem). x.action) (sym m.is) ∙ d)) in (
        m.from.id,
        ap (λ (x : ChangeItem). x.id) (sym m.is) ∙ told_id txn ids m.from from_other
            ∙ ap (λ (x : ChangeItem). unwrap_or (ids x.path) (record m.from.id { place = places.In txn })) m.is,
      )

  pub id_known : (item : ChangeItem) (id : NodeId) → Contains told item → item.action ≢ Delete → ids item.path ≡ Some id → item.id ≡ id
  id_known item id has other known = let i = id_is item has other in i.1 ∙ ap (λ (o : Option NodeId). unwrap_or o (record i.0 { place = places.In txn })) known

  pub deleted : (item : ChangeItem) → Contains told item → item.action ≡ Delete → fold_items items item.path ≡ Some item
  deleted item has is =
      let m = made_of item has in
      let was : m.from.action ≡ Delete = ap (λ (x : ChangeItem). x.action) m.is ∙ is in
      sym (are.each item.path) ∙ m.at ∙ ap (λ (x : ChangeItem). Some x) (sym (told_delete txn ids m.from was) ∙ m.is)

  -- over a tree that the changes fit, and where each known id is that of what stands at its path
  module _ (look : RevisionBytes) (n : ℕ) (bytes : List ℕ) (has_items : HasItems bytes told) (fit : ChangesFit look n marks)
      (known : (p : Path) (id : NodeId) (v : NodeRev) → ids p ≡ Some id → StandsAt look n p v → id ≡ v.id) where
    id_fits : (item : ChangeItem) → Contains told item → item.action ≢ Delete → (v : NodeRev) → StandsAt look n item.path v → is_revision_id item.id ≡ true → item.id ≡ v.id
    id_fits item has other v at lasts = by (ids item.path) refl
      where
        by : (o : Option NodeId) → ids item.path ≡ o → item.id ≡ v.id
        by (Some id) e = id_known item id has other e ∙ known item.path id v e at
        by None e =
            let i = id_is item has other in
            let mine : item.id ≡ record i.0 { place = places.In txn } = i.1 ∙ ap (λ (o : Option NodeId). unwrap_or o (record i.0 { place = places.In txn })) e in
            absurd (differ (is_revision_id item.id) lasts (ap is_revision_id mine ∙ not_of_revision (record i.0 { place = places.In txn }) txn refl))

    record Change_of (item : ChangeItem) : Type 0 where
      change : Change
      is : fold marks item.path ≡ Some change
      tells : Tells item change

    change_of : (item : ChangeItem) → Contains told item → Change_of item
    change_of item has =
        let a = agreed item (fold marks item.path) (subst (λ (o : Option ChangeItem). AgreesWith o (fold marks item.path)) (contained_at told are.once item has) (agrees item.path)) in
        record { change = a.0; is = a.1; tells = a.2 }

    tells_change : (item : ChangeItem) (c : Change) → Tells item c → IsChangeOf look n item c
    tells_change item c t = record {
      action = sym t.action;
      kind = Said c.kind t.kind;
      text_changed = sym t.text_changed;
      props_changed = sym t.props_changed;
      source = sym t.source;
    }

    fits : (item : ChangeItem) → Contains told item → FitsTree look n item
    fits item has =
        let c = change_of item has in
        record {
          gone = λ is v at. fit.gone item.path c.change c.is (sym c.tells.action ∙ is) v at;
          there = λ other.
              let w = fit.there item.path c.change c.is (λ is. other (c.tells.action ∙ is)) in
              (w.0, w.1, id_fits item has other w.0 w.1);
        }

    only : (changes : FinMap path_cmp Change) → ((p : Path) → get changes p ≡ fold marks p) → (p : Path) (change : Change) → get changes p ≡ Some change → (item : ChangeItem) × Contains told item × (item.path ≡ p)
    only changes same p change e =
        let i = agreed_back (item_at told p) change (subst (λ (o : Option Change). AgreesWith (item_at told p) o) (sym (same p) ∙ e) (agrees p)) in
        let at = at_contained told p i.0 i.1 in
        (i.0, at.0, at.1)

    pub changes_are : (changes : FinMap path_cmp Change) → ((p : Path) → get changes p ≡ fold marks p) → AreChangesOf look n bytes changes
    changes_are changes same = record {
      items = told;
      items_are = has_items;
      each = λ item has. (let c = change_of item has in (c.change, tells_change item c.change c.tells, same item.path ∙ c.is));
      only = only changes same;
      fits = fits;
    }

    pub tells : ((p : Path) (v : NodeRev) → StandsAt look n p v → own_rev v ≡ n → ids p ≡ Some v.id) → TellsItems look n bytes marks items
    tells here = record {
      told = told;
      has = has_items;
      rising = are.rising;
      each = agrees;
      named = λ item has other v at new. id_known item v.id has other (here item.path v at new);
      deleted = deleted;
    }
