-- Whole edits, of opened directories, a last step and an item.
use Rattle.std.proofs.Common.{◌≡◌, ◌≤◌, ◌-◌, ℕ, true, false, List, [], ◌∷◌, ◌++◌, length, take, refl, sym, ap, subst, ◌∙◌, arith}
use Rattle.std.specs.Prelude.{Option, Some, None, is_some, not, nat_le}
use Rattle.std.proofs.lemmas.Bool.{and_from}
use Rattle.fsfs_base.specs.Paths.{PathName, Path, is_root}
use Rattle.fsfs_base.specs.declared.kind.Kind.{Kind}
use Rattle.fsfs_base.specs.declared.kind.Kind.TheVariants.{File, Dir}
use Rattle.fsfs_tree.specs.Nodes.{Node, TreeFunction}
use Rattle.fsfs_model.specs.Flat.Edits.{is_dir_node, kind_of_node, parent, can_make, mark_of}
use Rattle.fsfs_model.specs.declared.flat.edit.Edit.TheVariants.{MakeDir, MakeFile, Delete, Copy}
use Rattle.fsfs_model.specs.declared.flat.mark.Mark.{Mark}
use Rattle.fsfs_base.specs.declared.fields.txn_name.TxnName.{TxnName}
use Rattle.fsfs_revision.specs.Told.{RevisionBytes}
use Rattle.fsfs_noderev.specs.declared.node_id.NodeId.{NodeId}
use Rattle.fsfs_noderev.specs.declared.node_rev.CopySource.{CopySource}
use Rattle.fsfs_noderev.specs.declared.changes.item.ChangeItem.{ChangeItem}
use Rattle.fsfs_revision.proofs.Walks.{take_front}
use Rattle.fsfs_draft.specs.Drafts.{Kept, Folder, pair_of}
use Rattle.fsfs_draft.specs.Edits.{IsEdited, IsDraftAfter}
use Rattle.fsfs_draft.specs.Steps.{kept_at}
use Rattle.fsfs_draft.specs.Errors.{IfMemory, IsWant, IsFailure, IfStays, of_own}
use Rattle.fsfs_draft.specs.Items.{with_item, IsFileAt}
use Rattle.fsfs_edit.specs.Items.{IsAddOf, IsDeleteOf, AddsItem}
use Rattle.fsfs_edit.specs.DagEdits.Made.{Makes}
use Rattle.fsfs_edit.specs.DagEdits.Copied.{Copies}
use Rattle.fsfs_edit.specs.DagEdits.Taken.{Takes}
use Rattle.fsfs_draft.specs.Walks.{IsAt, HasKind}
use Rattle.fsfs_edit.specs.Ways.{HasRoom, IsOpenedAt}
use Rattle.fsfs_edit.specs.Making.{IsMadeIn}
use Rattle.fsfs_edit.specs.Copying.{IsCopiedTo}
use Rattle.fsfs_edit.specs.Deleting.{before_kept, IsDeletedId, IsGoneId, OfOwn, OfLasting, IsGoneFrom}
use Rattle.fsfs_draft.specs.declared.error.EditError.{EditError}
use Rattle.fsfs_draft.specs.declared.error.EditError.TheVariants as errors
use Rattle.fsfs_draft.specs.declared.txn_noderevs.OwnError.{OwnError}
use Rattle.fsfs_draft.specs.declared.txn_noderevs.OwnError.TheVariants as owns
use Rattle.fsfs_draft.specs.declared.walk.Step.{Step}
use Rattle.fsfs_draft.specs.declared.walk.Step.TheVariants as steps
use Rattle.fsfs_edit.proofs.MakingAt.{kind_some}
use Rattle.fsfs_draft.proofs.Walking.{dir_node, length_push}

-- ---- failures

pub stays : (e : EditError) (P : Type 0) → IsFailure e → P → IfStays e P
stays errors.BenchFault P h p = tt
stays errors.OutOfMemory P h p = p
stays errors.DiskFault P h p = p
stays (errors.Wrong w) P h p = h
stays errors.Lacking P h p = h

pub settle_fails : (e : OwnError) (P Q : Type 0) → (P → Q) → IfMemory e P → IfStays (of_own e) Q
settle_fails owns.OutOfMemory P Q g h = g h
settle_fails owns.BenchFault P Q g h = tt

-- ---- what the flat model accepts

root_more : (p : Path) (x : PathName) → is_root (p ++ x ∷ []) ≡ false
root_more [] x = refl
root_more (y ∷ p) x = refl

parent_more : (p : Path) (x : PathName) → parent (p ++ x ∷ []) ≡ p
parent_more p x = ap (λ (k : ℕ). take k (p ++ x ∷ [])) (let h = length_push p x in let e : length (p ++ x ∷ []) - 1 ≡ length p = omega (arith, h) in e) ∙ take_front p (x ∷ [])

room_made : (tree : TreeFunction) (p : Path) (name : PathName) → HasRoom tree p name → can_make tree (p ++ name ∷ []) ≡ true
room_made tree p name room =
    and_from _ _ (and_from _ _ (ap (λ b. not b) (root_more p name)) (ap (λ (o : Option Node). not (is_some o)) room.1)) (ap (λ (t : Path). is_dir_node (tree t)) (parent_more p name) ∙ dir_node (tree p) room.0)

-- ---- the item

pub file_of : (f : Folder) (path : Path) (id : NodeId) (item : ChangeItem) → item.id ≡ id → IsFileAt f path id → IsFileAt (with_item f item) path item.id
file_of f path id item same h = record { k = h.k; here = ap (λ (i : NodeId). kept_at f.nodes i) same ∙ h.here; path_is = h.path_is }

added_item : (f : Folder) (path : Path) (id : NodeId) (kind : Kind) (source : Option CopySource) (item : ChangeItem) → IsAddOf item id kind path source → IsFileAt f path id → AddsItem (with_item f item) kind path source
added_item f path id kind source item is file = record {
  front = f.items;
  item = item;
  items = refl;
  is = record { id_is = refl; action = is.action; kind_is = is.kind_is; text = is.text; props = is.props; path_is = is.path_is; source_is = is.source_is };
  file = file_of f path id item is.id_is file;
}

pub kind_is : (o : Option Node) (kind : Kind) → HasKind o kind → kind_of_node o ≡ kind
kind_is None kind h = absurd h
kind_is (Some n) kind h = h

module _ (look : RevisionBytes) (trees : ℕ → TreeFunction) (top base : ℕ) (txn : TxnName) (f : Folder) (tree : TreeFunction) (marks : List Mark) (d : IsDraftAfter look trees top base txn f tree marks) (p : Path) (name : PathName)
    (mid : Folder) (dir : NodeId) (o : IsOpenedAt look trees top base txn marks tree d.0.shows.own p Dir mid dir) where
  edited : IsEdited look trees top base txn marks d.0.shows.own
  edited = record { folder = f; draft = d.0.shows.is_draft; made = d.1; says = d.0.says }

  -- ---- a new node

  pub made_in : (kind : Kind) → HasRoom tree p name → (after : Folder) (id : NodeId) → Makes look trees top base txn mid o.now p name kind after → IsFileAt after (p ++ name ∷ []) id
      → (item : ChangeItem) → IsAddOf item id kind (p ++ name ∷ []) None → (settled : Folder) → settled ≡ with_item after item → IsMadeIn look trees top base txn tree marks (p ++ name ∷ []) kind settled
  made_in kind room after id makes file item is settled done = subst (λ (g : Folder). IsMadeIn look trees top base txn tree marks (p ++ name ∷ []) kind g) (sym done) (by kind makes is)
    where
      by : (k : Kind) → Makes look trees top base txn mid o.now p name k after → IsAddOf item id k (p ++ name ∷ []) None → IsMadeIn look trees top base txn tree marks (p ++ name ∷ []) k (with_item after item)
      by File makes is = (
        record {
          accepted = room_made tree p name room;
          draft = makes tree marks d.0.shows.own item (mark_of (MakeFile (p ++ name ∷ [])) trees tree) edited o.opened refl refl (record { path = is.path_is; kind = is.kind_is; action = is.action; text = is.text; props = is.props; source = ap pair_of is.source_is });
        },
        added_item after (p ++ name ∷ []) id File None item is file,
      )
      by Dir makes is = (
        record {
          accepted = room_made tree p name room;
          draft = makes tree marks d.0.shows.own item (mark_of (MakeDir (p ++ name ∷ [])) trees tree) edited o.opened refl refl (record { path = is.path_is; kind = is.kind_is; action = is.action; text = is.text; props = is.props; source = ap pair_of is.source_is });
        },
        added_item after (p ++ name ∷ []) id Dir None item is file,
      )

  -- ---- a copy

  pub copied_in : (from : CopySource) (kind : Kind) → HasRoom tree p name → from.rev ≤ top → HasKind (trees from.rev from.path) kind → (after : Folder) (id : NodeId) → Copies look trees top base txn mid o.now p name from after → IsFileAt after (p ++ name ∷ []) id
      → (item : ChangeItem) → IsAddOf item id kind (p ++ name ∷ []) (Some from) → (settled : Folder) → settled ≡ with_item after item → IsCopiedTo look trees top base txn tree marks (p ++ name ∷ []) from settled
  copied_in from kind room le has after id copies file item is settled done = subst (λ (g : Folder). IsCopiedTo look trees top base txn tree marks (p ++ name ∷ []) from g) (sym done) (
    record {
      accepted = and_from _ _ (and_from _ _ (room_made tree p name room) within) (kind_some (trees from.rev from.path) kind has);
      draft = copies tree marks d.0.shows.own item (mark_of (Copy from.rev from.path (p ++ name ∷ [])) trees tree) edited o.opened refl refl
          (record { path = is.path_is; kind = is.kind_is ∙ ap (λ (k : Kind). Some k) (sym same); action = is.action; text = is.text; props = is.props; source = ap pair_of is.source_is });
    },
    added_item after (p ++ name ∷ []) id (kind_of_node (trees from.rev from.path)) (Some from) item (subst (λ (k : Kind). IsAddOf item id k (p ++ name ∷ []) (Some from)) (sym same) is) file,
  )
    where
      within : nat_le from.rev top ≡ true
      within = grind (arith, le)

      same : kind_of_node (trees from.rev from.path) ≡ kind
      same = kind_is (trees from.rev from.path) kind has

  -- ---- a delete

  gone_id : (step : Step) (id : NodeId) → IsDeletedId f.nodes step id → IsAt look trees base d.0.shows.own (p ++ name ∷ []) step → IsGoneId look trees base d.0.shows.own (p ++ name ∷ []) id
  gone_id (steps.Own at) id is here = OfOwn here.0 here.1 (is ∙ ap (λ (i : NodeId). before_kept i (kept_at f.nodes i)) (sym here.2) ∙ ap (λ (k : Option Kept). before_kept here.0.node.id k) (d.0.shows.is_draft.kept (p ++ name ∷ []) here.0 here.1))
  gone_id (steps.Lasting found) id is here = OfLasting found.node here is

  pub deleted_in : (step : Step) (kind : Kind) → HasKind (tree (p ++ name ∷ [])) kind → IsAt look trees base d.0.shows.own (p ++ name ∷ []) step → (after : Folder) (id : NodeId) → IsDeletedId f.nodes step id → Takes look trees top base txn mid o.now p name after
      → (item : ChangeItem) → IsDeleteOf item id kind (p ++ name ∷ []) → (settled : Folder) → settled ≡ with_item after item → IsGoneFrom look trees top base txn d.0.shows.own tree marks (p ++ name ∷ []) settled
  deleted_in step kind has at after id deleted takes item is settled done = subst (λ (g : Folder). IsGoneFrom look trees top base txn d.0.shows.own tree marks (p ++ name ∷ []) g) (sym done) (
    record {
      accepted = and_from _ _ (ap (λ b. not b) (root_more p name)) (kind_some (tree (p ++ name ∷ [])) kind has);
      draft = takes tree marks d.0.shows.own item (mark_of (Delete (p ++ name ∷ [])) trees tree) edited o.opened refl refl (record { path = is.path_is; kind = kind_same; action = is.action; text = is.text; props = is.props; source = ap pair_of is.source_is });
    },
    record {
      front = after.items;
      item = item;
      items = refl;
      is = record { id_is = refl; action = is.action; kind_is = kind_same; text = is.text; props = is.props; path_is = is.path_is; source_is = is.source_is };
      gone = subst (λ (i : NodeId). IsGoneId look trees base d.0.shows.own (p ++ name ∷ []) i) (sym is.id_is) (gone_id step id deleted at);
    },
  )
    where
      kind_same : item.kind ≡ Some (kind_of_node (tree (p ++ name ∷ [])))
      kind_same = is.kind_is ∙ ap (λ (k : Kind). Some k) (sym (kind_is (tree (p ++ name ∷ [])) kind has))
