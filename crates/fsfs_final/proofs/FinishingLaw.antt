-- What the writer makes of a draft's node-revision is final, in the form of a revision, and in order.
use Rattle.std.proofs.Common.{◌≡◌, ◌∙◌, ℕ, suc, Bool, true, if◌then◌else◌, Option, Some, None, refl, sym, ap, subst, arith}
use Rattle.fsfs_base.specs.Paths.{Path}
use Rattle.fsfs_revision.specs.Told.{RevisionBytes}
use Rattle.fsfs_noderev.specs.declared.node_id.NodeId.{NodeId}
use Rattle.fsfs_noderev.specs.declared.node_id.Part.{Part}
use Rattle.fsfs_noderev.specs.declared.node_id.Part.TheVariants as parts
use Rattle.fsfs_noderev.specs.declared.rep.Contents.{Contents}
use Rattle.fsfs_noderev.specs.declared.node_rev.CopyRoot.{CopyRoot}
use Rattle.fsfs_noderev.specs.declared.node_rev.NodeRev.{NodeRev}
use Rattle.fsfs_revision.specs.Nodes.{is_lasting_part, is_revision_id, has_revision_pred, has_revision_rep, has_revision_root, is_of_revision}
use Rattle.fsfs_revision.specs.Shows.Chains.{own_rev, root_or_own}
use Rattle.fsfs_draft.specs.OwnSides.{NodesAt, in_txn}
use Rattle.fsfs_draft.specs.NodeDrafts.{root_in, IsOwn, IsDraft}
use Rattle.fsfs_final.specs.Final.{final_part, IsFinal}
use Rattle.fsfs_final.specs.Finishing.{final_root, finish, FinishesProps, FinishingIsFinal}
use Rattle.fsfs_final.proofs.Stays.{ready}
use Rattle.fsfs_final.proofs.OrderLaw.{finals_are_in_order}
use Rattle.std.proofs.lemmas.Bool.{and_from, and_parts}

lasts : (n : ℕ) (p : Part) → is_lasting_part (final_part n p) ≡ true
lasts n (parts.New b) = refl
lasts n (parts.Old b) = refl
lasts n (parts.Made b rev) = refl

root_lasts : (n : ℕ) (o : Option CopyRoot) → has_revision_root (final_root n o) ≡ true
root_lasts n None = refl
root_lasts n (Some root) = refl

root_is : (n o : ℕ) (text props : Option Contents) (u : NodeRev) (root : Option CopyRoot) → in_txn u.id.place ≡ true → root_or_own (finish n o text props u) (final_root n root) ≡ root_in n u root
root_is n o text props u None mine = ap (λ (b : Bool). let rev : ℕ = if b then n else own_rev u in (rev, u.created_path)) (sym mine)
root_is n o text props u (Some root) mine = refl

module _ (look : RevisionBytes) (top o : ℕ) (own : NodesAt) (p : Path) (u : NodeRev) (text props : Option Contents) (draft : IsDraft look top top own) (e : own p ≡ Some u) (mine : IsOwn u)
    (has_text : has_revision_rep text ≡ true) (has_props : has_revision_rep props ≡ true) (sets : FinishesProps (suc top) u props) where
  abbrev v : NodeRev
  v = finish (suc top) o text props u

  final : IsFinal (suc top) u (finish (suc top) o text props u)
  final = record {
    node = refl;
    copy = refl;
    rev = refl;
    kind = refl;
    predecessor = refl;
    count = refl;
    created_path = refl;
    copy_from = refl;
    root = root_is (suc top) o text props u u.copy_root mine;
    own_props = sets.own;
    other_props = sets.other;
  }

  pred : has_revision_pred u.predecessor ≡ true
  pred = by u.predecessor refl
    where
      by : (x : Option NodeId) → u.predecessor ≡ x → has_revision_pred x ≡ true
      by None f = refl
      by (Some id) f =
          let r = ready look top top own (omega arith) draft p u e mine (λ none. (let g = sym none ∙ f in cc)) in
          let same : r.1.0 ≡ id = (let g = sym r.1.1 ∙ f in cc) in
          let of : is_of_revision r.1.2.0 ≡ true = r.1.2.1.2.0.1 in
          let id_of : is_revision_id r.1.2.0.id ≡ true = (and_parts _ _ ((and_parts _ _ ((and_parts _ _ ((and_parts _ _ ((and_parts _ _ of).0)).0)).0)).0)).0 in
          subst (λ (z : NodeId). is_revision_id z ≡ true) (r.1.2.2.1 ∙ same) id_of

  of_revision : is_of_revision (finish (suc top) o text props u) ≡ true
  of_revision =
      and_from _ _ (and_from _ _ (and_from _ _ (and_from _ _ (and_from _ _ (and_from _ _ (and_from _ _ (lasts (suc top) u.id.node) (lasts (suc top) u.id.copy)) refl) pred) has_text) has_props) (root_lasts (suc top) u.copy_root)) refl

pub finishing_is_final : FinishingIsFinal
finishing_is_final look top o own p u text props draft e mine has_text has_props before before_props sets =
    let f = final look top o own p u text props draft e mine has_text has_props sets in (
      f,
      of_revision look top o own p u text props draft e mine has_text has_props sets,
      finals_are_in_order look top o own p u (finish (suc top) o text props u) draft e mine f (root_lasts (suc top) u.copy_root) before before_props,
    )
