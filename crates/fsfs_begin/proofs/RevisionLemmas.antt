-- What a transaction that has begun stands for.
use Rattle.std.proofs.Common.{◌≡◌, ℕ, Bool, true, false, ◌&&◌, [], inl, inr, refl, sym, ap, subst, ◌∙◌}
use Rattle.std.specs.Prelude.{Option, Some, None, Result, Ok, Err, if◌then◌else◌}
use Rattle.std.proofs.lemmas.Bool.{and_parts}
use Rattle.fsfs_base.specs.Files.{Files}
use Rattle.fsfs_base.specs.declared.fields.txn_name.TxnName.{TxnName}
use Rattle.fsfs_revision.specs.declared.wrong.Wrong.{Wrong}
use Rattle.fsfs_revision.specs.Told.{RevisionBytes}
use Rattle.fsfs_noderev.specs.Ids.{PartValue, Old, part_value}
use Rattle.fsfs_noderev.specs.declared.node_rev.NodeRev.{NodeRev}
use Rattle.fsfs_revision.specs.Shows.Reading.{RootOf, StandsAt}
use Rattle.fsfs_draft.specs.Own.{OwnNode}
use Rattle.fsfs_draft.specs.Drafts.{Kept, IsBelow}
use Rattle.fsfs_draft.specs.Steps.{same_value}
use Rattle.fsfs_draft.proofs.Bases.{revision_agrees}
use Rattle.fsfs_draft.proofs.Files.{put_files, same_value-is}
use Rattle.fsfs_draft.proofs.WholeLaw.{drafts_are_handed}
use Rattle.fsfs_draft.specs.Views.{new_kept}
use Rattle.fsfs_txn_nodes.specs.Memory.Views.{begun_folder}
use Rattle.fsfs_begin.specs.Begun.{IsBegunOn, StandsForBase}

root_same : (look other : RevisionBytes) (rev : ℕ) (r : Result NodeRev Wrong) → look rev ≡ other rev → RootOf look rev r → RootOf other rev r
root_same look other rev (Ok v) e (bytes, is, root) = (bytes, sym e ∙ is, root)
root_same look other rev (Err w) e (inl (why, is, same)) = inl (why, sym e ∙ is, same)
root_same look other rev (Err w) e (inr (bytes, is, root)) = inr (bytes, sym e ∙ is, root)

pub begun_same : (name : TxnName) (root : NodeRev) (look other : RevisionBytes) → look name.base ≡ other name.base → IsBegunOn look name root → IsBegunOn other name root
begun_same name root look other e (x, of, on) = (x, root_same look other name.base (Ok x) e of, on)

-- ---- what it stands for

old_below : (part : PartValue) → part ≡ Old 0 → IsBelow 0 part
old_below part e = subst (IsBelow 0) (sym e) tt

pub stands_for : (look : RevisionBytes) (name : TxnName) (root : NodeRev) (held : Option Files) → IsBegunOn look name root → StandsForBase look name root held
stands_for look name root held (x, of, on) = λ top trees proto shown rule le.
    let base = name.base in
    let stands : StandsAt look base [] x = (x, of, refl) in
    let ids = rule.root_id base x le stands in
    let n = (revision_agrees look base (trees base) (shown base le) top le).shown [] x stands in
    let v : OwnNode = record { node = root; entries = None; props = None; shown = n.0 } in
    let node_is : part_value root.id.node ≡ Old 0 = ap part_value on.on.node ∙ ids.0 in
    let copy_is : part_value root.id.copy ≡ Old 0 = ap part_value on.copy ∙ ids.1 in
    drafts_are_handed.begun look top base trees shown le name (begun_folder root held proto) x v (record {
      stands = stands;
      ids = (ids.0, ids.1);
      on = on.on;
      copy = on.copy;
      no_copy = on.no_copy;
      root = on.root;
      text = on.text;
      set = on.props;
      entries = refl;
      props = refl;
      path = on.path;
      place = on.place;
      shown = n.1;
      kept = put_files root.id (new_kept root) (λ (node copy : PartValue). None);
      drawn = alone_below root node_is copy_is;
    }) refl
  where
    alone_below : (root : NodeRev) → part_value root.id.node ≡ Old 0 → part_value root.id.copy ≡ Old 0 → (node copy : PartValue) (k : Kept)
        → (if same_value (part_value root.id.node) node && same_value (part_value root.id.copy) copy then Some (new_kept root) else None) ≡ Some k → IsBelow 0 node × IsBelow 0 copy
    alone_below root node_is copy_is node copy k e = by (same_value (part_value root.id.node) node && same_value (part_value root.id.copy) copy) refl e
      where
        by : (b : Bool) → same_value (part_value root.id.node) node && same_value (part_value root.id.copy) copy ≡ b → (if b then Some (new_kept root) else None) ≡ Some k → IsBelow 0 node × IsBelow 0 copy
        by true is f =
            let p = and_parts (same_value (part_value root.id.node) node) (same_value (part_value root.id.copy) copy) is in
            (old_below node (sym (same_value-is (part_value root.id.node) node p.0) ∙ node_is), old_below copy (sym (same_value-is (part_value root.id.copy) copy p.1) ∙ copy_is))
        by false is f = absurd cc
