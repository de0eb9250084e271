use Rattle.std.proofs.Common.{◌≡◌, Some, sym, ap, subst, ◌∙◌, inr}
use Rattle.std.proofs.lemmas.Result.{err_from_is_err_and}
use Rattle.fsfs_base.specs.declared.fields.txn_name.TxnName.{TxnName}
use Rattle.fsfs_noderev.specs.Ids.{part_value}
use Rattle.fsfs_noderev.specs.declared.node_id.NodeId.{NodeId}
use Rattle.fsfs_draft.specs.Drafts.{Folder}
use Rattle.fsfs_draft.specs.Steps.{with_kept, kept_at}
use Rattle.fsfs_draft.specs.Views.{kept_value, new_kept, opened_kept}
use Rattle.fsfs_edit.specs.DagEdits.Made.{IsNewNode, IsAmissNode}
use Rattle.fsfs_edit.proofs.MakingNew.{want_as}
use Rattle.fsfs_dag.specs.Listing.Views.{listed}
use Rattle.fsfs_draft.proofs.HeldLists.{own_same}
use Rattle.fsfs_edit.proofs.dag_edits.made.new_child.Goals as goal

pub returns-in_err-node-clause-cause : goal.returns-in_err-node-clause-cause
returns-in_err-node-clause-cause g c =
    let r = err_from_is_err_and c.from_residual.result c.from_residual.ensures.1 in
    rw (r.1, r.2) (want_as _ (IsAmissNode (g.N.Own.folder c.args.own.now) c.args.dir.now) c.in_err-node.field-0.0 (λ h. inr (c.id_with.result.copy, h)) c.in_err-node.ensures.cause)

pub returns-clause-done : goal.returns-clause-done
returns-clause-done g c =
    let f = g.N.Own.folder c.args.own.now in
    let between = g.N.Own.folder c.drawn_node_part.new.own in
    let k = kept_value c.in-Some-kept.kept.now in
    let w = c.in_ok-child.child in
    let done = c.in_ok-node.ensures.done in
    let there : kept_at between.nodes c.args.dir.now ≡ Some k = sym c.in-Some-kept.ensures in
    let here : kept_at f.nodes c.args.dir.now ≡ Some k = subst (λ (h : Folder). kept_at h.nodes c.args.dir.now ≡ Some k) done.1 there in
    let both : Some (kept_value c.in-Some.kept.now) ≡ Some k = c.in-Some.ensures ∙ here in
    let one : kept_value c.in-Some.kept.now ≡ k = cc in
    let made : IsNewNode (g.N.Own.txn c.args.own.now) k.node w c.args.kind c.args.name.now = subst (λ (txn : TxnName). IsNewNode txn k.node w c.args.kind c.args.name.now) (c.name-txn.ensures ∙ c.in_ok-node.ensures.name) c.in_ok-child.ensures.told in
    let copies : c.in-Some.kept.now.node.id.copy ≡ w.id.copy = (λ i. (one i).node.id.copy) ∙ sym made.copy in
    let to_key : w.id.copy ≡ c.id_with.result.copy = sym copies ∙ ap (λ (i : NodeId). i.copy) (sym c.id_with.ensures) in
    let put = c.in_ok-put_child.ensures.done k there in
    record {
      k = k;
      here = here;
      child = w;
      id_is = sym c.id_of-id.ensures;
      made = made;
      part = ap part_value c.in_ok-child.ensures.node ∙ done.0;
      free = (λ i. f.nodes (part_value (c.in_ok-child.ensures.node i)) (part_value (to_key i))) ∙ done.2;
      new = put.new;
      replaced = put.put;
      after_is = subst (λ (h : Folder). g.N.Own.folder c.put_child.new.self ≡ record h { nodes = with_kept c.args.dir.now (opened_kept k put.new) (with_kept w.id (new_kept w) h.nodes) }) done.1 put.after_is;
    }

pub put_child-requires-clause-entries : goal.put_child-requires-clause-entries
put_child-requires-clause-entries g c =
    own_same (g.N.Own.folder c.args.own.now) (g.N.Own.folder c.drawn_node_part.new.own) c.args.dir.now (listed c.args.entries) (ap (λ (h : Folder). h.nodes) c.in_ok-node.ensures.done.1) c.requires
