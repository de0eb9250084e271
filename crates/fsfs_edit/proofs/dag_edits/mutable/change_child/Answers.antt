use Rattle.std.proofs.Common.{◌≡◌, Some, sym, subst, ◌∙◌}
use Rattle.fsfs_base.specs.declared.fields.txn_name.TxnName.{TxnName}
use Rattle.fsfs_noderev.specs.declared.node_id.Part.{Part}
use Rattle.fsfs_draft.specs.Steps.{Files, kept_at, IsSuccessor}
use Rattle.fsfs_edit.specs.DagEdits.Mutable.{IsPartFrom}
use Rattle.fsfs_draft.specs.Views.{kept_value}
use Rattle.fsfs_edit.proofs.Steps.{part_nodes}
use Rattle.fsfs_dag.specs.Listing.Views.{listed}
use Rattle.fsfs_draft.proofs.HeldLists.{own_same}
use Rattle.fsfs_edit.proofs.dag_edits.mutable.change_child.Goals as goal

pub returns-clause-done : goal.returns-clause-done
returns-clause-done g c =
    let k = kept_value c.in-Some-kept.kept.now in
    let u = c.args.old.now in
    let w = c.in_ok-child.child in
    let part = c.in_ok-copy.ensures.done in
    let there : kept_at (g.N.Own.folder c.copy_part.new.own).nodes c.args.dir.now ≡ Some k = sym c.in-Some-kept.ensures in
    let put = c.in_ok-put_child.ensures.done k there in
    record {
      k = k;
      here = subst (λ (files : Files). kept_at files c.args.dir.now ≡ Some k) (part_nodes _ _ _ _ _ part.of) there;
      child = w;
      id_is = sym c.id_of-id.ensures;
      next = subst (λ (txn : TxnName). IsSuccessor txn k.node u w c.args.name.now) (c.name-txn.ensures ∙ c.in_ok-copy.ensures.name) c.in_ok-child.ensures.told;
      between = g.N.Own.folder c.copy_part.new.own;
      part = subst (λ (copy : Part). IsPartFrom (g.N.Own.folder c.args.own.now) (g.N.Own.folder c.copy_part.new.own) c.args.dir.now.copy u.id copy) (sym c.in_ok-child.ensures.copy) part;
      new = put.new;
      replaced = put.put;
      after_is = put.after_is;
    }

pub put_child-requires-clause-entries : goal.put_child-requires-clause-entries
put_child-requires-clause-entries g c =
    own_same (g.N.Own.folder c.args.own.now) (g.N.Own.folder c.copy_part.new.own) c.args.dir.now (listed c.args.entries) (part_nodes _ _ _ _ _ c.in_ok-copy.ensures.done.of) c.requires
