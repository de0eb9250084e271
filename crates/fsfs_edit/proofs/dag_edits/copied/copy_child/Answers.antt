use Rattle.std.proofs.Common.{◌≡◌, Some, None, sym, ap, subst, ◌∙◌}
use Rattle.fsfs_base.specs.declared.fields.txn_name.TxnName.{TxnName}
use Rattle.fsfs_noderev.specs.Ids.{part_value}
use Rattle.fsfs_draft.specs.Drafts.{Folder}
use Rattle.fsfs_draft.specs.Steps.{with_kept, kept_at}
use Rattle.fsfs_draft.specs.Views.{kept_value, new_kept, opened_kept}
use Rattle.fsfs_edit.specs.DagEdits.Copied.{IsCopyNode}
use Rattle.fsfs_dag.specs.Listing.Views.{listed}
use Rattle.fsfs_draft.proofs.HeldLists.{own_same}
use Rattle.fsfs_edit.proofs.dag_edits.copied.copy_child.Goals as goal

pub returns-clause-done : goal.returns-clause-done
returns-clause-done g c =
    let f = g.N.Own.folder c.args.own.now in
    let between = g.N.Own.folder c.drawn_part.new.own in
    let k = kept_value c.in-Some.kept.now in
    let w = c.in_ok-child.child in
    let done = c.in_ok-copy.ensures.done in
    let there : kept_at between.nodes c.args.dir.now ≡ Some k = sym c.in-Some.ensures in
    let here : kept_at f.nodes c.args.dir.now ≡ Some k = subst (λ (h : Folder). kept_at h.nodes c.args.dir.now ≡ Some k) done.1 there in
    let made : IsCopyNode (g.N.Own.txn c.args.own.now) k.node c.args.source.now w c.args.from.now c.args.name.now = subst (λ (txn : TxnName). IsCopyNode txn k.node c.args.source.now w c.args.from.now c.args.name.now) (c.name-txn.ensures ∙ c.in_ok-copy.ensures.name) c.in_ok-child.ensures.told in
    let put = c.in_ok-put_child.ensures.done k there in
    record {
      k = k;
      here = here;
      child = w;
      id_is = sym c.id_of-id.ensures;
      copy = made;
      part = ap part_value c.in_ok-child.ensures.copy ∙ done.0;
      free = (λ i. f.nodes (part_value (made.node i)) (part_value (c.in_ok-child.ensures.copy i))) ∙ subst (λ (h : Folder). h.nodes (part_value c.args.source.now.id.node) (part_value c.in_ok-copy.copy) ≡ None) done.1 done.2;
      new = put.new;
      replaced = put.put;
      after_is = subst (λ (h : Folder). g.N.Own.folder c.put_child.new.self ≡ record h { nodes = with_kept c.args.dir.now (opened_kept k put.new) (with_kept w.id (new_kept w) h.nodes) }) done.1 put.after_is;
    }

pub put_child-requires-clause-entries : goal.put_child-requires-clause-entries
put_child-requires-clause-entries g c =
    own_same (g.N.Own.folder c.args.own.now) (g.N.Own.folder c.drawn_part.new.own) c.args.dir.now (listed c.args.entries) (ap (λ (h : Folder). h.nodes) c.in_ok-copy.ensures.done.1) c.requires
