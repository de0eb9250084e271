use Rattle.std.proofs.Common.{◌≡◌, true, sym, ap, subst, ◌∙◌}
use Rattle.std.specs.Prelude.{IfOk, IfErr, is_some}
use Rattle.std.proofs.lemmas.Result.{err_from_is_err_and}
use Rattle.fsfs_noderev.specs.declared.node_id.NodeId.{NodeId}
use Rattle.fsfs_draft.specs.Drafts.{Kept}
use Rattle.fsfs_draft.specs.Steps.{kept_at}
use Rattle.fsfs_dag.specs.Listing.Views.{listed}
use Rattle.fsfs_draft.specs.Entries.{IsWithin, IsListedAs, FailsLike}
use Rattle.fsfs_draft.specs.Errors.{IsWant}
use Rattle.fsfs_edit.specs.DagEdits.Mutable.{IsAmiss}
use Rattle.fsfs_edit.specs.DagEdits.Copied.{IsCopyPut}
use Rattle.fsfs_draft.specs.Views.{kept_value}
use Rattle.fsfs_edit.proofs.Steps.{some_not_none, want_disk}
use Rattle.fsfs_draft.proofs.OwnEntries.{there_kept, kept_same, pred_within, entries_here, entries_fail, none_named}
use Rattle.fsfs_edit.proofs.Alike.{copied_as}
use Rattle.fsfs_edit.proofs.CopyingNew.{copying_leaves}
use Rattle.fsfs_draft.proofs.HeldLists.{own_listed}
use Rattle.fsfs_edit.proofs.dag_edits.copied.copy_to.Goals as goal

pub returns-in_default-clause-draft : goal.returns-in_default-clause-draft
returns-in_default-clause-draft g c = λ look trees top base nodes p d knows shown le draft here same dir none from_le source.
    there_kept look top base trees shown le (g.N.Own.txn c.args.own.now) (g.N.Own.folder c.args.own.now) nodes draft p d here dir
    (ap (λ (i : NodeId). kept_at (g.N.Own.folder c.args.own.now).nodes i) same ∙ sym c.in_default.ensures)

pub returns-in_err-entries-clause-draft : goal.returns-in_err-entries-clause-draft
returns-in_err-entries-clause-draft g c = λ look trees top base nodes p d knows shown le draft here same dir none from_le source.
    let r = err_from_is_err_and c.from_residual.result c.from_residual.ensures.1 in
    let k = kept_same look top base trees shown le (g.N.Own.txn c.args.own.now) (g.N.Own.folder c.args.own.now) nodes draft p d here dir c.args.dir.now (kept_value c.in-Some.kept.now) same (sym c.in-Some.ensures) in
    let within : IsWithin top c.in-Some.kept.now.node.predecessor = subst (λ (x : Kept). IsWithin top x.node.predecessor) (sym k) (pred_within look top base trees shown le (g.N.Own.txn c.args.own.now) (g.N.Own.folder c.args.own.now) nodes draft p d here dir) in
    let e = c.in_err-entries.field-0.0 in
    rw (r.1, r.2) (entries_fail look top base trees shown le (g.N.Own.txn c.args.own.now) (g.N.Own.folder c.args.own.now) nodes draft p d here dir e
    (subst (λ (x : Kept). FailsLike look x e) k (c.in_err-entries.ensures.fails look top knows within)))

pub returns-then-is_some-clause-draft : goal.returns-then-is_some-clause-draft
returns-then-is_some-clause-draft g c = λ look trees top base nodes p d knows shown le draft here same dir none from_le source.
    let k = kept_same look top base trees shown le (g.N.Own.txn c.args.own.now) (g.N.Own.folder c.args.own.now) nodes draft p d here dir c.args.dir.now (kept_value c.in-Some.kept.now) same (sym c.in-Some.ensures) in
    let within : IsWithin top c.in-Some.kept.now.node.predecessor = subst (λ (x : Kept). IsWithin top x.node.predecessor) (sym k) (pred_within look top base trees shown le (g.N.Own.txn c.args.own.now) (g.N.Own.folder c.args.own.now) nodes draft p d here dir) in
    let t = subst (λ (x : Kept). IsListedAs look x (listed c.in_ok-entries.entries)) k (c.in_ok-entries.ensures.told look top knows within) in
    let all = entries_here look top base trees shown le (g.N.Own.txn c.args.own.now) (g.N.Own.folder c.args.own.now) nodes draft p d here dir t.entries t.of in
    let lacks = none_named look top base trees shown le (g.N.Own.txn c.args.own.now) (g.N.Own.folder c.args.own.now) nodes draft p d here dir c.args.name.now t.entries all none in
    some_not_none _ c.get.result _ (let e : is_some c.get.result ≡ true = cc in e) (c.get.ensures ∙ t.alike c.args.name.now) lacks

pub returns-clause-draft : goal.returns-clause-draft
returns-clause-draft g c = λ look trees top base nodes p d knows shown le draft here same dir none from_le source.
    let k = kept_same look top base trees shown le (g.N.Own.txn c.args.own.now) (g.N.Own.folder c.args.own.now) nodes draft p d here dir c.args.dir.now (kept_value c.in-Some.kept.now) same (sym c.in-Some.ensures) in
    let within : IsWithin top c.in-Some.kept.now.node.predecessor = subst (λ (x : Kept). IsWithin top x.node.predecessor) (sym k) (pred_within look top base trees shown le (g.N.Own.txn c.args.own.now) (g.N.Own.folder c.args.own.now) nodes draft p d here dir) in
    let t = subst (λ (x : Kept). IsListedAs look x (listed c.in_ok-entries.entries)) k (c.in_ok-entries.ensures.told look top knows within) in
    let all = entries_here look top base trees shown le (g.N.Own.txn c.args.own.now) (g.N.Own.folder c.args.own.now) nodes draft p d here dir t.entries t.of in
    let lacks = none_named look top base trees shown le (g.N.Own.txn c.args.own.now) (g.N.Own.folder c.args.own.now) nodes draft p d here dir c.args.name.now t.entries all none in
    copying_leaves look top base trees shown le (g.N.Own.txn c.args.own.now) (g.N.Own.folder c.args.own.now) nodes draft p d here dir c.args.name.now t.entries all lacks c.args.source.now c.args.from.now from_le source
    (g.N.Own.folder c.copy_child.new.own) c.copy_child.result
    (subst (λ (i : NodeId). IfOk c.copy_child.result (IsCopyPut (g.N.Own.folder c.args.own.now) (g.N.Own.folder c.copy_child.new.own) (g.N.Own.txn c.args.own.now) i t.entries c.args.name.now c.args.source.now c.args.from.now)) (sym same)
    (copied_as (listed c.in_ok-entries.entries) t.entries t.alike (g.N.Own.folder c.args.own.now) (g.N.Own.folder c.copy_child.new.own) (g.N.Own.txn c.args.own.now) c.args.dir.now c.args.name.now c.args.source.now c.args.from.now c.copy_child.result c.copy_child.ensures.done))
    (subst (λ (i : NodeId). IfErr c.copy_child.result (λ y. IsWant y (IsAmiss (g.N.Own.folder c.args.own.now) i c.args.source.now.id))) (sym same) c.copy_child.ensures.cause)

pub returns-clause-cause : goal.returns-clause-cause
returns-clause-cause g c = record {
  later = c.in_ok-entries.ensures.cause.later;
  failed = want_disk c.copy_child.result (IsAmiss (g.N.Own.folder c.args.own.now) c.args.dir.now c.args.source.now.id) _ c.copy_child.ensures.cause;
}

pub copy_child-requires : goal.copy_child-requires
copy_child-requires g c = own_listed (g.N.Own.folder c.args.own.now) c.args.dir.now (kept_value c.in-Some.kept.now) (listed c.in_ok-entries.entries) c.in-Some.ensures c.in_ok-entries.ensures.own
