use Rattle.std.proofs.Common.{sym, subst, ap, ◌∙◌}
use Rattle.std.proofs.lemmas.Result.{err_from_is_err_and}
use Rattle.fsfs_noderev.specs.declared.node_id.NodeId.{NodeId}
use Rattle.fsfs_draft.specs.Drafts.{Kept}
use Rattle.fsfs_draft.specs.Steps.{kept_at}
use Rattle.fsfs_dag.specs.Listing.Views.{listed}
use Rattle.fsfs_draft.specs.Entries.{IsWithin, IsListedAs, FailsLike}
use Rattle.fsfs_draft.specs.Taken.{IsEntryTaken}
use Rattle.fsfs_draft.specs.Views.{kept_value}
use Rattle.fsfs_draft.proofs.OwnEntries.{there_kept, kept_same, pred_within, entries_here, entries_fail}
use Rattle.fsfs_edit.proofs.Alike.{taken_as}
use Rattle.fsfs_edit.proofs.Taking.{taken_leaves}
use Rattle.fsfs_draft.proofs.HeldLists.{own_listed}
use Rattle.fsfs_edit.proofs.dag_edits.deleted.take_away.Goals as goal

pub returns-in_default-clause-draft : goal.returns-in_default-clause-draft
returns-in_default-clause-draft g c = λ look trees top base nodes p d knows shown le draft here same dir.
    there_kept look top base trees shown le (g.N.Own.txn c.args.own.now) (g.N.Own.folder c.args.own.now) nodes draft p d here dir
    (ap (λ (i : NodeId). kept_at (g.N.Own.folder c.args.own.now).nodes i) same ∙ sym c.in_default.ensures)

pub returns-in_err-entries-clause-draft : goal.returns-in_err-entries-clause-draft
returns-in_err-entries-clause-draft g c = λ look trees top base nodes p d knows shown le draft here same dir.
    let r = err_from_is_err_and c.from_residual.result c.from_residual.ensures.1 in
    let k = kept_same look top base trees shown le (g.N.Own.txn c.args.own.now) (g.N.Own.folder c.args.own.now) nodes draft p d here dir c.args.dir.now (kept_value c.in-Some.kept.now) same (sym c.in-Some.ensures) in
    let within : IsWithin top c.in-Some.kept.now.node.predecessor = subst (λ (x : Kept). IsWithin top x.node.predecessor) (sym k) (pred_within look top base trees shown le (g.N.Own.txn c.args.own.now) (g.N.Own.folder c.args.own.now) nodes draft p d here dir) in
    let e = c.in_err-entries.field-0.0 in
    rw (r.1, r.2) (entries_fail look top base trees shown le (g.N.Own.txn c.args.own.now) (g.N.Own.folder c.args.own.now) nodes draft p d here dir e
    (subst (λ (x : Kept). FailsLike look x e) k (c.in_err-entries.ensures.fails look top knows within)))

pub returns-clause-draft : goal.returns-clause-draft
returns-clause-draft g c = λ look trees top base nodes p d knows shown le draft here same dir.
    let k = kept_same look top base trees shown le (g.N.Own.txn c.args.own.now) (g.N.Own.folder c.args.own.now) nodes draft p d here dir c.args.dir.now (kept_value c.in-Some.kept.now) same (sym c.in-Some.ensures) in
    let within : IsWithin top c.in-Some.kept.now.node.predecessor = subst (λ (x : Kept). IsWithin top x.node.predecessor) (sym k) (pred_within look top base trees shown le (g.N.Own.txn c.args.own.now) (g.N.Own.folder c.args.own.now) nodes draft p d here dir) in
    let t = subst (λ (x : Kept). IsListedAs look x (listed c.in_ok-entries.entries)) k (c.in_ok-entries.ensures.told look top knows within) in
    let all = entries_here look top base trees shown le (g.N.Own.txn c.args.own.now) (g.N.Own.folder c.args.own.now) nodes draft p d here dir t.entries t.of in
    taken_leaves look top base trees shown le (g.N.Own.txn c.args.own.now) (g.N.Own.folder c.args.own.now) nodes draft p d here dir c.args.name.now t.entries all
    (g.N.Own.folder c.take_entry.new.self)
    (subst (λ (i : NodeId). IsEntryTaken (g.N.Own.folder c.args.own.now) (g.N.Own.folder c.take_entry.new.self) i t.entries c.args.name.now) (sym same)
    (taken_as (listed c.in_ok-entries.entries) t.entries t.alike (g.N.Own.folder c.args.own.now) (g.N.Own.folder c.take_entry.new.self) c.args.dir.now c.args.name.now c.in_ok-take_entry.ensures.done))

pub take_entry-requires-clause-entries : goal.take_entry-requires-clause-entries
take_entry-requires-clause-entries g c = own_listed (g.N.Own.folder c.args.own.now) c.args.dir.now (kept_value c.in-Some.kept.now) (listed c.in_ok-entries.entries) c.in-Some.ensures c.in_ok-entries.ensures.own
