use Rattle.std.proofs.Common.{◌≡◌, true, Some, None, refl, sym, ap, subst, ◌∙◌, arith}
use Rattle.std.specs.Prelude.{IfOk, IfErr}
use Rattle.std.proofs.lemmas.Result.{err_from_is_err_and}
use Rattle.fsfs_revision.proofs.Keeping.{keeps_trans}
use Rattle.fsfs_revision.specs.Told.{Knows}
use Rattle.fsfs_noderev.specs.declared.node_id.NodeId.{NodeId}
use Rattle.fsfs_revision.specs.Nodes.{is_revision_id}
use Rattle.fsfs_revision.specs.Shows.Reading.{named, offset_of}
use Rattle.fsfs_dag.specs.declared.node.PlacedNode.{PlacedNode}
use Rattle.fsfs_dag.specs.Views.{entry_value}
use Rattle.fsfs_draft.specs.Drafts.{Kept}
use Rattle.fsfs_draft.specs.Steps.{kept_at}
use Rattle.fsfs_dag.specs.Listing.Views.{listed}
use Rattle.fsfs_draft.specs.Entries.{IsWithin, IsListedAs, FailsLike}
use Rattle.fsfs_draft.specs.Errors.{IsWant}
use Rattle.fsfs_edit.specs.DagEdits.Mutable.{IsAmiss, IsChildChanged}
use Rattle.fsfs_draft.specs.Views.{kept_value}
use Rattle.fsfs_draft.proofs.EditLaw.{edits_keep_drafts}
use Rattle.fsfs_edit.proofs.Alike.{changed_as}
use Rattle.fsfs_edit.proofs.Steps.{changed_proto, want_disk}
use Rattle.fsfs_draft.proofs.OwnEntries.{there_kept, kept_same, pred_within, entries_here, entries_fail, has_named, own_entry, lasting_entry, entry_fails}
use Rattle.fsfs_edit.proofs.Making.{lasting_leaves}
use Rattle.fsfs_draft.proofs.HeldLists.{own_listed}
use Rattle.fsfs_edit.proofs.dag_edits.mutable.make_mutable.Goals as goal

pub returns-in_default-clause-draft : goal.returns-in_default-clause-draft
returns-in_default-clause-draft g c = λ look trees top base nodes p d knows shown le draft here same dir some.
    there_kept look top base trees shown le (g.N.Own.txn c.args.own.now) (g.N.Own.folder c.args.own.now) nodes draft p d here dir
    (ap (λ (i : NodeId). kept_at (g.N.Own.folder c.args.own.now).nodes i) same ∙ sym c.in_default.ensures)

pub returns-in_err-entries-clause-draft : goal.returns-in_err-entries-clause-draft
returns-in_err-entries-clause-draft g c = λ look trees top base nodes p d knows shown le draft here same dir some.
    let r = err_from_is_err_and c.from_residual.result c.from_residual.ensures.1 in
    let k = kept_same look top base trees shown le (g.N.Own.txn c.args.own.now) (g.N.Own.folder c.args.own.now) nodes draft p d here dir c.args.dir.now (kept_value c.in-Some.kept.now) same (sym c.in-Some.ensures) in
    let within : IsWithin top c.in-Some.kept.now.node.predecessor = subst (λ (x : Kept). IsWithin top x.node.predecessor) (sym k) (pred_within look top base trees shown le (g.N.Own.txn c.args.own.now) (g.N.Own.folder c.args.own.now) nodes draft p d here dir) in
    let e = c.in_err-entries.field-0.0 in
    rw (r.1, r.2) (entries_fail look top base trees shown le (g.N.Own.txn c.args.own.now) (g.N.Own.folder c.args.own.now) nodes draft p d here dir e
    (subst (λ (x : Kept). FailsLike look x e) k (c.in_err-entries.ensures.fails look top knows within)))

pub returns-in_default-get-clause-draft : goal.returns-in_default-get-clause-draft
returns-in_default-get-clause-draft g c = λ look trees top base nodes p d knows shown le draft here same dir some.
    let k = kept_same look top base trees shown le (g.N.Own.txn c.args.own.now) (g.N.Own.folder c.args.own.now) nodes draft p d here dir c.args.dir.now (kept_value c.in-Some.kept.now) same (sym c.in-Some.ensures) in
    let within : IsWithin top c.in-Some.kept.now.node.predecessor = subst (λ (x : Kept). IsWithin top x.node.predecessor) (sym k) (pred_within look top base trees shown le (g.N.Own.txn c.args.own.now) (g.N.Own.folder c.args.own.now) nodes draft p d here dir) in
    let t = subst (λ (x : Kept). IsListedAs look x (listed c.in_ok-entries.entries)) k (c.in_ok-entries.ensures.told look top knows within) in
    let all = entries_here look top base trees shown le (g.N.Own.txn c.args.own.now) (g.N.Own.folder c.args.own.now) nodes draft p d here dir t.entries t.of in
    let is : named c.args.name.now t.entries ≡ None = sym (c.in_default-get.ensures ∙ t.alike c.args.name.now) in
    has_named look top base trees shown le (g.N.Own.txn c.args.own.now) (g.N.Own.folder c.args.own.now) nodes draft p d here dir c.args.name.now t.entries all some is

pub returns-then-not-is_revision_id-clause-draft : goal.returns-then-not-is_revision_id-clause-draft
returns-then-not-is_revision_id-clause-draft g c = λ look trees top base nodes p d knows shown le draft here same dir some.
    let k = kept_same look top base trees shown le (g.N.Own.txn c.args.own.now) (g.N.Own.folder c.args.own.now) nodes draft p d here dir c.args.dir.now (kept_value c.in-Some.kept.now) same (sym c.in-Some.ensures) in
    let within : IsWithin top c.in-Some.kept.now.node.predecessor = subst (λ (x : Kept). IsWithin top x.node.predecessor) (sym k) (pred_within look top base trees shown le (g.N.Own.txn c.args.own.now) (g.N.Own.folder c.args.own.now) nodes draft p d here dir) in
    let t = subst (λ (x : Kept). IsListedAs look x (listed c.in_ok-entries.entries)) k (c.in_ok-entries.ensures.told look top knows within) in
    let all = entries_here look top base trees shown le (g.N.Own.txn c.args.own.now) (g.N.Own.folder c.args.own.now) nodes draft p d here dir t.entries t.of in
    let x = entry_value c.in-Some-get.entry.now in
    let is : named c.args.name.now t.entries ≡ Some x = sym (c.in-Some-get.ensures ∙ t.alike c.args.name.now) in
    let v = own_entry look top base trees shown le (g.N.Own.txn c.args.own.now) (g.N.Own.folder c.args.own.now) nodes draft p d here dir c.args.name.now t.entries all x is (sym c.if-not-is_revision_id.ensures) in
    (nodes, draft, λ q. refl, v.0, v.1, v.2, λ tree marks first o. edits_keep_drafts.has look trees top base (g.N.Own.txn c.args.own.now) (g.N.Own.folder c.args.own.now) tree marks first nodes p c.args.name.now v.0 o v.1)

pub returns-in_err-old-clause-draft : goal.returns-in_err-old-clause-draft
returns-in_err-old-clause-draft g c = λ look trees top base nodes p d knows shown le draft here same dir some.
    let r = err_from_is_err_and c.from_residual-in_err-old.result c.from_residual-in_err-old.ensures.1 in
    let k = kept_same look top base trees shown le (g.N.Own.txn c.args.own.now) (g.N.Own.folder c.args.own.now) nodes draft p d here dir c.args.dir.now (kept_value c.in-Some.kept.now) same (sym c.in-Some.ensures) in
    let within : IsWithin top c.in-Some.kept.now.node.predecessor = subst (λ (x : Kept). IsWithin top x.node.predecessor) (sym k) (pred_within look top base trees shown le (g.N.Own.txn c.args.own.now) (g.N.Own.folder c.args.own.now) nodes draft p d here dir) in
    let t = subst (λ (x : Kept). IsListedAs look x (listed c.in_ok-entries.entries)) k (c.in_ok-entries.ensures.told look top knows within) in
    let all = entries_here look top base trees shown le (g.N.Own.txn c.args.own.now) (g.N.Own.folder c.args.own.now) nodes draft p d here dir t.entries t.of in
    let x = entry_value c.in-Some-get.entry.now in
    let is : named c.args.name.now t.entries ≡ Some x = sym (c.in-Some-get.ensures ∙ t.alike c.args.name.now) in
    let lasts : is_revision_id x.id ≡ true = sym c.if-not-is_revision_id.ensures in
    let u = lasting_entry look top base trees shown le (g.N.Own.txn c.args.own.now) (g.N.Own.folder c.args.own.now) nodes draft p d here dir c.args.name.now t.entries all x is lasts in
    let le_u = u.2 in
    let later : Knows (g.B.Book.told c.listed_in.new.book).revs (offset_of x.id.place).rev look = λ n h. c.in_ok-entries.ensures.kept.revs n (look n) (knows n (omega (arith, h, le_u))) in
    let e = c.in_err-old.field-0.0 in
    rw (r.1, r.2) (entry_fails look top base trees shown le (g.N.Own.txn c.args.own.now) (g.N.Own.folder c.args.own.now) nodes draft p d here dir c.args.name.now t.entries all x is (λ (n : PlacedNode). n.node) lasts e
    (c.in_err-old.ensures.told look later))

pub returns-clause-draft : goal.returns-clause-draft
returns-clause-draft g c = λ look trees top base nodes p d knows shown le draft here same dir some.
    let k = kept_same look top base trees shown le (g.N.Own.txn c.args.own.now) (g.N.Own.folder c.args.own.now) nodes draft p d here dir c.args.dir.now (kept_value c.in-Some.kept.now) same (sym c.in-Some.ensures) in
    let within : IsWithin top c.in-Some.kept.now.node.predecessor = subst (λ (x : Kept). IsWithin top x.node.predecessor) (sym k) (pred_within look top base trees shown le (g.N.Own.txn c.args.own.now) (g.N.Own.folder c.args.own.now) nodes draft p d here dir) in
    let t = subst (λ (x : Kept). IsListedAs look x (listed c.in_ok-entries.entries)) k (c.in_ok-entries.ensures.told look top knows within) in
    let all = entries_here look top base trees shown le (g.N.Own.txn c.args.own.now) (g.N.Own.folder c.args.own.now) nodes draft p d here dir t.entries t.of in
    let x = entry_value c.in-Some-get.entry.now in
    let is : named c.args.name.now t.entries ≡ Some x = sym (c.in-Some-get.ensures ∙ t.alike c.args.name.now) in
    let lasts : is_revision_id x.id ≡ true = sym c.if-not-is_revision_id.ensures in
    let le_u = (lasting_entry look top base trees shown le (g.N.Own.txn c.args.own.now) (g.N.Own.folder c.args.own.now) nodes draft p d here dir c.args.name.now t.entries all x is lasts).2 in
    let later : Knows (g.B.Book.told c.listed_in.new.book).revs (offset_of x.id.place).rev look = λ n h. c.in_ok-entries.ensures.kept.revs n (look n) (knows n (omega (arith, h, le_u))) in
    let u = c.in_ok-old.old.node in
    lasting_leaves look top base trees shown le (g.N.Own.txn c.args.own.now) (g.N.Own.folder c.args.own.now) nodes draft p d here dir c.args.name.now t.entries all x is lasts u (c.in_ok-old.ensures.told look later)
    (g.N.Own.folder c.change_child.new.own) c.change_child.result
    (subst (λ (i : NodeId). IfOk c.change_child.result (IsChildChanged (g.N.Own.folder c.args.own.now) (g.N.Own.folder c.change_child.new.own) (g.N.Own.txn c.args.own.now) i t.entries c.args.name.now x.kind u)) (sym same)
    (changed_as (listed c.in_ok-entries.entries) t.entries t.alike (g.N.Own.folder c.args.own.now) (g.N.Own.folder c.change_child.new.own) (g.N.Own.txn c.args.own.now) c.args.dir.now c.args.name.now x.kind u c.change_child.result c.change_child.ensures.done))
    (subst (λ (i : NodeId). IfErr c.change_child.result (λ y. IsWant y (IsAmiss (g.N.Own.folder c.args.own.now) i u.id))) (sym same) c.change_child.ensures.cause)

pub returns-clause-kept : goal.returns-clause-kept
returns-clause-kept g c = keeps_trans _ _ _ c.in_ok-entries.ensures.kept c.in_ok-old.ensures.kept

pub returns-clause-proto : goal.returns-clause-proto
returns-clause-proto g c = changed_proto (g.N.Own.folder c.args.own.now) (g.N.Own.folder c.change_child.new.own) (g.N.Own.txn c.args.own.now) c.args.dir.now (listed c.in_ok-entries.entries) c.args.name.now c.in-Some-get.entry.now.kind c.in_ok-old.old.node c.change_child.result c.change_child.ensures.done

pub returns-clause-cause : goal.returns-clause-cause
returns-clause-cause g c = record {
  later = omega (arith, c.in_ok-entries.ensures.cause.later, c.in_ok-old.ensures.cause.later);
  failed = want_disk c.change_child.result (IsAmiss (g.N.Own.folder c.args.own.now) c.args.dir.now c.in_ok-old.old.node.id) _ c.change_child.ensures.cause;
}

pub change_child-requires : goal.change_child-requires
change_child-requires g c = own_listed (g.N.Own.folder c.args.own.now) c.args.dir.now (kept_value c.in-Some.kept.now) (listed c.in_ok-entries.entries) c.in-Some.ensures c.in_ok-entries.ensures.own
