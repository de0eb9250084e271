use Rattle.std.proofs.Common.{◌≡◌, true, Some, None, sym, subst, ◌∙◌, arith}
use Rattle.std.proofs.lemmas.Result.{err_from_is_err_and}
use Rattle.fsfs_revision.proofs.Keeping.{keeps_trans}
use Rattle.fsfs_revision.specs.Told.{Knows}
use Rattle.fsfs_revision.specs.Nodes.{is_revision_id}
use Rattle.fsfs_revision.specs.Shows.Reading.{named, offset_of}
use Rattle.fsfs_dag.specs.declared.node.PlacedNode.{PlacedNode}
use Rattle.fsfs_dag.specs.Views.{entry_value}
use Rattle.fsfs_draft.specs.Drafts.{Kept}
use Rattle.fsfs_dag.specs.Listing.Views.{listed}
use Rattle.fsfs_draft.specs.Entries.{IsWithin, IsListedAs, FailsLike}
use Rattle.fsfs_draft.specs.Views.{kept_value}
use Rattle.fsfs_draft.proofs.OwnEntries.{kept_same, pred_within, entries_here, entries_fail, lacks_node, own_child, lasting_entry, lasting_child, of_entry_read, of_entry_fails}
use Rattle.fsfs_draft.proofs.walk.own_child.Goals as goal

pub returns-in_err-entries-clause-draft : goal.returns-in_err-entries-clause-draft
returns-in_err-entries-clause-draft g c = λ look trees top base nodes p d knows shown le draft here same dir.
    let r = err_from_is_err_and c.from_residual.result c.from_residual.ensures.1 in
    let k = kept_same look top base trees shown le (g.N.Own.txn c.args.own.now) (g.N.Own.folder c.args.own.now) nodes draft p d here dir c.args.dir.now (kept_value c.in-Some.kept.now) same (sym c.in-Some.ensures) in
    let within : IsWithin top c.in-Some.kept.now.node.predecessor = subst (λ (x : Kept). IsWithin top x.node.predecessor) (sym k) (pred_within look top base trees shown le (g.N.Own.txn c.args.own.now) (g.N.Own.folder c.args.own.now) nodes draft p d here dir) in
    let e = c.in_err-entries.field-0.0 in
    rw (r.1, r.2) (entries_fail look top base trees shown le (g.N.Own.txn c.args.own.now) (g.N.Own.folder c.args.own.now) nodes draft p d here dir e (subst (λ (x : Kept). FailsLike look x e) k (c.in_err-entries.ensures.fails look top knows within)))

pub returns-in_default-get-clause-draft : goal.returns-in_default-get-clause-draft
returns-in_default-get-clause-draft g c = λ look trees top base nodes p d knows shown le draft here same dir.
    let k = kept_same look top base trees shown le (g.N.Own.txn c.args.own.now) (g.N.Own.folder c.args.own.now) nodes draft p d here dir c.args.dir.now (kept_value c.in-Some.kept.now) same (sym c.in-Some.ensures) in
    let within : IsWithin top c.in-Some.kept.now.node.predecessor = subst (λ (x : Kept). IsWithin top x.node.predecessor) (sym k) (pred_within look top base trees shown le (g.N.Own.txn c.args.own.now) (g.N.Own.folder c.args.own.now) nodes draft p d here dir) in
    let t = subst (λ (x : Kept). IsListedAs look x (listed c.in_ok-entries.entries)) k (c.in_ok-entries.ensures.told look top knows within) in
    let all = entries_here look top base trees shown le (g.N.Own.txn c.args.own.now) (g.N.Own.folder c.args.own.now) nodes draft p d here dir t.entries t.of in
    let is : named c.args.name.now t.entries ≡ None = sym (c.in_default-get.ensures ∙ t.alike c.args.name.now) in
    lacks_node look top base trees shown le (g.N.Own.txn c.args.own.now) (g.N.Own.folder c.args.own.now) nodes draft p d here dir c.args.name.now t.entries all is

pub returns-then-not-is_revision_id-clause-draft : goal.returns-then-not-is_revision_id-clause-draft
returns-then-not-is_revision_id-clause-draft g c = λ look trees top base nodes p d knows shown le draft here same dir.
    let k = kept_same look top base trees shown le (g.N.Own.txn c.args.own.now) (g.N.Own.folder c.args.own.now) nodes draft p d here dir c.args.dir.now (kept_value c.in-Some.kept.now) same (sym c.in-Some.ensures) in
    let within : IsWithin top c.in-Some.kept.now.node.predecessor = subst (λ (x : Kept). IsWithin top x.node.predecessor) (sym k) (pred_within look top base trees shown le (g.N.Own.txn c.args.own.now) (g.N.Own.folder c.args.own.now) nodes draft p d here dir) in
    let t = subst (λ (x : Kept). IsListedAs look x (listed c.in_ok-entries.entries)) k (c.in_ok-entries.ensures.told look top knows within) in
    let all = entries_here look top base trees shown le (g.N.Own.txn c.args.own.now) (g.N.Own.folder c.args.own.now) nodes draft p d here dir t.entries t.of in
    let x = entry_value c.in-Some-get.entry.now in
    let is : named c.args.name.now t.entries ≡ Some x = sym (c.in-Some-get.ensures ∙ t.alike c.args.name.now) in
    own_child look top base trees shown le (g.N.Own.txn c.args.own.now) (g.N.Own.folder c.args.own.now) nodes draft p d here dir c.args.name.now t.entries all x is (sym c.if-not-is_revision_id.ensures)

pub returns-in_err-found-clause-draft : goal.returns-in_err-found-clause-draft
returns-in_err-found-clause-draft g c = λ look trees top base nodes p d knows shown le draft here same dir.
    let r = err_from_is_err_and c.from_residual-in_err-found.result c.from_residual-in_err-found.ensures.1 in
    let k = kept_same look top base trees shown le (g.N.Own.txn c.args.own.now) (g.N.Own.folder c.args.own.now) nodes draft p d here dir c.args.dir.now (kept_value c.in-Some.kept.now) same (sym c.in-Some.ensures) in
    let within : IsWithin top c.in-Some.kept.now.node.predecessor = subst (λ (x : Kept). IsWithin top x.node.predecessor) (sym k) (pred_within look top base trees shown le (g.N.Own.txn c.args.own.now) (g.N.Own.folder c.args.own.now) nodes draft p d here dir) in
    let t = subst (λ (x : Kept). IsListedAs look x (listed c.in_ok-entries.entries)) k (c.in_ok-entries.ensures.told look top knows within) in
    let all = entries_here look top base trees shown le (g.N.Own.txn c.args.own.now) (g.N.Own.folder c.args.own.now) nodes draft p d here dir t.entries t.of in
    let x = entry_value c.in-Some-get.entry.now in
    let is : named c.args.name.now t.entries ≡ Some x = sym (c.in-Some-get.ensures ∙ t.alike c.args.name.now) in
    let lasts : is_revision_id x.id ≡ true = sym c.if-not-is_revision_id.ensures in
    let le_u = (lasting_entry look top base trees shown le (g.N.Own.txn c.args.own.now) (g.N.Own.folder c.args.own.now) nodes draft p d here dir c.args.name.now t.entries all x is lasts).2 in
    let later : Knows (g.B.Book.told c.listed_in.new.book).revs (offset_of x.id.place).rev look = λ n h. c.in_ok-entries.ensures.kept.revs n (look n) (knows n (omega (arith, h, le_u))) in
    let e = c.in_err-found.field-0.0 in
    rw (r.1, r.2) (of_entry_fails look top base trees shown le (g.N.Own.txn c.args.own.now) (g.N.Own.folder c.args.own.now) nodes draft p d here dir c.args.name.now t.entries all x is (λ (n : PlacedNode). n.node) lasts e (c.in_err-found.ensures.told look later))

pub returns-clause-draft : goal.returns-clause-draft
returns-clause-draft g c = λ look trees top base nodes p d knows shown le draft here same dir.
    let k = kept_same look top base trees shown le (g.N.Own.txn c.args.own.now) (g.N.Own.folder c.args.own.now) nodes draft p d here dir c.args.dir.now (kept_value c.in-Some.kept.now) same (sym c.in-Some.ensures) in
    let within : IsWithin top c.in-Some.kept.now.node.predecessor = subst (λ (x : Kept). IsWithin top x.node.predecessor) (sym k) (pred_within look top base trees shown le (g.N.Own.txn c.args.own.now) (g.N.Own.folder c.args.own.now) nodes draft p d here dir) in
    let t = subst (λ (x : Kept). IsListedAs look x (listed c.in_ok-entries.entries)) k (c.in_ok-entries.ensures.told look top knows within) in
    let all = entries_here look top base trees shown le (g.N.Own.txn c.args.own.now) (g.N.Own.folder c.args.own.now) nodes draft p d here dir t.entries t.of in
    let x = entry_value c.in-Some-get.entry.now in
    let is : named c.args.name.now t.entries ≡ Some x = sym (c.in-Some-get.ensures ∙ t.alike c.args.name.now) in
    let lasts : is_revision_id x.id ≡ true = sym c.if-not-is_revision_id.ensures in
    let le_u = (lasting_entry look top base trees shown le (g.N.Own.txn c.args.own.now) (g.N.Own.folder c.args.own.now) nodes draft p d here dir c.args.name.now t.entries all x is lasts).2 in
    let later : Knows (g.B.Book.told c.listed_in.new.book).revs (offset_of x.id.place).rev look = λ n h. c.in_ok-entries.ensures.kept.revs n (look n) (knows n (omega (arith, h, le_u))) in
    let u = c.in_ok-found.found.node in
    let there = lasting_child look top base trees shown le (g.N.Own.txn c.args.own.now) (g.N.Own.folder c.args.own.now) nodes draft p d here dir c.args.name.now t.entries all x is lasts u (of_entry_read look top base trees shown le (g.N.Own.txn c.args.own.now) (g.N.Own.folder c.args.own.now) nodes draft p d here dir c.args.name.now t.entries all x is u (c.in_ok-found.ensures.told look later)) in
    (there.0, there.1)

pub returns-clause-kept : goal.returns-clause-kept
returns-clause-kept g c = keeps_trans _ _ _ c.in_ok-entries.ensures.kept c.in_ok-found.ensures.kept
