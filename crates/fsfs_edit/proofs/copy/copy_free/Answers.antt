use Rattle.std.proofs.Common.{refl, subst}
use Rattle.std.specs.Prelude.{Ok}
use Rattle.std.proofs.lemmas.Result.{err_from_is_err_and}
use Rattle.fsfs_revision.specs.Told.{Knows}
use Rattle.fsfs_revision.proofs.Keeping.{keeps_trans}
use Rattle.fsfs_edit.specs.Copying.{IsSource}
use Rattle.fsfs_edit.specs.declared.copy.Source.{Source}
use Rattle.fsfs_edit.specs.declared.copy.Source.TheVariants as sources
use Rattle.fsfs_edit.proofs.Whole.{stays}
use Rattle.fsfs_edit.proofs.copy.copy_free.Goals as goal

pub returns-in_err-youngest-clause-copies : goal.returns-in_err-youngest-clause-copies
returns-in_err-youngest-clause-copies g c = λ look trees top base tree marks knows shown le is_tree young d room.
    let r = err_from_is_err_and c.from_residual.result c.from_residual.ensures.1 in
    rw (r.1, r.2) (stays c.in_err-youngest.field-0.0 _ (c.in_err-youngest.ensures.finds look trees top knows shown young) refl)

pub returns-in-NoRev-clause-copies : goal.returns-in-NoRev-clause-copies
returns-in-NoRev-clause-copies g c = λ look trees top base tree marks knows shown le is_tree young d room.
    let s : IsSource look trees top c.args.from.now (Ok c.in_ok-youngest.field-0) = c.in_ok-youngest.ensures.finds look trees top knows shown young in
    let at : IsSource look trees top c.args.from.now (Ok (sources.NoRev c.in-NoRev.youngest)) = subst (λ (x : Source). IsSource look trees top c.args.from.now (Ok x)) c.in-NoRev.is s in
    (room, at.0, at.1, refl)

pub returns-in-Absent-clause-copies : goal.returns-in-Absent-clause-copies
returns-in-Absent-clause-copies g c = λ look trees top base tree marks knows shown le is_tree young d room.
    let s : IsSource look trees top c.args.from.now (Ok c.in_ok-youngest.field-0) = c.in_ok-youngest.ensures.finds look trees top knows shown young in
    let at : IsSource look trees top c.args.from.now (Ok (sources.Absent c.in-Absent.depth)) = subst (λ (x : Source). IsSource look trees top c.args.from.now (Ok x)) c.in-Absent.is s in
    (room, at.0, at.1, refl)

pub returns-in-File-clause-copies : goal.returns-in-File-clause-copies
returns-in-File-clause-copies g c = λ look trees top base tree marks knows shown le is_tree young d room.
    let s : IsSource look trees top c.args.from.now (Ok c.in_ok-youngest.field-0) = c.in_ok-youngest.ensures.finds look trees top knows shown young in
    let at : IsSource look trees top c.args.from.now (Ok (sources.File c.in-File.depth)) = subst (λ (x : Source). IsSource look trees top c.args.from.now (Ok x)) c.in-File.is s in
    (room, at.0, at.1, refl)

pub returns-in-Node-clause-copies : goal.returns-in-Node-clause-copies
returns-in-Node-clause-copies g c = λ look trees top base tree marks knows shown le is_tree young d room.
    let s : IsSource look trees top c.args.from.now (Ok c.in_ok-youngest.field-0) = c.in_ok-youngest.ensures.finds look trees top knows shown young in
    let at : IsSource look trees top c.args.from.now (Ok (sources.Node c.in-Node.found)) = subst (λ (x : Source). IsSource look trees top c.args.from.now (Ok x)) c.in-Node.is s in
    let later : Knows (g.B.Book.told c.source_at.new.book).revs top look = λ n h. c.in_ok-youngest.ensures.kept.revs n (look n) (knows n h) in
    c.copy_in.ensures.copies look trees top base tree marks later shown le is_tree d room at.0 at.1 at.2

pub returns-in-Node-clause-kept : goal.returns-in-Node-clause-kept
returns-in-Node-clause-kept g c = keeps_trans _ _ _ c.in_ok-youngest.ensures.kept c.copy_in.ensures.kept

pub returns-in_err-youngest-clause-bench : goal.returns-in_err-youngest-clause-bench
returns-in_err-youngest-clause-bench g c =
    let r = err_from_is_err_and c.from_residual.result c.from_residual.ensures.1 in
    let q = c.in_err-youngest.ensures.quiet (g.N.Own.faults c.args.own.now) in
    rw (r.1, r.2) (record { later = q.later; kept = q.kept; failed = q.failed })
