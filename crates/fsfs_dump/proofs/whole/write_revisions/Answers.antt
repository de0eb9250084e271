use Rattle.std.proofs.Common.{◌≡◌, ◌+◌, ◌-◌, ℕ, suc, [], Ok, Err, refl, sym, subst, arith, inr}
use Rattle.std.proofs.lemmas.Result.{err_from_is_err_and}
use Rattle.fsfs_revision.proofs.Keeping.{keeps_refl, keeps_trans}
use Rattle.fsfs_stands.specs.Texts.{Stopped}
use Rattle.fsfs_look.specs.declared.look_error.LookError.TheVariants as errors
use Rattle.fsfs_look.specs.Walks.{Walks}
use Rattle.fsfs_look.proofs.ProgressLemmas.{knows_upto}
use Rattle.fsfs_dump.specs.Texts.{RevisionText, RevisionsText}
use Rattle.fsfs_dump.proofs.WalkLemmas.{walks_as, walks_unwritten, walks_flushed, walks_then, walks_ended, walks_end}
use Rattle.fsfs_dump.proofs.Stops.{revisions_stop}
use Rattle.fsfs_dump.proofs.MayLemmas.{revision_as}
use Rattle.fsfs_dump.proofs.whole.write_revisions.Goals as goal

pub revisions-init : goal.revisions-init
revisions-init g c = record {
  within = omega arith;
  kept = keeps_refl _;
  later = omega arith;
  sink = omega arith;
  goes = λ look knows r now new w.
      let all : suc c.args.youngest - 0 ≡ suc c.args.youngest = omega arith in
      subst (λ (n : ℕ). Walks (RevisionsText look (g.B.RevProps.may_read c.args.book.now) 0 n) c.args.lines.now.items now (g.S.Sink.written c.args.sink.now) new r) all w;
}

pub returns-in_err-write_full-clause-told : goal.returns-in_err-write_full-clause-told
returns-in_err-write_full-clause-told g c = λ look knows.
    let may = g.B.RevProps.may_read c.args.book.now in
    let next = c.revisions.next in
    let left = suc c.args.youngest - next in
    let lines = c.revisions.lines.items in
    let now = c.write_full.new.lines.items in
    let mid = g.S.Sink.written c.revisions.sink in
    let new = g.S.Sink.written c.write_full.new.sink in
    let e = err_from_is_err_and c.from_residual.result c.from_residual.ensures.1 in
    rw (e.1, e.2, c.in_err-write_full.ensures.failed)
    (c.revisions.invariant.goes look knows (Err errors.WriteFault) now new
    (walks_unwritten (RevisionsText look may next left) lines now [] Stopped mid new (revisions_stop look may next left) c.in_err-write_full.ensures.part))

pub returns-in_err-write_revision-clause-told : goal.returns-in_err-write_revision-clause-told
returns-in_err-write_revision-clause-told g c = λ look knows.
    let inv = c.revisions.invariant in
    let may = g.B.RevProps.may_read c.args.book.now in
    let next = c.revisions.next in
    let rest = suc c.args.youngest - suc next in
    let left : suc c.args.youngest - next ≡ suc rest = omega (arith, c.revisions-test.true, c.get.ensures.same) in
    let lines = c.revisions.lines.items in
    let after = c.write_full.new.lines.items in
    let now = c.write_revision.new.lines.items in
    let old = g.S.Sink.written c.revisions.sink in
    let mid = g.S.Sink.written c.write_full.new.sink in
    let new = g.S.Sink.written c.write_revision.new.sink in
    let f = c.in_ok-write_full.ensures.added in
    let e = err_from_is_err_and c.from_residual-in_err-write_revision.result c.from_residual-in_err-write_revision.ensures.1 in
    let error = c.in_err-write_revision.field-0.0 in
    let here = c.in-Some.ensures in
    let w = c.in_err-write_revision.ensures.told look (knows_upto _ _ look c.args.youngest _ inv.kept (omega (arith, c.revisions-test.true, c.get.ensures.same, here)) knows) in
    let then_ = walks_as (RevisionText look (g.B.RevProps.may_read c.revisions.book) c.in-Some.rev) (RevisionText look may next) after now mid new (Err error)
    (λ text end h. subst (λ (n : ℕ). RevisionText look may n text end) here (revision_as (g.B.RevProps.may_read c.revisions.book) may look c.in-Some.rev (λ read m. g.met.B.StillProps.still c.args.book.now c.revisions.book c.in-Some.rev read inv.kept m) text end h)) w in
    let ended = walks_ended (RevisionText look may next) (RevisionsText look may (suc next) rest) (revisions_stop look may (suc next) rest) after now mid new error then_ in
    let flushed = walks_flushed (RevisionsText look may next (suc rest)) lines after now f.0 old mid new (Err error) f.1 f.2 ended in
    rw (e.1, e.2)
    (inv.goes look knows (Err error) now new (subst (λ (n : ℕ). Walks (RevisionsText look may next n) lines now old new (Err error)) (sym left) flushed))

pub returns-in_err-write_revision-clause-kept : goal.returns-in_err-write_revision-clause-kept
returns-in_err-write_revision-clause-kept g c = keeps_trans _ _ _ c.revisions.invariant.kept c.in_err-write_revision.ensures.kept

pub revisions-preserved : goal.revisions-preserved
revisions-preserved g c = record {
  within = omega (arith, c.revisions-test.true, c.get.ensures.same);
  kept = keeps_trans _ _ _ c.revisions.invariant.kept c.in_ok-write_revision.ensures.kept;
  later = omega (arith, c.revisions.invariant.later, c.in_ok-write_revision.ensures.cause.later);
  sink = omega (arith, c.revisions.invariant.sink, c.in_ok-write_full.ensures.sink.later, c.in_ok-write_revision.ensures.sink.later);
  goes = λ look knows r now new w.
      let inv = c.revisions.invariant in
      let may = g.B.RevProps.may_read c.args.book.now in
      let next = c.revisions.next in
      let rest = suc c.args.youngest - suc next in
      let left : suc c.args.youngest - next ≡ suc rest = omega (arith, c.revisions-test.true, c.get.ensures.same) in
      let lines = c.revisions.lines.items in
      let after = c.write_full.new.lines.items in
      let middle = c.write_revision.new.lines.items in
      let old = g.S.Sink.written c.revisions.sink in
      let mid = g.S.Sink.written c.write_full.new.sink in
      let more = g.S.Sink.written c.write_revision.new.sink in
      let f = c.in_ok-write_full.ensures.added in
      let here = c.in-Some.ensures in
      let first = c.in_ok-write_revision.ensures.told look (knows_upto _ _ look c.args.youngest _ inv.kept (omega (arith, c.revisions-test.true, c.get.ensures.same, here)) knows) in
      let then_ = walks_as (RevisionText look (g.B.RevProps.may_read c.revisions.book) c.in-Some.rev) (RevisionText look may next) after middle mid more (Ok tt)
      (λ text end h. subst (λ (n : ℕ). RevisionText look may n text end) here (revision_as (g.B.RevProps.may_read c.revisions.book) may look c.in-Some.rev (λ read m. g.met.B.StillProps.still c.args.book.now c.revisions.book c.in-Some.rev read inv.kept m) text end h)) first in
      let one : next + 1 ≡ suc next = omega arith in
      let behind = subst (λ (n : ℕ). Walks (RevisionsText look may n (suc c.args.youngest - n)) middle now more new r) one w in
      let both = walks_then (RevisionText look may next) (RevisionsText look may (suc next) rest) after middle now mid more new tt r then_ behind in
      let flushed = walks_flushed (RevisionsText look may next (suc rest)) lines after now f.0 old mid new r f.1 f.2 both in
      inv.goes look knows r now new (subst (λ (n : ℕ). Walks (RevisionsText look may next n) lines now old new r) (sym left) flushed);
}

pub returns-clause-told : goal.returns-clause-told
returns-clause-told g c = λ look knows.
    let inv = c.revisions.invariant in
    let may = g.B.RevProps.may_read c.args.book.now in
    let lines = c.revisions.lines.items in
    let told = g.S.Sink.written c.revisions.sink in
    let none : suc c.args.youngest - c.revisions.next ≡ 0 = omega (arith, c.revisions-test.false, c.get.ensures.same, inv.within) in
    inv.goes look knows (Ok tt) lines told
    (subst (λ (n : ℕ). Walks (RevisionsText look may c.revisions.next n) lines lines told told (Ok tt)) (sym none) (walks_end (RevisionsText look may c.revisions.next 0) lines told tt (inr (refl, refl))))
