use Rattle.std.proofs.Common.{rules, ◌≡◌, ℕ, List, Option, None, refl, subst, arith}
use Rattle.std.proofs.lemmas.Result.{err_from_is_err_and}
use Rattle.std.specs.Prelude.{IfSome}
use Rattle.fsfs_revision.specs.Told.{Knows}
use Rattle.fsfs_revision.proofs.Keeping.{keeps_trans}
use Rattle.fsfs_stands.specs.Texts.{End}
use Rattle.fsfs_history.specs.declared.history.HistoryPoint.{HistoryPoint}
use Rattle.fsfs_history.specs.Points.{point_value, IsWithin, BehindText, LeftBehind}
use Rattle.fsfs_history.proofs.HistoryTexts.{behind_stops, step_fails, line_fails, step_goes, no_left}
use Rattle.fsfs_look.proofs.ProgressLemmas.{Progress, begins, flushed, write_fails, all_written}
use Rattle.fsfs_history.proofs.history.write_behind.Goals as goal

pub loop-left-init : goal.loop-left-init
loop-left-init g c = record {
  kept = record { revs = λ r read h. h; youngest = λ y h. h; below = refl };
  later = omega arith;
  sink = omega arith;
  within = λ top w. w;
  text = λ top look knows w. begins (BehindText look (point_value c.args.at)) c.args.lines.now.items (g.S.Sink.written c.args.sink.now);
}

pub returns-in_err-write_full-clause-told : goal.returns-in_err-write_full-clause-told
returns-in_err-write_full-clause-told g c = λ top look knows w.
    let R : List ℕ → End → Type 0 = BehindText look (point_value c.args.at) in
    let point = c.in-Some.point in
    let S : List ℕ → End → Type 0 = BehindText look (point_value point) in
    let p : Progress R S c.args.lines.now.items c.loop-left.lines.items (g.S.Sink.written c.args.sink.now) (g.S.Sink.written c.loop-left.sink) =
    subst (λ (o : Option HistoryPoint). Progress R (LeftBehind look o) c.args.lines.now.items c.loop-left.lines.items (g.S.Sink.written c.args.sink.now) (g.S.Sink.written c.loop-left.sink)) c.in-Some.is (c.loop-left.invariant.text top look knows w) in
    let e = err_from_is_err_and c.from_residual.result c.from_residual.ensures.1 in
    rw (e.1, e.2, c.in_err-write_full.ensures.failed)
    (write_fails R S c.args.lines.now.items c.loop-left.lines.items c.write_full.new.lines.items (g.S.Sink.written c.args.sink.now) (g.S.Sink.written c.loop-left.sink) (g.S.Sink.written c.write_full.new.sink) p (behind_stops look point) c.in_err-write_full.ensures.part)

pub returns-in_err-left-clause-told : goal.returns-in_err-left-clause-told
returns-in_err-left-clause-told g c = λ top look knows w.
    let R : List ℕ → End → Type 0 = BehindText look (point_value c.args.at) in
    let point = c.in-Some.point in
    let S : List ℕ → End → Type 0 = BehindText look (point_value point) in
    let p : Progress R S c.args.lines.now.items c.loop-left.lines.items (g.S.Sink.written c.args.sink.now) (g.S.Sink.written c.loop-left.sink) =
    subst (λ (o : Option HistoryPoint). Progress R (LeftBehind look o) c.args.lines.now.items c.loop-left.lines.items (g.S.Sink.written c.args.sink.now) (g.S.Sink.written c.loop-left.sink)) c.in-Some.is (c.loop-left.invariant.text top look knows w) in
    let f = c.in_ok-write_full.ensures.added in
    let q = flushed R S c.args.lines.now.items c.loop-left.lines.items c.write_full.new.lines.items f.0 (g.S.Sink.written c.args.sink.now) (g.S.Sink.written c.loop-left.sink) (g.S.Sink.written c.write_full.new.sink) p f.1 f.2 in
    let within : IsWithin top point = subst (λ (o : Option HistoryPoint). IfSome o (IsWithin top)) c.in-Some.is (c.loop-left.invariant.within top w) in
    let known : Knows (g.B.Book.told c.loop-left.book).revs top look = λ r lower. c.loop-left.invariant.kept.revs r (look r) (knows r lower) in
    let e = err_from_is_err_and c.from_residual-in_err-left.result c.from_residual-in_err-left.ensures.1 in
    rw (e.1, e.2)
    (step_fails look point R c.args.lines.now.items c.write_full.new.lines.items (g.S.Sink.written c.args.sink.now) (g.S.Sink.written c.write_full.new.sink) q c.in_err-left.field-0.0 (c.in_err-left.ensures.told top look known within))

pub returns-in_err-left-clause-kept : goal.returns-in_err-left-clause-kept
returns-in_err-left-clause-kept g c = keeps_trans _ _ _ c.loop-left.invariant.kept c.in_err-left.ensures.kept

pub returns-in_err-put_next-clause-told : goal.returns-in_err-put_next-clause-told
returns-in_err-put_next-clause-told g c = λ top look knows w.
    let R : List ℕ → End → Type 0 = BehindText look (point_value c.args.at) in
    let point = c.in-Some.point in
    let S : List ℕ → End → Type 0 = BehindText look (point_value point) in
    let p : Progress R S c.args.lines.now.items c.loop-left.lines.items (g.S.Sink.written c.args.sink.now) (g.S.Sink.written c.loop-left.sink) =
    subst (λ (o : Option HistoryPoint). Progress R (LeftBehind look o) c.args.lines.now.items c.loop-left.lines.items (g.S.Sink.written c.args.sink.now) (g.S.Sink.written c.loop-left.sink)) c.in-Some.is (c.loop-left.invariant.text top look knows w) in
    let f = c.in_ok-write_full.ensures.added in
    let q = flushed R S c.args.lines.now.items c.loop-left.lines.items c.write_full.new.lines.items f.0 (g.S.Sink.written c.args.sink.now) (g.S.Sink.written c.loop-left.sink) (g.S.Sink.written c.write_full.new.sink) p f.1 f.2 in
    let e = err_from_is_err_and c.from_residual-in_err-put_next.result c.from_residual-in_err-put_next.ensures.1 in
    rw (e.1, e.2) (line_fails look point R c.args.lines.now.items c.write_full.new.lines.items (g.S.Sink.written c.args.sink.now) (g.S.Sink.written c.write_full.new.sink) q c.put_next.new.lines.items)

pub returns-in_err-put_next-clause-kept : goal.returns-in_err-put_next-clause-kept
returns-in_err-put_next-clause-kept g c = keeps_trans _ _ _ c.loop-left.invariant.kept c.in_ok-left.ensures.kept

pub loop-left-preserved : goal.loop-left-preserved
loop-left-preserved g c = record {
  kept = keeps_trans _ _ _ c.loop-left.invariant.kept c.in_ok-left.ensures.kept;
  later = omega (arith, c.loop-left.invariant.later, c.in_ok-left.ensures.cause.later);
  sink = omega (arith, c.loop-left.invariant.sink, c.in_ok-write_full.ensures.sink.later);
  within = λ top w. c.in_ok-left.ensures.within top (subst (λ (o : Option HistoryPoint). IfSome o (IsWithin top)) c.in-Some.is (c.loop-left.invariant.within top w));
  text = λ top look knows w.
      let R : List ℕ → End → Type 0 = BehindText look (point_value c.args.at) in
      let point = c.in-Some.point in
      let S : List ℕ → End → Type 0 = BehindText look (point_value point) in
      let p : Progress R S c.args.lines.now.items c.loop-left.lines.items (g.S.Sink.written c.args.sink.now) (g.S.Sink.written c.loop-left.sink) =
      subst (λ (o : Option HistoryPoint). Progress R (LeftBehind look o) c.args.lines.now.items c.loop-left.lines.items (g.S.Sink.written c.args.sink.now) (g.S.Sink.written c.loop-left.sink)) c.in-Some.is (c.loop-left.invariant.text top look knows w) in
      let f = c.in_ok-write_full.ensures.added in
      let q = flushed R S c.args.lines.now.items c.loop-left.lines.items c.write_full.new.lines.items f.0 (g.S.Sink.written c.args.sink.now) (g.S.Sink.written c.loop-left.sink) (g.S.Sink.written c.write_full.new.sink) p f.1 f.2 in
      let within : IsWithin top point = subst (λ (o : Option HistoryPoint). IfSome o (IsWithin top)) c.in-Some.is (c.loop-left.invariant.within top w) in
      let known : Knows (g.B.Book.told c.loop-left.book).revs top look = λ r lower. c.loop-left.invariant.kept.revs r (look r) (knows r lower) in
      step_goes look point R c.args.lines.now.items c.write_full.new.lines.items (g.S.Sink.written c.args.sink.now) (g.S.Sink.written c.write_full.new.sink) q c.in_ok-left.left c.put_next.new.lines.items (c.in_ok-left.ensures.told top look known within) c.in_ok-put_next.ensures;
}

pub returns-clause-told : goal.returns-clause-told
returns-clause-told g c = λ top look knows w.
    let R : List ℕ → End → Type 0 = BehindText look (point_value c.args.at) in
    let none : c.loop-left.left ≡ None = no_left c.loop-left.left (search rules) in
    let p = subst (λ (o : Option HistoryPoint). Progress R (LeftBehind look o) c.args.lines.now.items c.loop-left.lines.items (g.S.Sink.written c.args.sink.now) (g.S.Sink.written c.loop-left.sink)) none (c.loop-left.invariant.text top look knows w) in
    all_written R (LeftBehind look None) c.args.lines.now.items c.loop-left.lines.items (g.S.Sink.written c.args.sink.now) (g.S.Sink.written c.loop-left.sink) p (refl, refl)
