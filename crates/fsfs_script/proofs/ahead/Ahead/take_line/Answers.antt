use Rattle.std.proofs.Common.{List, ℕ, Bool, sym, subst, arith}
use Rattle.std.proofs.lemmas.Result.{err_from_is_err_and}
use Rattle.std.specs.declared.vec.Vec.{Vec}
use Rattle.std.specs.declared.alloc.Global.{Global}
use Rattle.fsfs_script.specs.Places.{place_of}
use Rattle.fsfs_script.specs.Reading.{TakesFront}
use Rattle.fsfs_script.proofs.PlaceLemmas.{passes_none}
use Rattle.fsfs_script.proofs.LineLemmas.{IsReading, reading_kept, reading_ends_short, reading_grows, reading_ends}
use Rattle.fsfs_script.proofs.FrontLemmas.{reading_stops}
use Rattle.fsfs_script.proofs.ahead.Ahead.take_line.Goals as goal

abbrev items : Vec ℕ Global → List ℕ
items v = v.items

pub pieces-init : goal.pieces-init
pieces-init g c = record {
  reading = subst (λ (t : List ℕ). IsReading (place_of (g.S.Source.remaining c.args.source.now) c.args.self.now) (place_of (g.S.Source.remaining c.args.source.now) c.args.self.now) t) (sym c.new-line.ensures.items) (record { passes = passes_none (place_of (g.S.Source.remaining c.args.source.now) c.args.self.now); lacks = tt; short = omega arith });
  faults = omega arith;
}

pub returns-then-not-branch-clause-given : goal.returns-then-not-branch-clause-given
returns-then-not-branch-clause-given g c = rw c.bad.ensures (reading_ends_short (place_of (g.S.Source.remaining c.args.source.now) c.args.self.now) (place_of (g.S.Source.remaining c.pieces.source) c.pieces.self) (place_of (g.S.Source.remaining c.fill.new.source) c.fill.new.self) c.pieces.line.items items c.pieces.invariant.reading (c.in_ok-fill.ensures.end c.if-not-branch.true))

pub returns-in_err-take_front-clause-given : goal.returns-in_err-take_front-clause-given
returns-in_err-take_front-clause-given g c =
    let p = err_from_is_err_and c.from_residual-in_err-take_front.result c.from_residual-in_err-take_front.ensures.1 in
    let reading = reading_kept (place_of (g.S.Source.remaining c.args.source.now) c.args.self.now) (place_of (g.S.Source.remaining c.pieces.source) c.pieces.self) (place_of (g.S.Source.remaining c.fill.new.source) c.fill.new.self) c.pieces.line.items c.pieces.invariant.reading c.in_ok-fill.ensures.kept in
    rw (p.1, p.2) (reading_stops (g.S.Source.remaining c.fill.new.source) c.fill.new.self (place_of (g.S.Source.remaining c.args.source.now) c.args.self.now) (place_of (g.S.Source.remaining c.fill.new.source) c.take_front.new.self) c.pieces.line.items items c.in_err-take_front.field-0.0 reading c.in_err-take_front.ensures.refused)

pub returns-then-branch-clause-given : goal.returns-then-branch-clause-given
returns-then-branch-clause-given g c =
    let reading = reading_kept (place_of (g.S.Source.remaining c.args.source.now) c.args.self.now) (place_of (g.S.Source.remaining c.pieces.source) c.pieces.self) (place_of (g.S.Source.remaining c.fill.new.source) c.fill.new.self) c.pieces.line.items c.pieces.invariant.reading c.in_ok-fill.ensures.kept in
    let t = subst (λ (b : Bool). TakesFront c.pieces.line.items c.take_front.new.line.items c.fill.new.self c.take_front.new.self b) c.if-branch.true c.in_ok-take_front.ensures.taken in
    reading_ends (g.S.Source.remaining c.fill.new.source) c.fill.new.self c.take_front.new.self (place_of (g.S.Source.remaining c.args.source.now) c.args.self.now) c.pieces.line.items items c.take_front.new.line reading t.0 t.1

pub pieces-preserved : goal.pieces-preserved
pieces-preserved g c =
    let reading = reading_kept (place_of (g.S.Source.remaining c.args.source.now) c.args.self.now) (place_of (g.S.Source.remaining c.pieces.source) c.pieces.self) (place_of (g.S.Source.remaining c.fill.new.source) c.fill.new.self) c.pieces.line.items c.pieces.invariant.reading c.in_ok-fill.ensures.kept in
    let t = subst (λ (b : Bool). TakesFront c.pieces.line.items c.take_front.new.line.items c.fill.new.self c.take_front.new.self b) c.if-branch.false c.in_ok-take_front.ensures.taken in
    record { reading = reading_grows (g.S.Source.remaining c.fill.new.source) c.fill.new.self c.take_front.new.self (place_of (g.S.Source.remaining c.args.source.now) c.args.self.now) c.pieces.line.items c.take_front.new.line.items reading t.0 t.1; faults = omega (arith, c.pieces.invariant.faults, c.fill.ensures.cause.later) }
