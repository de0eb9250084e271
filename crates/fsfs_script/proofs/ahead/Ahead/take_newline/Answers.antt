use Rattle.std.proofs.Common.{◌≡◌, List, ℕ, get_or, subst}
use Rattle.fsfs_script.specs.Places.{place_of}
use Rattle.fsfs_script.proofs.TextLemmas.{newline_short, newline_here, newline_other}
use Rattle.fsfs_script.proofs.ahead.Ahead.take_newline.Goals as goal

pub returns-then-not-branch-clause-given : goal.returns-then-not-branch-clause-given
returns-then-not-branch-clause-given g c = rw c.bad.ensures (newline_short (place_of (g.S.Source.remaining c.args.source.now) c.args.self.now) (place_of (g.S.Source.remaining c.fill.new.source) c.fill.new.self) (λ (u : Unit {0}). tt) (c.in_ok-fill.ensures.end c.if-not-branch.true))

pub returns-then-as_slice-ne10-clause-given : goal.returns-then-as_slice-ne10-clause-given
returns-then-as_slice-ne10-clause-given g c =
    let other = subst (λ (s : List ℕ). get_or s 0 0 ≡ 10 → ⊥) c.as_slice.ensures c.if-as_slice-ne10.true in
    rw c.bad-then-as_slice-ne10.ensures (newline_other (g.S.Source.remaining c.fill.new.source) c.fill.new.self (place_of (g.S.Source.remaining c.args.source.now) c.args.self.now) (place_of (g.S.Source.remaining c.fill.new.source) c.fill.new.self) 0 (λ (u : Unit {0}). tt) c.in_ok-fill.ensures.kept (c.in_ok-fill.ensures.some c.if-not-branch.false) other)

pub returns-clause-given : goal.returns-clause-given
returns-clause-given g c =
    let is = subst (λ (s : List ℕ). get_or s 0 0 ≡ 10) c.as_slice.ensures c.if-as_slice-ne10.false in
    rw c.in_ok-pass.ensures (newline_here (g.S.Source.remaining c.fill.new.source) c.fill.new.self (place_of (g.S.Source.remaining c.args.source.now) c.args.self.now) 0 c.in_ok-fill.ensures.kept (c.in_ok-fill.ensures.some c.if-not-branch.false) is)
