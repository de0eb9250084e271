use Rattle.std.proofs.Common.{◌≡◌, suc, ◌-◌, ℕ, Option, Some, None, take, sym, ap, ◌∙◌, arith}
use Rattle.fsfs_base.specs.Paths.{Path}
use Rattle.fsfs_stands.specs.ChangedTexts.{source_at}
use Rattle.fsfs_history.specs.Views.{by_text_value}
use Rattle.fsfs_history.proofs.KindLemmas.{nearest_above, nearest_here}
use Rattle.fsfs_history.proofs.taken.nearest_source.Goals as goal

pub names-preserved : goal.names-preserved
names-preserved c =
    let S : Path → Option (ℕ × Path) = source_at (by_text_value c.args.items.now) in
    let p = c.args.path.now in
    let d = c.names.depth in
    let deeper : d ≡ suc (d - 1) = omega (arith, c.names-test.true) in
    let none = rw c.in-None.is at c.in_ok-source_at.ensures in
    record {
      within = omega (arith, c.names.invariant.within);
      same = c.names.invariant.same ∙ nearest_above S p d (d - 1) deeper (sym (none ∙ ap S c.in_ok-above.ensures));
    }

pub returns-in-Some : goal.returns-in-Some
returns-in-Some c =
    let S : Path → Option (ℕ × Path) = source_at (by_text_value c.args.items.now) in
    let p = c.args.path.now in
    let d = c.names.depth in
    let deeper : d ≡ suc (d - 1) = omega (arith, c.names-test.true) in
    let found = rw c.in-Some.is at c.in_ok-source_at.ensures in
    let source = c.in-Some.source.now in
    ap (λ (f : ℕ × Path). Some f) c.in_ok-from-in-Some.ensures ∙ sym (c.names.invariant.same ∙ nearest_here S p d (d - 1) deeper (source.rev, source.path) (sym (found ∙ ap S c.in_ok-above.ensures)))
