use Rattle.std.proofs.Common.{◌≤◌, ℕ, Option, sym, subst, arith}
use Rattle.fsfs_base.specs.Paths.{Path}
use Rattle.fsfs_revision.specs.Damage.Readings.{Answers}
use Rattle.fsfs_stands.specs.ChangedTexts.{source_at, KindFrom}
use Rattle.fsfs_stands.proofs.Places.{taken_within}
use Rattle.fsfs_history.specs.Views.{by_text_value, source_place}
use Rattle.fsfs_history.proofs.KindLemmas.{same}
use Rattle.fsfs_history.proofs.taken.taken_kind.Goals as goal

pub returns-in-Some-clause-told : goal.returns-in-Some-clause-told
returns-in-Some-clause-told g c = λ look knows kept.
    let from = c.in-Some.from in
    let place = rw c.in-Some.is at c.in_ok-taken_from.ensures in
    let le : from.rev ≤ c.args.rev = taken_within c.args.rev (source_at (by_text_value c.args.items.now)) c.args.path.now (source_place from) (sym place) in
    subst (λ (o : Option (ℕ × Path)). Answers same (KindFrom look o c.args.kind) c.kind_kept.result) place (c.kind_kept.ensures.told look (λ r lower. knows r (omega (arith, lower, le))) kept)

pub returns-in-Some-clause-dir : goal.returns-in-Some-clause-dir
returns-in-Some-clause-dir g c = λ look knows kept.
    let from = c.in-Some.from in
    let place = rw c.in-Some.is at c.in_ok-taken_from.ensures in
    let le : from.rev ≤ c.args.rev = taken_within c.args.rev (source_at (by_text_value c.args.items.now)) c.args.path.now (source_place from) (sym place) in
    c.kind_kept.ensures.dir look (λ r lower. knows r (omega (arith, lower, le))) kept
