use Rattle.std.proofs.Common.{ℕ, sym, subst, arith}
use Rattle.fsfs_base.specs.Paths.{Path}
use Rattle.fsfs_revision.specs.Damage.Readings.{Answers}
use Rattle.fsfs_stands.specs.ChangedTexts.{KindAt}
use Rattle.fsfs_history.proofs.KindLemmas.{same}
use Rattle.fsfs_history.proofs.kept_dir.kind_below.Goals as goal

pub returns-in-Some-clause-told : goal.returns-in-Some-clause-told
returns-in-Some-clause-told g c = λ look knows kept.
    let place = rw c.in-Some.is at c.requires in
    let dir = rw c.in-Some.is at kept in
    let told = c.kind_named.ensures.told look (λ r lower. knows r (omega (arith, lower, place.0))) dir in
    subst (λ (r : ℕ). Answers same (KindAt look r c.args.path.now c.args.absent) c.kind_named.result) place.0
    (subst (λ (p : Path). Answers same (KindAt look c.in-Some.dir.rev p c.args.absent) c.kind_named.result) (sym place.1) told)
