use Rattle.std.proofs.Common.{◌<◌, Option, ℕ, subst, arith}
use Rattle.std.specs.Prelude.{IfSome}
use Rattle.fsfs_base.specs.Paths.{Path}
use Rattle.fsfs_dag.specs.Views.{home_of}
use Rattle.fsfs_history.proofs.HistoryLemmas.{from_some}
use Rattle.fsfs_history.proofs.history.from_copy.Goals as goal

pub returns-in-Some-clause-told : goal.returns-in-Some-clause-told
returns-in-Some-clause-told g c = λ top look knows le.
    let low : c.in-Some.from.0 < (home_of c.args.copy.now.node).rev = subst (λ (o : Option (ℕ × Path)). IfSome o (λ from. from.0 < (home_of c.args.copy.now.node).rev)) c.in-Some.is c.in_ok-source.ensures.lower in
    from_some look c.args.at.now c.args.copy.now c.in_ok-source.source c.in-Some.from c.point_at.result c.in_ok-source.ensures.value c.in-Some.is (c.point_at.ensures.told look (λ r lower. knows r (omega (arith, lower, le, low))))
