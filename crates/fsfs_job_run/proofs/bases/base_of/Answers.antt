use Rattle.fsfs_job_run.proofs.Based.{numbered_base, numbered_lacks, youngest_base}
use Rattle.fsfs_job_run.proofs.Causes.{numbered_asks}
use Rattle.fsfs_job_run.proofs.Staying.{look_stays}
use Rattle.fsfs_job_run.proofs.bases.base_of.Goals as goal

pub returns-in-Youngest-clause-looked : goal.returns-in-Youngest-clause-looked
returns-in-Youngest-clause-looked g c = λ v known none.
    let l = c.youngest-youngest.ensures.turned v known in (l.0, l.1, (look_stays c.youngest-youngest.result v l.0 none l.2 (c.youngest-youngest.ensures.all l.0 l.1)).0)

pub returns-in-Youngest-clause-base : goal.returns-in-Youngest-clause-base
returns-in-Youngest-clause-base g c = λ v known none.
    let l = c.youngest-youngest.ensures.turned v known in
    youngest_base c.args.base c.youngest-youngest.result _ c.in-Youngest.is (look_stays c.youngest-youngest.result v l.0 none l.2 (c.youngest-youngest.ensures.all l.0 l.1)).1

pub returns-in-Number-clause-looked : goal.returns-in-Number-clause-looked
returns-in-Number-clause-looked g c = λ v known none.
    let l = c.youngest-youngest.ensures.turned v known in (l.0, l.1, (look_stays c.youngest-youngest.result v l.0 none l.2 (c.youngest-youngest.ensures.all l.0 l.1)).0)

pub returns-in-Number-clause-base : goal.returns-in-Number-clause-base
returns-in-Number-clause-base g c = λ v known none.
    let l = c.youngest-youngest.ensures.turned v known in
    numbered_base c.numbered.result c.args.base c.in-Number.asked c.youngest-youngest.result _ c.in-Number.is (look_stays c.youngest-youngest.result v l.0 none l.2 (c.youngest-youngest.ensures.all l.0 l.1)).1 c.numbered.ensures.there

pub returns-in-Number-clause-lacks : goal.returns-in-Number-clause-lacks
returns-in-Number-clause-lacks g c = λ v known none.
    let l = c.youngest-youngest.ensures.turned v known in
    numbered_lacks c.numbered.result c.args.base c.in-Number.asked c.youngest-youngest.result _ c.in-Number.is (look_stays c.youngest-youngest.result v l.0 none l.2 (c.youngest-youngest.ensures.all l.0 l.1)).1 c.numbered.ensures.lacks

pub returns-in-Number-clause-asked : goal.returns-in-Number-clause-asked
returns-in-Number-clause-asked g c = numbered_asks c.numbered.result c.in-Number.asked c.youngest-youngest.result c.numbered.ensures.lacks
