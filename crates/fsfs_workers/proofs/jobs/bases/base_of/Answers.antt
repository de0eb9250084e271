use Rattle.std.proofs.Common.{refl}
use Rattle.fsfs_job_run.proofs.Based.{numbered_base, numbered_lacks, youngest_base}
use Rattle.fsfs_workers.proofs.jobs.bases.base_of.Goals as goal

pub returns-in-Youngest-clause-base : goal.returns-in-Youngest-clause-base
returns-in-Youngest-clause-base g c = youngest_base c.args.base c.look-youngest.result c.look-youngest.result c.in-Youngest.is refl

pub returns-in-Number-clause-base : goal.returns-in-Number-clause-base
returns-in-Number-clause-base g c = numbered_base c.numbered.result c.args.base c.in-Number.asked c.look-youngest.result c.look-youngest.result c.in-Number.is refl c.numbered.ensures.there

pub returns-in-Number-clause-lacks : goal.returns-in-Number-clause-lacks
returns-in-Number-clause-lacks g c = numbered_lacks c.numbered.result c.args.base c.in-Number.asked c.look-youngest.result c.look-youngest.result c.in-Number.is refl c.numbered.ensures.lacks
