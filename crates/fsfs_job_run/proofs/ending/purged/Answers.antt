use Rattle.fsfs_turn.specs.Alone.{KnowsAlone}
use Rattle.fsfs_job_run.proofs.Alone.{is_lone}
use Rattle.fsfs_job_run.proofs.Composed.{purged_stays}
use Rattle.fsfs_job_run.proofs.Listing.{purge_unlists}
use Rattle.fsfs_job_run.proofs.ending.purged.Goals as goal

pub returns-clause-leaves : goal.returns-clause-leaves
returns-clause-leaves g c = λ v known none given.
    let turns = c.purge.new.self.turns in
    purged_stays (KnowsAlone turns.layout turns.floor turns.young turns.stuck (g.D.Disk.trace turns.disk)) (is_lone turns.layout turns.floor turns.young turns.stuck (g.D.Disk.trace turns.disk)) _ c.purge.result v known.1.own none (c.purge.ensures.purged v known none given)

pub returns-clause-listed : goal.returns-clause-listed
returns-clause-listed g c = purge_unlists _ _ _ c.purge.result c.purge.ensures.others c.purge.ensures.cause.failed
