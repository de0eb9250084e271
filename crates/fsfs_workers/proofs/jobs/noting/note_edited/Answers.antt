use Rattle.fsfs_job_run.proofs.Noted.{can_note}
use Rattle.fsfs_workers.specs.Working.{IsEditedNoted}
use Rattle.fsfs_workers.proofs.NoteLemmas.{edited_noted}
use Rattle.fsfs_workers.proofs.jobs.noting.note_edited.Goals as goal

-- one is known, where others rest on the turns
pub some-requires : goal.some-requires
some-requires g c =
    let knows = g.T.Turns.knows c.args.turns.now in
    let job = c.args.job.now in
    let txn = c.args.txn.now in
    can_note (g.T.Turns.bound c.args.turns.now) (λ s. IsEditedNoted knows job c.args.last _ txn.base _ s) (λ bound.
    let w = c.requires.due bound in
    edited_noted knows job c.args.last _ txn.base _ w.0 w.1 w.2 w.3)
