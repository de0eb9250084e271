use Rattle.fsfs_dag.proofs.Windows.{length_found, length_refused, length_not_short}
use Rattle.fsfs_dag.proofs.reading.revision_length.Goals as goal

pub returns-in-Ok-clause-told : goal.returns-in-Ok-clause-told
returns-in-Ok-clause-told g c = λ look told. length_found look c.args.rev _ (c.in-Ok.ensures.told (look c.args.rev) told)

pub returns-in-Err-Refused-clause-told : goal.returns-in-Err-Refused-clause-told
returns-in-Err-Refused-clause-told g c = λ look told.
    let answer = rw c.in-Err-Refused.field-0-is at c.in-Err-Refused.ensures in
    length_refused look c.args.rev _ (answer.told (look c.args.rev) told)

pub returns-in-Err-Short-clause-told : goal.returns-in-Err-Short-clause-told
returns-in-Err-Short-clause-told g c = λ look told.
    let answer = rw c.in-Err-Short.field-0-is at c.in-Err-Short.ensures in
    length_not_short look c.args.rev _ _ (answer.told (look c.args.rev) told)
