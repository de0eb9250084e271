use Rattle.fsfs_stands.proofs.OnePoint.{steps_one, histories_one}
use Rattle.fsfs_stands.proofs.histories_laws.histories_have_one_text.Goals as goal

pub returns-clause-steps : goal.returns-clause-steps
returns-clause-steps c = steps_one

pub returns-clause-texts : goal.returns-clause-texts
returns-clause-texts c = histories_one
