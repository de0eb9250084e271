use Rattle.fsfs_draft.proofs.StepLaw.{steps_keep_sides}
use Rattle.fsfs_draft.proofs.drafts_laws.steps_keep_sides.Goals as goal

pub returns : goal.returns
returns c = steps_keep_sides
