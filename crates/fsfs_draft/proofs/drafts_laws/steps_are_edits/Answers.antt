use Rattle.fsfs_draft.proofs.StepLaw.{steps_are_edits}
use Rattle.fsfs_draft.proofs.drafts_laws.steps_are_edits.Goals as goal

pub returns : goal.returns
returns c = steps_are_edits
