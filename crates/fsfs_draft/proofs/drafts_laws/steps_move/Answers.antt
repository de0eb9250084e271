use Rattle.fsfs_draft.proofs.MovingLaw.{steps_move}
use Rattle.fsfs_draft.proofs.drafts_laws.steps_move.Goals as goal

pub returns : goal.returns
returns c = steps_move
