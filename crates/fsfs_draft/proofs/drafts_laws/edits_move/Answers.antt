use Rattle.fsfs_draft.proofs.MovingLaw.{edits_move}
use Rattle.fsfs_draft.proofs.drafts_laws.edits_move.Goals as goal

pub returns : goal.returns
returns c = edits_move
