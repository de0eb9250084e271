use Rattle.fsfs_draft.proofs.DrawLaw.{drafts_draw}
use Rattle.fsfs_draft.proofs.drafts_laws.drafts_draw.Goals as goal

pub returns : goal.returns
returns c = drafts_draw
