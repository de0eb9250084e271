use Rattle.fsfs_draft.proofs.StayLaw.{drafts_stay}
use Rattle.fsfs_draft.proofs.drafts_laws.drafts_stay.Goals as goal

pub returns : goal.returns
returns c = drafts_stay
