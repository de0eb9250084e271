use Rattle.fsfs_draft.proofs.WholeLaw.{drafts_are_handed}
use Rattle.fsfs_draft.proofs.drafts_laws.drafts_are_handed.Goals as goal

pub returns : goal.returns
returns c = drafts_are_handed
