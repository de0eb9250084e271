use Rattle.fsfs_draft.proofs.HangLaw.{drafts_hang}
use Rattle.fsfs_draft.proofs.drafts_laws.drafts_hang.Goals as goal

pub returns : goal.returns
returns c = drafts_hang
