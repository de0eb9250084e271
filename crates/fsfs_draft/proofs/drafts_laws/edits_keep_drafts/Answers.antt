use Rattle.fsfs_draft.proofs.EditLaw.{edits_keep_drafts}
use Rattle.fsfs_draft.proofs.drafts_laws.edits_keep_drafts.Goals as goal

pub returns : goal.returns
returns c = edits_keep_drafts
