use Rattle.fsfs_draft.proofs.BeginLaw.{begun_drafts}
use Rattle.fsfs_draft.proofs.drafts_laws.begun_drafts.Goals as goal

pub returns : goal.returns
returns c = begun_drafts
