use Rattle.fsfs_draft.proofs.TiedLaw.{tied_drafts}
use Rattle.fsfs_draft.proofs.drafts_laws.tied_drafts.Goals as goal

pub returns : goal.returns
returns c = tied_drafts
