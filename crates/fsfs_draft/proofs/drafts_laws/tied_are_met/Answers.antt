use Rattle.fsfs_draft.proofs.AllLaw.{tied_are_met}
use Rattle.fsfs_draft.proofs.drafts_laws.tied_are_met.Goals as goal

pub returns : goal.returns
returns c = tied_are_met
