use Rattle.fsfs_merge.proofs.LandedOwnLaw.{landed_is_a_draft}
use Rattle.fsfs_merge.proofs.landed_laws.landed_is_a_draft.Goals as goal

pub returns : goal.returns
returns c = landed_is_a_draft
