use Rattle.fsfs_draft.proofs.HeadLaw.{shared}
use Rattle.fsfs_draft.proofs.laws.untouched_is_shared.Goals as goal

pub returns : goal.returns
returns c = shared
