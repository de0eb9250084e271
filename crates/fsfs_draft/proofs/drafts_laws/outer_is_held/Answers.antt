use Rattle.fsfs_draft.proofs.OuterLaw.{outer_is_held}
use Rattle.fsfs_draft.proofs.drafts_laws.outer_is_held.Goals as goal

pub returns : goal.returns
returns c = outer_is_held
