use Rattle.fsfs_draft.proofs.OuterLaw.{made_is_kept}
use Rattle.fsfs_draft.proofs.drafts_laws.made_is_kept.Goals as goal

pub returns : goal.returns
returns c = made_is_kept
