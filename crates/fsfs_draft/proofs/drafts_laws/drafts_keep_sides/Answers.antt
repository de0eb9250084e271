use Rattle.fsfs_draft.proofs.SideLaw.{drafts_keep_sides}
use Rattle.fsfs_draft.proofs.drafts_laws.drafts_keep_sides.Goals as goal

pub returns : goal.returns
returns c = drafts_keep_sides
