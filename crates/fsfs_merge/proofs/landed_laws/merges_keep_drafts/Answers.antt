use Rattle.fsfs_merge.proofs.LandedDraft.{merge_keeps_drafts}
use Rattle.fsfs_merge.proofs.landed_laws.merges_keep_drafts.Goals as goal

pub returns : goal.returns
returns c = merge_keeps_drafts
