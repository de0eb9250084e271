use Rattle.fsfs_draft.proofs.Grafts.{nothing_tree}
use Rattle.fsfs_draft.proofs.drafts_laws.a_draft_begins_as_its_base.Goals as goal

pub returns : goal.returns
returns c = nothing_tree
