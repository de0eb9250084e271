use Rattle.fsfs_draft.proofs.OuterLaw.{edits_keep_marks}
use Rattle.fsfs_draft.proofs.drafts_laws.edits_keep_marks.Goals as goal

pub returns : goal.returns
returns c = edits_keep_marks
