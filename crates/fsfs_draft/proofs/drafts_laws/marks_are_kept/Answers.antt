use Rattle.fsfs_draft.proofs.MarkingLaw.{marks_are_kept}
use Rattle.fsfs_draft.proofs.drafts_laws.marks_are_kept.Goals as goal

pub returns : goal.returns
returns c = marks_are_kept
