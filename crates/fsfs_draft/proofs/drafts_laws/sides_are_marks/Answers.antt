use Rattle.fsfs_draft.proofs.MarkLaw.{sides_are_marks}
use Rattle.fsfs_draft.proofs.drafts_laws.sides_are_marks.Goals as goal

pub returns : goal.returns
returns c = sides_are_marks
