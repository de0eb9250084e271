use Rattle.fsfs_final.proofs.TextsLaw.{draft_texts_stand_before}
use Rattle.fsfs_final.proofs.pieces.laws.draft_texts_stand_before.Goals as goal

pub returns : goal.returns
returns c = draft_texts_stand_before
