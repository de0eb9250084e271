use Rattle.fsfs_final.proofs.ListLaws.{put_lists_are_framed}
use Rattle.fsfs_final.proofs.pieces.laws.put_lists_are_framed.Goals as goal

pub returns : goal.returns
returns c = put_lists_are_framed
