use Rattle.fsfs_final.proofs.EndLaws.{put_ends_are_read}
use Rattle.fsfs_final.proofs.pieces.laws.put_ends_are_read.Goals as goal

pub returns : goal.returns
returns c = put_ends_are_read
