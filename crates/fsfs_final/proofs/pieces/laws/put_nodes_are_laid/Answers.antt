use Rattle.fsfs_final.proofs.NodeLaws.{put_nodes_are_laid}
use Rattle.fsfs_final.proofs.pieces.laws.put_nodes_are_laid.Goals as goal

pub returns : goal.returns
returns c = put_nodes_are_laid
