use Rattle.fsfs_stands.proofs.Seen.{later_not_seen}
use Rattle.fsfs_stands.proofs.flat_history_laws.later_files_are_not_seen.Goals as goal

pub returns : goal.returns
returns c = later_not_seen
