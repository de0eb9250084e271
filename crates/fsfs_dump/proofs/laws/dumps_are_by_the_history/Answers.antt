use Rattle.fsfs_dump.proofs.ByHistory.{dumps_by}
use Rattle.fsfs_dump.proofs.laws.dumps_are_by_the_history.Goals as goal

pub returns : goal.returns
returns c = dumps_by
