use Rattle.fsfs_stands.proofs.OneHistory.{one_history, one_stood_for}
use Rattle.fsfs_stands.proofs.laws.one_history_is_shown.Goals as goal

pub returns-clause-bytes : goal.returns-clause-bytes
returns-clause-bytes c = one_history

pub returns-clause-files : goal.returns-clause-files
returns-clause-files c = one_stood_for
