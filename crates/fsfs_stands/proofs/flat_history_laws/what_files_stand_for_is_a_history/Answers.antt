use Rattle.fsfs_stands.proofs.Histories.{shown_history, stood_for_history}
use Rattle.fsfs_stands.proofs.flat_history_laws.what_files_stand_for_is_a_history.Goals as goal

pub returns-clause-bytes : goal.returns-clause-bytes
returns-clause-bytes c = shown_history

pub returns-clause-files : goal.returns-clause-files
returns-clause-files c = stood_for_history
