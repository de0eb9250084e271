use Rattle.fsfs_worked_laws.proofs.FirstDirectory.{directory_shown, directory_rules}
use Rattle.fsfs_worked_laws.proofs.laws.a_directory_is_shown.Goals as goal

pub returns-clause-tree : goal.returns-clause-tree
returns-clause-tree c = directory_shown

pub returns-clause-ids : goal.returns-clause-ids
returns-clause-ids c = directory_rules
