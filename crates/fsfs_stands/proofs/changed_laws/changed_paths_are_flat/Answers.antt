use Rattle.fsfs_stands.proofs.ChangedByTrees.{changed_by}
use Rattle.fsfs_stands.proofs.Flat.{changed_flat}
use Rattle.fsfs_stands.proofs.changed_laws.changed_paths_are_flat.Goals as goal

pub returns-clause-bytes : goal.returns-clause-bytes
returns-clause-bytes c = changed_by

pub returns-clause-files : goal.returns-clause-files
returns-clause-files c = changed_flat
