use Rattle.fsfs_stands.proofs.OneItems.{items_of_one}
use Rattle.fsfs_stands.proofs.ChangedOneText.{changed_one}
use Rattle.fsfs_stands.proofs.changed_laws.changed_paths_have_one_text.Goals as goal

pub returns-clause-items : goal.returns-clause-items
returns-clause-items c = items_of_one

pub returns-clause-texts : goal.returns-clause-texts
returns-clause-texts c = changed_one
