use Rattle.fsfs_revision.proofs.FirstRevision.{first_shown, first_rules}
use Rattle.fsfs_revision.proofs.laws.shows.the_first_revision_shows_its_root.Goals as goal

pub returns-clause-tree : goal.returns-clause-tree
returns-clause-tree c = first_shown

pub returns-clause-ids : goal.returns-clause-ids
returns-clause-ids c = first_rules
