use Rattle.fsfs_revision.proofs.OneNode.{node_at_one, root_of_one}
use Rattle.fsfs_revision.proofs.OneEntry.{entries_one}
use Rattle.fsfs_revision.proofs.OneWalk.{text_one, props_one, child_one, met_at_one}
use Rattle.fsfs_revision.proofs.laws.shows.readings_have_one_answer.Goals as goal

pub returns-clause-nodes : goal.returns-clause-nodes
returns-clause-nodes c = node_at_one

pub returns-clause-roots : goal.returns-clause-roots
returns-clause-roots c = root_of_one

pub returns-clause-texts : goal.returns-clause-texts
returns-clause-texts c = text_one

pub returns-clause-props : goal.returns-clause-props
returns-clause-props c = props_one

pub returns-clause-entries : goal.returns-clause-entries
returns-clause-entries c = entries_one

pub returns-clause-children : goal.returns-clause-children
returns-clause-children c = child_one

pub returns-clause-paths : goal.returns-clause-paths
returns-clause-paths c = met_at_one
