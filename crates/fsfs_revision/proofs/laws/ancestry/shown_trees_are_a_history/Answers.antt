use Rattle.fsfs_revision.proofs.Revisions.{shown_revisions}
use Rattle.fsfs_revision.proofs.laws.ancestry.shown_trees_are_a_history.Goals as goal

pub returns : goal.returns
returns c = shown_revisions
