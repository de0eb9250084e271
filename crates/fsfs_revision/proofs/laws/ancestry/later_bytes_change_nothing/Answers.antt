use Rattle.fsfs_revision.proofs.Bounded.{shows_same}
use Rattle.fsfs_revision.proofs.BoundedIds.{ids_same}
use Rattle.fsfs_revision.proofs.laws.ancestry.later_bytes_change_nothing.Goals as goal

pub returns : goal.returns
returns c = record {
  tree = λ r look other tree same shows. shows_same r look other same tree shows;
  ids = λ r look other same ids. ids_same r look other same ids;
}
