use Rattle.std.proofs.Common.{◌≡◌, refl, Ok}
use Rattle.fsfs_revision.proofs.Answering.{stops}
use Rattle.fsfs_revision.specs.Shows.Reading.{OfEntry}
use Rattle.fsfs_dag.specs.Views.{entry_value}
use Rattle.fsfs_dag.specs.declared.node.PlacedNode.{PlacedNode}
use Rattle.fsfs_history.proofs.KindLemmas.{same}
use Rattle.fsfs_history.proofs.kept_dir.entry_kind.Goals as goal

pub returns-in-Ok-clause-told : goal.returns-in-Ok-clause-told
returns-in-Ok-clause-told g c = λ look knows. (c.in-Ok.child.node, c.in-Ok.ensures.told look knows, refl)

pub returns-in-Err-clause-told : goal.returns-in-Err-clause-told
returns-in-Err-clause-told g c = λ look knows.
    stops (λ (found : PlacedNode). found.node) same c.in-Err.error (OfEntry look (entry_value c.args.entry.now)) (λ u r. r ≡ Ok u.kind) (c.in-Err.ensures.told look knows)
