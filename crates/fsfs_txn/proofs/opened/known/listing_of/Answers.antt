use Rattle.std.proofs.lemmas.Result.{err_from_is_err_and}
use Rattle.std.specs.Prelude.{Err}
use Rattle.fsfs_revision.specs.declared.wrong.ReadError.{ReadError}
use Rattle.fsfs_revision.specs.declared.wrong.ReadError.TheVariants as reads
use Rattle.fsfs_revision.specs.Damage.Readings.{Answers, IfWrong}
use Rattle.fsfs_dag.specs.Views.{entry_values}
use Rattle.fsfs_dag.proofs.PairLemmas.{entries_seen}
use Rattle.fsfs_revision.specs.Told.{RevisionBytes}
use Rattle.fsfs_noderev.specs.declared.node_id.NodeId.{NodeId}
use Rattle.fsfs_draft.specs.Entries.{OfIdEntries}
use Rattle.fsfs_txn.proofs.opened.known.listing_of.Goals as goal

wrong_there : (look : RevisionBytes) (id : NodeId) (e : ReadError) → Answers entries_seen (OfIdEntries look id) (Err e) → IfWrong (λ w. OfIdEntries look id (Err w)) e
wrong_there look id reads.OutOfMemory h = tt
wrong_there look id reads.DiskFault h = tt
wrong_there look id (reads.Wrong w) h = h

pub returns-in-Ok-clause-told : goal.returns-in-Ok-clause-told
returns-in-Ok-clause-told g c = λ look knows. record {
  entries = entry_values c.in_ok-entries.entries.items;
  of = c.in_ok-entries.ensures.told look knows;
  alike = c.in-Ok.ensures;
}

pub returns-in_err-entries-clause-wrong : goal.returns-in_err-entries-clause-wrong
returns-in_err-entries-clause-wrong g c = λ look knows.
    let r = err_from_is_err_and c.from_residual.result c.from_residual.ensures.1 in
    rw (r.1, r.2) (wrong_there look c.args.id.now c.in_err-entries.field-0.0 (c.in_err-entries.ensures.told look knows))
