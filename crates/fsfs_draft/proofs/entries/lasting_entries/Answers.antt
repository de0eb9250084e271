use Rattle.std.proofs.Common.{List, Ok, sym, ap, subst}
use Rattle.fsfs_revision.specs.Told.{Knows}
use Rattle.fsfs_revision.proofs.Keeping.{keeps_trans}
use Rattle.fsfs_noderev.specs.declared.node_id.NodeId.{NodeId}
use Rattle.fsfs_revision.specs.Shows.Reading.{offset_of, OfId}
use Rattle.fsfs_dag.specs.declared.directory.DirEntry.{DirEntry}
use Rattle.fsfs_dag.specs.Views.{home_of, entry_values}
use Rattle.fsfs_draft.specs.Entries.{OfKind}
use Rattle.fsfs_revision.proofs.Answering.{goes_on}
use Rattle.fsfs_dag.proofs.PairLemmas.{entries_seen}
use Rattle.fsfs_draft.proofs.Readings.{in_kind, as_dir}
use Rattle.fsfs_draft.proofs.entries.lasting_entries.Goals as goal

pub returns-in-File-clause-told : goal.returns-in-File-clause-told
returns-in-File-clause-told g c = λ look knows.
    let v = c.in_ok-found.found.node in
    (v, c.in_ok-found.ensures.told look knows, in_kind look v v.kind _ c.in-File.is (ap (λ (t : List DirEntry). Ok (entry_values t)) c.new.ensures.items))

pub returns-clause-told : goal.returns-clause-told
returns-clause-told g c = λ look knows.
    let v = c.in_ok-found.found.node in
    let later : Knows (g.B.Book.told c.named_node.new.book).revs (home_of v).rev look =
    subst (λ (id : NodeId). Knows (g.B.Book.told c.named_node.new.book).revs (offset_of id.place).rev look) (sym c.in_ok-found.ensures.id) (λ r le. c.in_ok-found.ensures.kept.revs r (look r) (knows r le)) in
    goes_on entries_seen c.entries.result (OfId look c.args.id.now) (λ u. OfKind look u.kind u) v (c.in_ok-found.ensures.told look knows)
    (as_dir look v v.kind c.entries.result c.in-Dir.is (c.entries.ensures.told look later))

pub returns-clause-kept : goal.returns-clause-kept
returns-clause-kept g c = keeps_trans _ _ _ c.in_ok-found.ensures.kept c.entries.ensures.kept
