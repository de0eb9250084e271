-- What a step leaves is said of any list with the same entries behind the names.
use Rattle.std.proofs.Common.{◌≡◌, cond, List, Result, Ok, ap, ◌∙◌}
use Rattle.std.specs.Prelude.{Option, Some, None, Err, IfOk}
use Rattle.fsfs_base.specs.Paths.{PathName, same_name}
use Rattle.fsfs_base.specs.declared.kind.Kind.{Kind}
use Rattle.fsfs_base.specs.declared.fields.txn_name.TxnName.{TxnName}
use Rattle.fsfs_noderev.specs.declared.node_id.NodeId.{NodeId}
use Rattle.fsfs_noderev.specs.declared.node_rev.CopySource.{CopySource}
use Rattle.fsfs_noderev.specs.declared.node_rev.NodeRev.{NodeRev}
use Rattle.fsfs_revision.specs.Shows.Reading.{DirEntry, named}
use Rattle.fsfs_draft.specs.Drafts.{Folder}
use Rattle.fsfs_draft.specs.Taken.{IsEntryTaken}
use Rattle.fsfs_draft.specs.declared.error.EditError.{EditError}
use Rattle.fsfs_edit.specs.DagEdits.Mutable.{IsChildChanged}
use Rattle.fsfs_edit.specs.DagEdits.Made.{IsChildMade}
use Rattle.fsfs_edit.specs.DagEdits.Copied.{IsCopyPut}
use Rattle.fsfs_dag.specs.Entries.{HasPut}

module _ (entries others : List DirEntry) (alike : (y : PathName) → named y entries ≡ named y others) where
  replaced_as : (name : PathName) (kind : Kind) (id : NodeId) (new : List DirEntry) → HasPut entries name kind id new → HasPut others name kind id new
  replaced_as name kind id new put = λ y. put y ∙ ap (λ (o : Option DirEntry). cond (same_name name y) (Some (record { name = name; kind = kind; id = id })) o) (alike y)

  pub made_as : (before after : Folder) (txn : TxnName) (dir : NodeId) (name : PathName) (kind : Kind) (result : Result NodeId EditError)
      → IfOk result (IsChildMade before after txn dir entries name kind) → IfOk result (IsChildMade before after txn dir others name kind)
  made_as before after txn dir name kind (Err e) h = tt
  made_as before after txn dir name kind (Ok id) h = record {
    k = h.k;
    here = h.here;
    child = h.child;
    id_is = h.id_is;
    made = h.made;
    part = h.part;
    free = h.free;
    new = h.new;
    replaced = replaced_as name kind h.child.id h.new h.replaced;
    after_is = h.after_is;
  }

  pub copied_as : (before after : Folder) (txn : TxnName) (dir : NodeId) (name : PathName) (u : NodeRev) (from : CopySource) (result : Result NodeId EditError)
      → IfOk result (IsCopyPut before after txn dir entries name u from) → IfOk result (IsCopyPut before after txn dir others name u from)
  copied_as before after txn dir name u from (Err e) h = tt
  copied_as before after txn dir name u from (Ok id) h = record {
    k = h.k;
    here = h.here;
    child = h.child;
    id_is = h.id_is;
    copy = h.copy;
    part = h.part;
    free = h.free;
    new = h.new;
    replaced = replaced_as name u.kind h.child.id h.new h.replaced;
    after_is = h.after_is;
  }

  pub changed_as : (before after : Folder) (txn : TxnName) (dir : NodeId) (name : PathName) (kind : Kind) (u : NodeRev) (result : Result NodeId EditError)
      → IfOk result (IsChildChanged before after txn dir entries name kind u) → IfOk result (IsChildChanged before after txn dir others name kind u)
  changed_as before after txn dir name kind u (Err e) h = tt
  changed_as before after txn dir name kind u (Ok id) h = record {
    k = h.k;
    here = h.here;
    child = h.child;
    id_is = h.id_is;
    next = h.next;
    between = h.between;
    part = h.part;
    new = h.new;
    replaced = replaced_as name kind h.child.id h.new h.replaced;
    after_is = h.after_is;
  }

  pub taken_as : (before after : Folder) (dir : NodeId) (name : PathName) → IsEntryTaken before after dir entries name → IsEntryTaken before after dir others name
  taken_as before after dir name h = record {
    k = h.k;
    here = h.here;
    new = h.new;
    taken = λ y. h.taken y ∙ ap (λ (o : Option DirEntry). cond (same_name name y) None o) (alike y);
    after_is = h.after_is;
  }
