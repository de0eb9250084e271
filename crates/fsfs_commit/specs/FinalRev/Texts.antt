-- What stands behind the prototype file in a new revision.
use Rattle.std.specs.Prelude.{◌≡◌, ℕ, suc, List, ◌++◌, length, Option, Some, None, Result, Ok, Err}
use Rattle.fsfs_base.specs.Counts.{HasCause}
use Rattle.fsfs_base.specs.declared.fields.txn_name.TxnName.{TxnName}
use Rattle.fsfs_tree.specs.Nodes.{TreeFunction}
use Rattle.fsfs_model.specs.declared.flat.mark.Mark.{Mark}
use Rattle.fsfs_model.specs.Flat.Transactions.{IsTransaction}
use Rattle.fsfs_revision.specs.Told.{RevisionBytes}
use Rattle.fsfs_revision.specs.Ancestry.Bounded.{AreSameUpTo}
use Rattle.fsfs_revision.specs.Ancestry.Trees.{ShowTrees}
use Rattle.fsfs_noderev.specs.declared.node_id.NodeId.{NodeId}
use Rattle.fsfs_noderev.specs.declared.node_id.Place.{Place}
use Rattle.fsfs_noderev.specs.declared.node_id.Place.TheVariants as places
use Rattle.fsfs_noderev.specs.declared.changes.item.ChangeItem.{ChangeItem}
use Rattle.fsfs_base.specs.Streams.{Adds}
use Rattle.fsfs_base.specs.Output.{AddsFront}
use Rattle.fsfs_noderev.specs.Limits.{IsNodePast}
use Rattle.fsfs_noderev.specs.declared.limits.limit.PathLimit.{PathLimit}
use Rattle.fsfs_noderev.specs.declared.limits.limit.LimitError.{LimitError}
use Rattle.fsfs_noderev.specs.declared.limits.limit.LimitError.TheVariants as limits
use Rattle.fsfs_draft.specs.Drafts.{Kept, Folder}
use Rattle.fsfs_draft.specs.Steps.{kept_at}
use Rattle.fsfs_draft.specs.Staying.{IsYoungest}
use Rattle.fsfs_draft.specs.Whole.{IsDraftOf}
use Rattle.fsfs_final.specs.declared.order.error.OrderError.{OrderError}
use Rattle.fsfs_final.specs.declared.order.error.OrderError.TheVariants as orders
use Rattle.fsfs_commit.specs.FinalRev.FinalBytes.{IsNextRevision}
use Rattle.fsfs_commit.specs.FinalRev.Items.{IsOneItemPast}
use Rattle.fsfs_commit.specs.declared.final_rev.error.FinalError.{FinalError}
use Rattle.fsfs_commit.specs.declared.final_rev.error.FinalError.TheVariants as errors

-- a transaction on the youngest revision, over the trees that the bytes show; and what is handed over beside it: the number of the
-- new revision, how long the prototype file is, and the items
pub record IsHandedOver (look : RevisionBytes) (trees : ℕ → TreeFunction) (top : ℕ) (txn : TxnName) (f : Folder) (tree : TreeFunction) (marks : List Mark) (rev start : ℕ) (items : List ChangeItem) : Type 0 where
  pub shows : ShowTrees look top trees
  pub youngest : IsYoungest look top
  pub edits : IsTransaction trees top top tree marks
  pub draft : IsDraftOf look trees top top txn f tree marks
  pub rev_is : rev ≡ suc top
  pub start_is : start ≡ length f.proto
  pub items_are : items ≡ f.items

-- wherever the prototype file and this text are the next revision's bytes, they are its
abbrev pub IsFinalText : RevisionBytes → (ℕ → TreeFunction) → ℕ → List ℕ → TreeFunction → List Mark → List ChangeItem → List ℕ → Type 0
IsFinalText look trees top proto tree marks items text = (other : RevisionBytes) → AreSameUpTo top look other → other (suc top) ≡ Ok (proto ++ text) → IsNextRevision other trees top tree marks items (proto ++ text)

-- what the writer's answer says: the text was written, or a first part of it where the sink failed, or nothing
abbrev pub IsWrittenText : (List ℕ → Type 0) → Option (List ℕ) → Option (List ℕ) → Result (Unit {0}) FinalError → Type 0
IsWrittenText Final old new (Ok done) = (text : List ℕ) × Final text × Adds old new text
IsWrittenText Final old new (Err errors.SinkFault) = (text : List ℕ) × Final text × AddsFront old new text
IsWrittenText Final old new (Err errors.OutOfMemory) = new ≡ old
IsWrittenText Final old new (Err (errors.PastLimit limit)) = new ≡ old
IsWrittenText Final old new (Err errors.Lacking) = ⊥

-- ---- failures

-- a fact, where the sink failed
abbrev pub IfSink : FinalError → Type 0 → Type 0
IfSink errors.SinkFault P = P
IfSink errors.OutOfMemory P = Unit {0}
IfSink errors.Lacking P = Unit {0}
IfSink (errors.PastLimit limit) P = Unit {0}

-- a fact, where nothing was written
abbrev pub IfUnwritten : FinalError → Type 0 → Type 0
IfUnwritten errors.SinkFault P = Unit {0}
IfUnwritten errors.OutOfMemory P = P
IfUnwritten errors.Lacking P = P
IfUnwritten (errors.PastLimit limit) P = P

-- no sink failed: memory ran out, or it lacks something and so this is so, or a path is past a limit of which this is so
abbrev pub IsRefused : Type 0 → (PathLimit → Type 0) → FinalError → Type 0
IsRefused Lacks Past errors.OutOfMemory = Unit {0}
IsRefused Lacks Past errors.SinkFault = ⊥
IsRefused Lacks Past errors.Lacking = Lacks
IsRefused Lacks Past (errors.PastLimit limit) = Past limit

-- a fact of the limit, where a path is past it
abbrev pub IfPastLimit : (PathLimit → Type 0) → FinalError → Type 0
IfPastLimit Past errors.OutOfMemory = Unit {0}
IfPastLimit Past errors.SinkFault = Unit {0}
IfPastLimit Past errors.Lacking = Unit {0}
IfPastLimit Past (errors.PastLimit limit) = Past limit

-- a path of an item is past the limit, or one of a node-revision that the folder holds
pub data HasPathPast (f : Folder) (items : List ChangeItem) (limit : PathLimit) : Type 0 where
  OfItem : IsOneItemPast limit items → HasPathPast f items limit
  OfNode : (id : NodeId) (k : Kept) → kept_at f.nodes id ≡ Some k → IsNodePast limit k.node → HasPathPast f items limit

abbrev pub HasSinkCause : {T : Type 0} → ℕ → ℕ → Result T FinalError → Type 0
HasSinkCause before now result = HasCause IfSink before now result

abbrev pub of_order : OrderError → FinalError
of_order orders.OutOfMemory = errors.OutOfMemory
of_order orders.Lacking = errors.Lacking

abbrev pub of_limit : LimitError → FinalError
of_limit limits.OutOfMemory = errors.OutOfMemory
of_limit (limits.Past limit) = errors.PastLimit limit

-- ---- the root's offset

abbrev pub offset_in : Place → Option ℕ
offset_in (places.At rev offset) = Some offset
offset_in (places.In txn) = None

abbrev pub root_at : Option NodeId → Option ℕ
root_at None = None
root_at (Some id) = offset_in id.place
