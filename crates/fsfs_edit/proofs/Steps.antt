-- What a look for an own node-revision says, and what drawing leaves.
use Rattle.std.proofs.Common.{◌≡◌, true, false, List, Result, Ok, sym, ap, ◌∙◌}
use Rattle.std.specs.Prelude.{Option, Some, None, is_some, option_map, Err, IfOk, IfErr, OnOk}
use Rattle.fsfs_base.specs.Paths.{PathName}
use Rattle.fsfs_base.specs.declared.kind.Kind.{Kind}
use Rattle.fsfs_base.specs.declared.fields.txn_name.TxnName.{TxnName}
use Rattle.fsfs_noderev.specs.declared.node_id.Part.{Part}
use Rattle.fsfs_noderev.specs.declared.node_id.NodeId.{NodeId}
use Rattle.fsfs_noderev.specs.declared.node_rev.NodeRev.{NodeRev}
use Rattle.fsfs_revision.specs.Shows.Reading.{DirEntry}
use Rattle.fsfs_draft.specs.Drafts.{Folder}
use Rattle.fsfs_edit.specs.DagEdits.Mutable.{IsPartOf, Directory, Same, Drawn, IsChildChanged}
use Rattle.fsfs_draft.specs.Causes.{IfDisk}
use Rattle.fsfs_draft.specs.Errors.{IsWant}
use Rattle.fsfs_draft.specs.declared.error.EditError.{EditError}
use Rattle.fsfs_draft.specs.declared.error.EditError.TheVariants as errors

pub none_of : {A B : Type 0} (f : A → B) (o : Option A) (x : Option B) → is_some o ≡ false → option_map f o ≡ x → x ≡ None
none_of f None x is h = sym h
none_of f (Some a) x is h = absurd cc

-- drawing a copy part changes no node-revision's files
pub part_nodes : (before after : Folder) (dir old part : Part) → IsPartOf before after dir old part → after.nodes ≡ before.nodes
part_nodes before after dir old part (Directory is same) = ap (λ (f : Folder). f.nodes) same
part_nodes before after dir old part (Same is same) = ap (λ (f : Folder). f.nodes) same
part_nodes before after dir old part (Drawn is same) = ap (λ (f : Folder). f.nodes) same

pub some_not_none : {A B : Type 0} (f : A → B) (o : Option A) (x : Option B) → is_some o ≡ true → option_map f o ≡ x → x ≡ None → ⊥
some_not_none f None x some is none = cc
some_not_none f (Some a) x some is none = let e = is ∙ none in cc

-- nor the prototype file
part_proto : (before after : Folder) (dir old part : Part) → IsPartOf before after dir old part → after.proto ≡ before.proto
part_proto before after dir old part (Directory is same) = ap (λ (f : Folder). f.proto) same
part_proto before after dir old part (Same is same) = ap (λ (f : Folder). f.proto) same
part_proto before after dir old part (Drawn is same) = ap (λ (f : Folder). f.proto) same

pub changed_proto : (before after : Folder) (txn : TxnName) (dir : NodeId) (entries : List DirEntry) (name : PathName) (kind : Kind) (u : NodeRev) (result : Result NodeId EditError)
    → IfOk result (IsChildChanged before after txn dir entries name kind u) → OnOk result (after.proto ≡ before.proto)
changed_proto before after txn dir entries name kind u (Err e) h = tt
changed_proto before after txn dir entries name kind u (Ok id) h = ap (λ (f : Folder). f.proto) h.after_is ∙ part_proto before h.between dir.copy u.id.copy h.child.id.copy h.part.of

-- where a condition was not met no disk failed
pub want_disk : {T : Type 0} (result : Result T EditError) (P Q : Type 0) → IfErr result (λ e. IsWant e P) → IfErr result (λ e. IfDisk e Q)
want_disk (Ok x) P Q h = tt
want_disk (Err errors.BenchFault) P Q h = tt
want_disk (Err errors.OutOfMemory) P Q h = tt
want_disk (Err errors.DiskFault) P Q h = absurd h
want_disk (Err (errors.Wrong w)) P Q h = tt
want_disk (Err errors.Lacking) P Q h = tt
