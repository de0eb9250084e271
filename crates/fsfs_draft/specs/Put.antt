-- What is left where a node-revision is put behind a name.
use Rattle.std.specs.Prelude.{◌≡◌, List}
use Rattle.fsfs_base.specs.Paths.{PathName}
use Rattle.fsfs_base.specs.declared.kind.Kind.{Kind}
use Rattle.fsfs_noderev.specs.declared.node_id.NodeId.{NodeId}
use Rattle.fsfs_noderev.specs.declared.node_rev.NodeRev.{NodeRev}
use Rattle.fsfs_revision.specs.Shows.Reading.{DirEntry}
use Rattle.fsfs_draft.specs.Drafts.{Kept, Folder}
use Rattle.fsfs_draft.specs.Steps.{with_kept}
use Rattle.fsfs_draft.specs.Views.{new_kept, opened_kept}
use Rattle.fsfs_dag.specs.Entries.{HasPut}

-- the node-revision has no file yet, and the directory's entries are these with it behind the name
pub record IsEntryPut (before after : Folder) (dir : NodeId) (k : Kept) (entries : List DirEntry) (name : PathName) (kind : Kind) (child : NodeRev) : Type 0 where
  pub new : List DirEntry
  pub put : HasPut entries name kind child.id new
  pub after_is : after ≡ record before { nodes = with_kept dir (opened_kept k new) (with_kept child.id (new_kept child) before.nodes) }
