-- What is left where an entry is taken away.
use Rattle.std.specs.Prelude.{◌≡◌, List, Some}
use Rattle.fsfs_base.specs.Paths.{PathName}
use Rattle.fsfs_noderev.specs.declared.node_id.NodeId.{NodeId}
use Rattle.fsfs_revision.specs.Shows.Reading.{DirEntry}
use Rattle.fsfs_draft.specs.Drafts.{Kept, Folder}
use Rattle.fsfs_draft.specs.Steps.{with_kept, kept_at}
use Rattle.fsfs_draft.specs.Views.{opened_kept}
use Rattle.fsfs_dag.specs.Entries.{HasTaken}

-- the directory's entries are these without the one of the name
pub record IsEntryTaken (before after : Folder) (dir : NodeId) (entries : List DirEntry) (name : PathName) : Type 0 where
  pub k : Kept
  pub here : kept_at before.nodes dir ≡ Some k
  pub new : List DirEntry
  pub taken : HasTaken entries name new
  pub after_is : after ≡ record before { nodes = with_kept dir (opened_kept k new) before.nodes }
