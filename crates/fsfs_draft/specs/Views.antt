-- The types of this crate, apart from where they lie in memory.
use Rattle.std.specs.Prelude.{ℕ, false, List, Some, None, option_map}
use Rattle.fsfs_noderev.specs.declared.rep.Rep.{Rep}
use Rattle.fsfs_noderev.specs.declared.rep.Contents.TheVariants as contents
use Rattle.fsfs_noderev.specs.declared.node_id.NodeId.{NodeId}
use Rattle.fsfs_noderev.specs.declared.node_rev.CopyRoot.{CopyRoot}
use Rattle.fsfs_noderev.specs.declared.node_rev.NodeRev.{NodeRev}
use Rattle.fsfs_draft.specs.Rules.{Root}
use Rattle.fsfs_revision.specs.Shows.Reading.{DirEntry}
use Rattle.fsfs_dag.specs.Listing.Views.{listed}
use Rattle.fsfs_draft.specs.Drafts.{Kept, Folder}
use Rattle.fsfs_draft.specs.Steps.{with_kept}
use Rattle.fsfs_draft.specs.declared.txn_noderevs.KeptNode.{KeptNode}

abbrev pub kept_value : KeptNode → Kept
kept_value k = record { node = k.node; entries = option_map listed k.entries; props = k.props }

abbrev pub new_kept : NodeRev → Kept
new_kept node = record { node = node; entries = None; props = None }

-- with entries in a `children` file of its own
abbrev pub opened_kept : Kept → List DirEntry → Kept
opened_kept k entries = record k { node = record k.node { text = Some contents.Own; is_fresh_txn_root = false }; entries = Some entries }

-- with another text
abbrev pub text_kept : Kept → Rep → Kept
text_kept k rep = record k { node = record k.node { text = Some (contents.At rep) } }

-- with properties in a `props` file of its own
abbrev pub props_kept : Kept → List (List ℕ × List ℕ) → Kept
props_kept k pairs = record k { node = record k.node { props = Some contents.Own; is_fresh_txn_root = false }; props = Some pairs }

-- the folder with these files of the node-revision of an id
abbrev pub text_put : Folder → NodeId → Kept → Rep → Folder
text_put f id k rep = record f { nodes = with_kept id (text_kept k rep) f.nodes }

abbrev pub props_put : Folder → NodeId → Kept → List (List ℕ × List ℕ) → Folder
props_put f id k pairs = record f { nodes = with_kept id (props_kept k pairs) f.nodes }

abbrev pub root_value : CopyRoot → Root
root_value r = (r.rev, r.path)
