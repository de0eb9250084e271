-- What a transaction keeps beside `IsDraft`, so that it can be merged and written: its files, what it drew, and what its marks say.
use Rattle.std.specs.Prelude.{◌≡◌, ◌++◌, ℕ, Bool, true, ◌&&◌, not, List, [], ◌∷◌, Option, Some, None, is_some}
use Rattle.fsfs_base.specs.Paths.{PathName, Path}
use Rattle.fsfs_tree.specs.Nodes.{Node, TreeFunction}
use Rattle.fsfs_base.specs.declared.kind.Kind.TheVariants.{Dir}
use Rattle.fsfs_model.specs.declared.flat.mark.Mark.{Mark}
use Rattle.fsfs_model.specs.Flat.Marks.{effects}
use Rattle.fsfs_noderev.specs.declared.rep.Contents.TheVariants as contents
use Rattle.fsfs_noderev.specs.declared.node_id.NodeId.{NodeId}
use Rattle.fsfs_noderev.specs.declared.node_rev.CopySource.{CopySource}
use Rattle.fsfs_revision.specs.Shows.Reading.{DirEntry}
use Rattle.fsfs_draft.specs.Own.{OwnNode, Own, below, has_entry, shared_at}

-- ---- files

-- `-1` stands for a file of its own; a new node without such a file has no list of entries and no properties
pub record HasFiles (v : OwnNode) : Type 0 where
  pub list : (entries : List DirEntry) → v.entries ≡ Some entries → v.node.text ≡ Some contents.Own
  pub set : (pairs : List (List ℕ × List ℕ)) → v.props ≡ Some pairs → v.node.props ≡ Some contents.Own
  pub no_list : v.node.kind ≡ Dir → v.node.predecessor ≡ None → v.entries ≡ None → v.node.text ≡ None
  pub no_set : v.node.predecessor ≡ None → v.props ≡ None → v.node.props ≡ None

abbrev pub OwnFiles : Own → Type 0
OwnFiles own = (p : Path) (v : OwnNode) → own p ≡ Some v → HasFiles v

-- ---- what is drawn

-- a node part is drawn for one new node, and a copy part for one copy; what has a copy's part and is no copy has it of its directory
pub record DrawnOnce (own : Own) : Type 0 where
  pub made : (p q : Path) (v w : OwnNode) → own p ≡ Some v → own q ≡ Some w → v.node.predecessor ≡ None → w.node.predecessor ≡ None → v.node.id.node ≡ w.node.id.node → p ≡ q
  pub copied : (p q : Path) (v w : OwnNode) (from other : CopySource) → own p ≡ Some v → own q ≡ Some w → v.node.copy_from ≡ Some from → w.node.copy_from ≡ Some other → v.node.id.copy ≡ w.node.id.copy → p ≡ q
  pub apart : (p q : Path) (name : PathName) (dir v c : OwnNode) (from : CopySource) → own p ≡ Some dir → own (p ++ name ∷ []) ≡ Some v → v.node.copy_from ≡ None → own q ≡ Some c → c.node.copy_from ≡ Some from
      → c.node.id.copy ≡ v.node.id.copy → v.node.id.copy ≡ dir.node.id.copy

-- ---- marks

-- what stands here goes on from what the base has here
abbrev pub goes_on_here : Option OwnNode → Bool
goes_on_here None = true
goes_on_here (Some v) = not (is_some v.node.copy_from) && is_some v.node.predecessor

abbrev pub has_here : Option OwnNode → PathName → Bool
has_here None name = true
has_here (Some v) name = has_entry v.entries name

-- the draft has at the path what the base has there: each own node-revision on the way goes on from one of the base, and has the entry of the next
abbrev pub held : Own → Path → Bool
held own [] = goes_on_here (own [])
held own (name ∷ p) = goes_on_here (own []) && (has_here (own []) name && held (below name own) p)

-- the marks say which of the base's paths the draft holds, and of those which are the transaction's own, with properties of their own
pub record AreMarksOf (base : TreeFunction) (marks : List Mark) (own : Own) : Type 0 where
  pub deleted : (p : Path) → is_some (base p) ≡ true → (effects marks p).deleted ≡ not (held own p)
  pub touched : (p : Path) → is_some (base p) ≡ true → held own p ≡ true → (effects marks p).touched ≡ is_some (own p)
  pub props : (p : Path) (v : OwnNode) → is_some (base p) ≡ true → held own p ≡ true → own p ≡ Some v → (effects marks p).props_changed ≡ is_some v.props

-- ---- sources

abbrev pub source_here : Option CopySource → Option NodeId → Option Node → Option (ℕ × Path)
source_here (Some from) before here = Some (from.rev, from.path)
source_here None (Some id) (Some n) = n.source
source_here None (Some id) None = None
source_here None None here = None

-- a node is shown with the source that its copy has, that of what it goes on from, or none
abbrev pub OwnSources : (ℕ → TreeFunction) → TreeFunction → Own → Type 0
OwnSources trees base own = (p : Path) (v : OwnNode) → own p ≡ Some v → v.shown.source ≡ source_here v.node.copy_from v.node.predecessor (shared_at trees p own base [])
