-- Which flat tree the bytes of all revisions show as that of one revision.
--
-- Kind, text and properties stand in the node-revision at a path. The three numbers and the source are not written anywhere: a
-- directory is copied without what is below it, so they come of the chain of predecessors and of the copy roots on the way to the
-- path. (The node-revisions are those of the libsvn_fs_fs structure file; the numbers are this project's profile.)
use Rattle.std.specs.Prelude.{◌≡◌, ◌≢◌, ◌≤◌, ◌<◌, ◌⊎◌, ◌++◌, ℕ, max, [], take, drop, length, Option, Some, None, Ok, Err, IsSomeAnd, if◌then◌else◌}
use Rattle.fsfs_base.specs.Paths.{Path, covers}
use Rattle.fsfs_tree.specs.Nodes.{Node, Content, Bytes, Closed, TreeFunction}
use Rattle.fsfs_base.specs.declared.kind.Kind.{Kind}
use Rattle.fsfs_base.specs.declared.kind.Kind.TheVariants.{File, Dir}
use Rattle.fsfs_revision.specs.Told.{RevisionBytes}
use Rattle.fsfs_noderev.specs.declared.node_rev.CopySource.{CopySource}
use Rattle.fsfs_noderev.specs.declared.node_rev.NodeRev.{NodeRev}
use Rattle.fsfs_revision.specs.Damage.Damages.{place_of}
use Rattle.fsfs_revision.specs.declared.wrong.Wrong.TheVariants as wrongs
use Rattle.fsfs_revision.specs.Shows.Reading.{TextOf, PropsOf, Met, Stands, Lacking, Blocked, MetAt, StandsAt}
use Rattle.fsfs_revision.specs.Shows.Chains.{own_rev, Chain, copy_root_of, IsCopiedIn, contents_rev}

-- ---- the text

-- a file's bytes, or the place of a delta; a directory has no text
abbrev pub IsTextOf : RevisionBytes → Kind → NodeRev → Content → Type 0
IsTextOf look Dir v text = text ≡ Bytes []
IsTextOf look File v (Bytes bytes) = TextOf look v (Ok bytes)
IsTextOf look File v (Closed rev offset) = TextOf look v (Err (wrongs.Delta (place_of rev offset)))

-- ---- the source

-- the nearest node-revision at the path or above it whose copy root is of this revision
pub record Nearest (look : RevisionBytes) (r : ℕ) (p : Path) (rev : ℕ) : Type 0 where
  pub depth : ℕ
  pub within : depth ≤ length p
  pub node : NodeRev
  pub stands : StandsAt look r (take depth p) node
  pub root : (copy_root_of node).0 ≡ rev
  pub nearest : (k : ℕ) (q : NodeRev) → depth < k → k ≤ length p → StandsAt look r (take k p) q → (copy_root_of q).0 ≢ rev

-- what a copy at `root` copied to the path p
abbrev pub copied_from : Path → Path → Option CopySource → Option (ℕ × Path)
copied_from root p None = None
copied_from root p (Some source) = if covers root p then Some (source.rev, source.path ++ drop (length root) p) else None

abbrev pub source_by : Path → Path → Met → Option (ℕ × Path)
source_by root p (Stands copy) = copied_from root p copy.copy_from
source_by root p (Lacking depth) = None
source_by root p (Blocked depth) = None

-- by the copy of the revision in which the node came to stand at the path; the root of that copy was met there
pub record IsOfCopy (look : RevisionBytes) (r : ℕ) (p : Path) (added : ℕ) (source : Option (ℕ × Path)) : Type 0 where
  pub near : Nearest look r p added
  pub met : Met
  pub root : MetAt look added (copy_root_of near.node).1 (Ok met)
  pub source_is : source ≡ source_by (copy_root_of near.node).1 p met

-- a node whose chain begins where it was added was not copied
abbrev pub IsSource : RevisionBytes → ℕ → Path → ℕ → ℕ → Option (ℕ × Path) → Type 0
IsSource look r p first added source = ((first ≡ added) × (source ≡ None)) ⊎ ((first < added) × IsOfCopy look r p added source)

-- ---- the tree

-- a node-revision at a path is shown as this node
pub record IsShown (look : RevisionBytes) (r : ℕ) (p : Path) (v : NodeRev) (n : Node) : Type 0 where
  pub kind : n.kind ≡ v.kind
  pub text : IsTextOf look v.kind v n.text
  pub properties : PropsOf look v (Ok n.properties)
  -- the revision of the first node-revision in its chain of predecessors
  pub first : ℕ
  pub chain : Chain look v (Ok first)
  -- the revision of the last copy of it, or of something above it
  pub copied : ℕ
  pub copied_is : IsCopiedIn look r p copied
  pub added : n.added ≡ max first copied
  pub props_changed : n.props_changed ≡ max n.added (contents_rev v.props)
  pub last_changed : n.last_changed ≡ max copied (own_rev v)
  pub source : IsSource look r p first n.added n.source

abbrev pub IsShownAs : RevisionBytes → ℕ → Path → Met → Option Node → Type 0
IsShownAs look r p (Stands v) node = IsSomeAnd node (IsShown look r p v)
IsShownAs look r p (Lacking depth) node = node ≡ None
IsShownAs look r p (Blocked depth) node = node ≡ None

-- the bytes show a tree: no path meets what is wrong, and each node is that of the node-revision at its path
pub record Shows (look : RevisionBytes) (r : ℕ) (tree : TreeFunction) : Type 0 where
  pub each : (p : Path) → (met : Met) × MetAt look r p (Ok met) × IsShownAs look r p met (tree p)
