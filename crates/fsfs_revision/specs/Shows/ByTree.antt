-- What readings answer where the bytes show a tree: they answer by the tree.
use Rattle.std.specs.Prelude.{◌≡◌, ◌≤◌, ◌<◌, ◌++◌, ℕ, suc, List, [], ◌∷◌, take, length, Option, Some, None, Result, Ok, Err, IsSomeAnd}
use Rattle.fsfs_base.specs.Paths.{PathName, Path}
use Rattle.fsfs_tree.specs.Nodes.{Node, Content, Bytes, Closed, TreeFunction}
use Rattle.fsfs_base.specs.declared.kind.Kind.TheVariants.{File, Dir}
use Rattle.fsfs_revision.specs.Told.{RevisionBytes}
use Rattle.fsfs_noderev.specs.declared.node_rev.NodeRev.{NodeRev}
use Rattle.fsfs_revision.specs.Damage.Damages.{place_of}
use Rattle.fsfs_revision.specs.declared.wrong.Wrong.{Wrong}
use Rattle.fsfs_revision.specs.declared.wrong.Wrong.TheVariants as wrongs
use Rattle.fsfs_revision.specs.Shows.Reading.{DirEntry, named, TextOf, PropsOf, EntriesOf, Met, Stands, Lacking, Blocked, MetAt, StandsAt}
use Rattle.fsfs_revision.specs.Shows.Shown.{IsShown}

-- the first `depth` names of the path lead to nothing, and those before the last of them to a directory
pub record LacksAt (tree : TreeFunction) (p : Path) (depth : ℕ) : Type 0 where
  pub above : ℕ
  pub depth_is : depth ≡ suc above
  pub within : depth ≤ length p
  pub nothing : tree (take depth p) ≡ None
  pub dir : Node
  pub dir_is : tree (take above p) ≡ Some dir
  pub kind : dir.kind ≡ Dir

-- the first `depth` names of the path lead to a file, and more names follow
pub record IsBlockedAt (tree : TreeFunction) (p : Path) (depth : ℕ) : Type 0 where
  pub within : depth < length p
  pub file : Node
  pub file_is : tree (take depth p) ≡ Some file
  pub kind : file.kind ≡ File

-- what is met at a path is by the tree: its node, or the first path that it lacks, or the file that is in the way; and never what is
-- wrong
abbrev pub IsMetByTree : RevisionBytes → ℕ → TreeFunction → Path → Result Met Wrong → Type 0
IsMetByTree look r tree p (Ok (Stands v)) = IsSomeAnd (tree p) (IsShown look r p v)
IsMetByTree look r tree p (Ok (Lacking depth)) = LacksAt tree p depth
IsMetByTree look r tree p (Ok (Blocked depth)) = IsBlockedAt tree p depth
IsMetByTree look r tree p (Err w) = ⊥

-- a directory has an entry of a name exactly where the tree has a node there, and of its kind
abbrev pub IsEntryByTree : Option DirEntry → Option Node → Type 0
IsEntryByTree None node = node ≡ None
IsEntryByTree (Some entry) node = IsSomeAnd node (λ n. n.kind ≡ entry.kind)

abbrev pub AreEntriesByTree : TreeFunction → Path → Result (List DirEntry) Wrong → Type 0
AreEntriesByTree tree p (Ok entries) = (name : PathName) → IsEntryByTree (named name entries) (tree (p ++ name ∷ []))
AreEntriesByTree tree p (Err w) = ⊥

-- a file's text is the node's; a delta is refused, at its place
abbrev pub IsTextByTree : Result (List ℕ) Wrong → Content → Type 0
IsTextByTree (Ok bytes) text = text ≡ Bytes bytes
IsTextByTree (Err w) (Closed rev offset) = w ≡ wrongs.Delta (place_of rev offset)
IsTextByTree (Err w) (Bytes bytes) = ⊥

-- where the bytes show a tree, all that is read of it is by the tree
pub record IsReadByTree (look : RevisionBytes) (r : ℕ) (tree : TreeFunction) : Type 0 where
  pub paths : (p : Path) (read : Result Met Wrong) → MetAt look r p read → IsMetByTree look r tree p read
  pub entries : (p : Path) (v : NodeRev) (read : Result (List DirEntry) Wrong) → StandsAt look r p v → v.kind ≡ Dir → EntriesOf look v read → AreEntriesByTree tree p read
  pub props : (p : Path) (v : NodeRev) (n : Node) (read : Result (List (List ℕ × List ℕ)) Wrong) → StandsAt look r p v → tree p ≡ Some n → PropsOf look v read → read ≡ Ok n.properties
  pub texts : (p : Path) (v : NodeRev) (n : Node) (read : Result (List ℕ) Wrong) → StandsAt look r p v → tree p ≡ Some n → v.kind ≡ File → TextOf look v read → IsTextByTree read n.text
