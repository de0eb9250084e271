-- What a history is: each revision's tree and numbers against those of the revision before. (This project's profile, after the
-- created and changed revisions of svn_fs.h.)
use Rattle.std.specs.Prelude.{◌≡◌, ℕ, suc, ◌<◌, ◌≤◌, true, List, [], ◌∷◌, Some, None, is_some, length}
use Rattle.fsfs_base.specs.declared.kind.Kind.TheVariants.{Dir}
use Rattle.fsfs_base.specs.Paths.{Path, PathName, is_above}
use Rattle.fsfs_tree.specs.Nodes.{Node, TreeFunction, empty_node}
use Rattle.fsfs_tree.specs.Revisions.{Revision, tree_of}
use Rattle.fsfs_tree.specs.Trees.{AreOrdered, IsTree}

-- the tree s of revision r follows the tree p; `tree` gives the trees of the revisions before
pub record IsRevision (r : ℕ) (tree : ℕ → TreeFunction) (p s : TreeFunction) : Type 0 where
  pub is_tree : IsTree s
  pub root : (n : Node) → s [] ≡ Some n → (n.added ≡ 0) × (n.last_changed ≡ r)
  pub ordered : AreOrdered s
  pub at_most : (q : Path) (n : Node) → s q ≡ Some n → n.last_changed ≤ r
  -- what is below a node was added no sooner, and was changed no later
  pub below : (q x : Path) (m n : Node) → is_above q x ≡ true → s q ≡ Some m → s x ≡ Some n → (m.added ≤ n.added) × (n.last_changed ≤ m.last_changed)
  -- what was not changed in r stands as before
  pub last_changed : (q : Path) (n : Node) → s q ≡ Some n → n.last_changed < r → p q ≡ Some n
  -- what was not added in r stood there
  pub added : (q : Path) (n : Node) → s q ≡ Some n → n.added < r → (m : Node) × (p q ≡ Some m) × (m.kind ≡ n.kind) × (m.added ≡ n.added) × (m.source ≡ n.source)
  -- properties that were not set in r are as before
  pub props_changed : (q : Path) (n : Node) → s q ≡ Some n → n.props_changed < r → (m : Node) × (p q ≡ Some m) × (m.properties ≡ n.properties) × (m.props_changed ≡ n.props_changed)
  -- where something was taken away, what stands above it was changed
  pub taken : (q x : Path) (n : Node) → is_above q x ≡ true → s q ≡ Some n → s x ≡ None → is_some (p x) ≡ true → n.last_changed ≡ r
  -- a source is of an earlier revision, and stands there
  pub source : (q f : Path) (n : Node) (from : ℕ) → s q ≡ Some n → n.source ≡ Some (from, f) → (from < n.added) × (is_some (tree from f) ≡ true)

-- the trees of the revisions 0 to last: the first has `/` alone, a directory without properties and source, all numbers 0
pub record AreRevisions (tree : ℕ → TreeFunction) (last : ℕ) : Type 0 where
  pub first : tree 0 [] ≡ Some (empty_node Dir)
  pub alone : (x : PathName) (q : Path) → tree 0 (x ∷ q) ≡ None
  pub next : (r : ℕ) → r < last → IsRevision (suc r) tree (tree r) (tree (suc r))

-- a history: revision 0 and those after it
pub record IsHistory (h : List Revision) : Type 0 where
  pub last : ℕ
  pub counted : length h ≡ suc last
  pub revisions : AreRevisions (tree_of h) last
