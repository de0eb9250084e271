-- What a transaction may be over a history, what committing it adds, and which histories come of commits. (svn_fs.h,
-- svn_fs_begin_txn2 and svn_fs_commit_txn; the definitions are this project's profile.)
use Rattle.std.specs.Prelude.{◌≡◌, ℕ, ◌<◌, ◌≤◌, true, List, [], ◌∷◌, ◌++◌, length}
use Rattle.std.specs.FinMap.{FinMap, get}
use Rattle.fsfs_base.specs.Fields.RevNums.{last_rev}
use Rattle.fsfs_model.specs.declared.flat.edit.Edit.{Edit}
use Rattle.fsfs_model.specs.declared.flat.mark.Mark.{Mark}
use Rattle.fsfs_base.specs.Paths.{Path, path_cmp}
use Rattle.fsfs_tree.specs.Nodes.{Node, TreeFunction}
use Rattle.fsfs_model.specs.Flat.Edits.{accepts, applied, mark_of}
use Rattle.fsfs_model.specs.Flat.Landing.{land, NoClash}
use Rattle.fsfs_model.specs.Flat.Folding.{fold}
use Rattle.fsfs_tree.specs.Revisions.{Revision, tree_of}
use Rattle.fsfs_tree.specs.Dated.{last_of, IsDated}

-- the base, the tree and the marks of a transaction over the trees 0 to last: it begins as the tree of its base, and each later
-- change is an accepted edit, or a landing without a clash on a revision that is not before its base
pub data IsTransaction (tree : ℕ → TreeFunction) (last : ℕ) : ℕ → TreeFunction → List Mark → Type 0 where
  Begun : (b : ℕ) → b ≤ last → IsTransaction tree last b (tree b) []
  Edited : (b : ℕ) (t : TreeFunction) (marks : List Mark) (edit : Edit) → IsTransaction tree last b t marks → accepts edit tree last t ≡ true
      → IsTransaction tree last b (applied edit tree t) (marks ++ mark_of edit tree t ∷ [])
  Landed : (b h n : ℕ) (t : TreeFunction) (marks : List Mark) → IsTransaction tree last b t marks → b ≤ h → h ≤ last → NoClash b (tree b) (tree h) t marks
      → IsTransaction tree last h (land (tree b) (tree h) t marks n) marks

-- a transaction as it is committed, with the number of the pass that commits it
pub record Entry : Type 0 where
  pub pass : ℕ
  pub base : ℕ
  pub tree : FinMap path_cmp Node
  pub marks : List Mark
  pub properties : List (List ℕ × List ℕ)

-- the entry is of a transaction over the history
pub record IsEntry (h : List Revision) (e : Entry) : Type 0 where
  pub transaction : IsTransaction (tree_of h) (last_of h) e.base (get e.tree) e.marks
  pub dated : IsDated e.properties

-- committing the entry adds this revision
pub record IsNext (h : List Revision) (e : Entry) (next : Revision) : Type 0 where
  pub based : e.base < length h
  pub clear : NoClash e.base (tree_of h e.base) (tree_of h (last_of h)) (get e.tree) e.marks
  pub limit : length h ≤ last_rev
  pub tree : (p : Path) → get next.tree p ≡ land (tree_of h e.base) (tree_of h (last_of h)) (get e.tree) e.marks (length h) p
  pub changes : (p : Path) → get next.changes p ≡ fold e.marks p
  pub properties : next.properties ≡ e.properties

-- the history comes of the first by committing the entries in turn
abbrev pub IsLegal : List Revision → List Entry → List Revision → Type 0
IsLegal h [] now = h ≡ now
IsLegal h (e ∷ es) now = IsEntry h e × (next : Revision) × IsNext h e next × IsLegal (h ++ next ∷ []) es now
