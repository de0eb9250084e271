-- What a history says of two of its revisions, and what a transaction's marks say of its base.
use Rattle.std.specs.Prelude.{◌≡◌, ℕ, ◌≤◌, true, false, List, Some, None, is_some, ◌⊎◌}
use Rattle.fsfs_model.specs.declared.flat.mark.What.{What}
use Rattle.fsfs_model.specs.declared.flat.mark.What.TheVariants.{Make, Gone, Text, Prop}
use Rattle.fsfs_model.specs.declared.flat.mark.Mark.{Mark}
use Rattle.fsfs_base.specs.Paths.{Path, covers, is_above}
use Rattle.fsfs_tree.specs.Nodes.{Node, TreeFunction}
use Rattle.fsfs_model.specs.Flat.Marks.{outer, made, effects, is_make}
use Rattle.fsfs_model.specs.Laws.{In}

-- a path that stands in the tree has what is above it there too
abbrev pub IsClosed : TreeFunction → Type 0
IsClosed t = (q p : Path) → covers q p ≡ true → is_some (t p) ≡ true → is_some (t q) ≡ true

-- what stood there before, of the same kind, source and revision
pub record IsOlder (n m : Node) : Type 0 where
  pub kind : m.kind ≡ n.kind
  pub added : m.added ≡ n.added
  pub source : m.source ≡ n.source

-- s is the tree of a revision, and b that of the revision `base` at or before it
pub record IsLater (base : ℕ) (b s : TreeFunction) : Type 0 where
  pub kept : (q p : Path) (n : Node) → s q ≡ Some n → n.last_changed ≤ base → covers q p ≡ true → s p ≡ b p
  pub older : (q : Path) (n : Node) → s q ≡ Some n → n.added ≤ base → (m : Node) × (b q ≡ Some m) × IsOlder n m
  pub same_props : (q : Path) (n : Node) → s q ≡ Some n → n.props_changed ≤ base → (m : Node) × (b q ≡ Some m) × (m.props_changed ≡ n.props_changed)

-- what the marks of a transaction with the tree t say of its base
pub record DescribesBase (base t : TreeFunction) (marks : List Mark) : Type 0 where
  -- what was taken away or changed is in the base
  pub based : (m : Mark) → In (outer marks) m → (is_make m.what ≡ true → ⊥) → is_some (base m.path) ≡ true
  -- what was made has its directory in the base
  pub placed : (m : Mark) (q : Path) → In (outer marks) m → is_make m.what ≡ true → is_above q m.path ≡ true → is_some (base q) ≡ true
  -- what was made stands in the tree, at or below an outer mark, and takes the place of nothing that is left
  pub kept : (q : Path) → In (made marks) q → is_some (t q) ≡ true
  pub new : (q : Path) → In (made marks) q → (is_some (base q) ≡ false) ⊎ ((effects marks q).deleted ≡ true)
  pub top : (q : Path) → In (made marks) q
      → (m : Mark) × In (outer marks) m × (is_make m.what ≡ true) × (covers m.path q ≡ true) × ((is_some (base m.path) ≡ false) ⊎ ((effects marks m.path).deleted ≡ true))
  -- what the base lacks was made
  pub own : (p : Path) → is_some (base p) ≡ false → is_some (t p) ≡ true → (q : Path) × In (made marks) q × (covers q p ≡ true)
  -- what the tree lacks was taken away
  pub lost : (p : Path) → is_some (base p) ≡ true → is_some (t p) ≡ false → (effects marks p).deleted ≡ true

-- what an edit does to the paths of a tree
abbrev pub ChangesPaths : What → Path → TreeFunction → TreeFunction → Type 0
ChangesPaths (Make source) p t u = (is_some (t p) ≡ false) × (is_some (u p) ≡ true) × ((q : Path) → is_above q p ≡ true → is_some (t q) ≡ true) × ((q : Path) → covers p q ≡ false → is_some (u q) ≡ is_some (t q))
ChangesPaths Gone p t u = (is_some (t p) ≡ true) × ((q : Path) → covers p q ≡ true → is_some (u q) ≡ false) × ((q : Path) → covers p q ≡ false → is_some (u q) ≡ is_some (t q))
ChangesPaths Text p t u = (is_some (t p) ≡ true) × ((q : Path) → is_some (u q) ≡ is_some (t q))
ChangesPaths Prop p t u = (is_some (t p) ≡ true) × ((q : Path) → is_some (u q) ≡ is_some (t q))
