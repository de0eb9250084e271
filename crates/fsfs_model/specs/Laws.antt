-- The laws of the flat model.
use Rattle.std.specs.FinMap.{get}
use Rattle.std.specs.Prelude.{◌≡◌, ℕ, ◌<◌, ◌≤◌, Bool, true, not, List, ◌⊎◌, [], ◌∷◌, ◌++◌, Option, Some, None, is_some, if◌then◌else◌}
use Rattle.fsfs_model.specs.declared.flat.mark.Mark.{Mark}
use Rattle.fsfs_model.specs.declared.flat.mark.What.{What}
use Rattle.fsfs_model.specs.declared.flat.mark.What.TheVariants.{Make, Gone, Text, Prop}
use Rattle.fsfs_tree.specs.declared.change_map.Change.{Change}
use Rattle.fsfs_base.specs.declared.action.Action.TheVariants.{Delete}
use Rattle.fsfs_base.specs.Paths.{Path, covers, is_above, same_path}
use Rattle.fsfs_tree.specs.Nodes.{Node, TreeFunction}
use Rattle.fsfs_model.specs.Flat.Marks.{outer, made, made_after, any_covers, is_make}
use Rattle.fsfs_model.specs.Flat.Folding.{fold}
use Rattle.fsfs_model.specs.Flat.Landing.{land, is_clash, NoClash}
use Rattle.fsfs_tree.specs.Trees.{IsTree}
use Rattle.fsfs_tree.specs.Histories.{AreRevisions, IsHistory}
use Rattle.fsfs_tree.specs.PathHistories.{path_history, leads_to, go_on}
use Rattle.fsfs_tree.specs.Revisions.{Revision, tree_of}
use Rattle.fsfs_model.specs.Flat.Transactions.{IsTransaction, Entry, IsEntry, IsNext, IsLegal}
use Rattle.fsfs_tree.specs.Dated.{last_of}

-- x is in the list
abbrev pub In : {A : Type 0} → List A → A → Type 0
In [] x = ⊥
In (y ∷ ys) x = (y ≡ x) ⊎ In ys x

-- with no marks nothing is made; after one more mark, a path is made or taken back; and the mark is outer where no path made
-- before it is at or above its path
pub record OuterMarks : Type 0 where
  pub none_made : made [] ≡ []
  pub none_outer : outer [] ≡ []
  pub made_more : (marks : List Mark) (m : Mark) → made (marks ++ m ∷ []) ≡ made_after (made marks) m.what m.path
  pub outer_more : (marks : List Mark) (m : Mark) → outer (marks ++ m ∷ []) ≡ outer marks ++ (if any_covers (made marks) m.path then [] else m ∷ [])

-- where nothing clashes at h1, the clashes at h2 are the same from the base as from h1, and landing twice is landing once
abbrev pub TwoMergesAreOne : Type 0
TwoMergesAreOne = (tree : ℕ → TreeFunction) (last b h1 h2 m n : ℕ) (t : TreeFunction) (marks : List Mark)
    → AreRevisions tree last → IsTransaction tree last b t marks → b ≤ h1 → h1 ≤ h2 → h2 ≤ last
    → NoClash b (tree b) (tree h1) t marks
    → (p : Path)
    → (is_clash b (tree b) (tree h2) t marks p ≡ is_clash h1 (tree h1) (tree h2) (land (tree b) (tree h1) t marks m) marks p)
    × (land (tree h1) (tree h2) (land (tree b) (tree h1) t marks m) marks n p ≡ land (tree b) (tree h2) t marks n p)

-- a transaction has a tree, and so has its landing without a clash on a revision that is not before its base
pub record LandingLeavesATree : Type 0 where
  pub own : (tree : ℕ → TreeFunction) (last b : ℕ) (t : TreeFunction) (marks : List Mark) → AreRevisions tree last → IsTransaction tree last b t marks → IsTree t
  pub landed : (tree : ℕ → TreeFunction) (last b h n : ℕ) (t : TreeFunction) (marks : List Mark) → AreRevisions tree last → IsTransaction tree last b t marks
      → b ≤ h → h ≤ last → NoClash b (tree b) (tree h) t marks → IsTree (land (tree b) (tree h) t marks n)

-- a history with the revision that a commit adds is a history, and so is what comes of commits in turn
pub record CommitsMakeAHistory : Type 0 where
  pub next : (h : List Revision) (e : Entry) (next : Revision) → IsHistory h → IsEntry h e → IsNext h e next → IsHistory (h ++ next ∷ [])
  pub legal : (h : List Revision) (es : List Entry) (now : List Revision) → IsHistory h → IsLegal h es now → IsHistory now

-- the history of a path that stands in a revision
pub record PathHistoriesEnd (h : List Revision) : Type 0 where
  -- it begins with the revision in which the path was last changed, and goes on where that leads
  pub steps : (r : ℕ) (p : Path) (n : Node) → tree_of h r p ≡ Some n
      → path_history (tree_of h) r p ≡ (n.last_changed, p) ∷ go_on (λ to. path_history (tree_of h) to.0 to.1) (leads_to p n)
  -- that is in an earlier revision, where something stands: so it ends
  pub falls : (r : ℕ) (p : Path) (n : Node) (to : ℕ × Path) → tree_of h r p ≡ Some n → leads_to p n ≡ Some to → (to.0 < r) × (is_some (tree_of h to.0 to.1) ≡ true)
  -- each point stands in the tree of its revision
  pub stands : (r : ℕ) (p : Path) (point : ℕ × Path) → is_some (tree_of h r p) ≡ true → In (path_history (tree_of h) r p) point → is_some (tree_of h point.0 point.1) ≡ true

-- two nodes that differ in their numbers at most, or nothing at both places
abbrev pub AreSameNodes : Option Node → Option Node → Type 0
AreSameNodes None None = Unit {0}
AreSameNodes None (Some x) = ⊥
AreSameNodes (Some y) None = ⊥
AreSameNodes (Some y) (Some x) = (y.kind ≡ x.kind) × (y.text ≡ x.text) × (y.properties ≡ x.properties) × (y.source ≡ x.source)

-- an edit at q that makes nothing at p and takes nothing away there
abbrev pub leaves : What → Path → Path → Bool
leaves (Make source) q p = not (same_path q p)
leaves Gone q p = not (covers q p)
leaves Text q p = true
leaves Prop q p = true

-- what the changed paths of a revision that a commit adds tell
pub record FoldingTells : Type 0 where
  -- where the revision's tree differs from its parent's in kind, text, properties or source, a change stands there or above
  pub changed : (h : List Revision) (e : Entry) (next : Revision) → IsHistory h → IsEntry h e → IsNext h e next → (p : Path)
      → AreSameNodes (get next.tree p) (tree_of h (last_of h) p) ⊎ ((q : Path) × (covers q p ≡ true) × (is_some (get next.changes q) ≡ true))
  -- none stands below a delete
  pub below_a_delete : (h : List Revision) (e : Entry) (next : Revision) → IsHistory h → IsEntry h e → IsNext h e next → (q p : Path) (c : Change) → is_above q p ≡ true
      → get next.changes q ≡ Some c → c.action ≡ Delete → get next.changes p ≡ None
  -- a path of which nothing was said, that was made, and then deleted, has none
  pub undone : (before between : List Mark) (made gone : Mark) (p : Path) → fold before p ≡ None
      → made.path ≡ p → is_make made.what ≡ true → ((m : Mark) → In between m → leaves m.what m.path p ≡ true) → gone.path ≡ p → gone.what ≡ Gone
      → fold (before ++ (made ∷ (between ++ (gone ∷ [])))) p ≡ None
