-- The walk by ids is the merge of the flat model.
use Rattle.std.specs.Prelude.{◌≡◌, ℕ, ◌≤◌, true, false, ◌&&◌, ◌||◌, not, List, Option, Some, None, is_some}
use Rattle.fsfs_model.specs.Flat.Edits.{is_dir_node}
use Rattle.fsfs_base.specs.Paths.{Path}
use Rattle.fsfs_tree.specs.Nodes.{Node, TreeFunction}
use Rattle.fsfs_base.specs.declared.kind.Kind.TheVariants.{File}
use Rattle.fsfs_model.specs.declared.flat.mark.Mark.{Mark}
use Rattle.fsfs_model.specs.declared.flat.mark.Effects.{Effects}
use Rattle.fsfs_model.specs.Flat.Marks.{effects}
use Rattle.fsfs_model.specs.Flat.Landing.{touched_by_head, props_changed_by_head, goes_on, reached, is_clash, NoClash, land}
use Rattle.fsfs_tree.specs.Histories.{AreRevisions}
use Rattle.fsfs_model.specs.Flat.Transactions.{IsTransaction}
use Rattle.fsfs_merge.specs.Walks.{Sight, clashes_by_ids, merged}

-- at one path: what the ids say is what the numbers and marks say
pub record Agrees (base : ℕ) (d : Effects) (a s t : Option Node) (see : Sight) : Type 0 where
  pub in_base : see.in_base ≡ is_some a
  pub in_head : see.in_head ≡ is_some s
  pub in_own : see.in_own ≡ is_some t
  -- the head's id is the base's exactly where the head did not touch the path, and the transaction's where no mark does
  pub head_same : is_some a ≡ true → see.head_same ≡ not (touched_by_head base s)
  pub own_same : is_some a ≡ true → see.own_same ≡ not d.touched
  -- it goes on exactly where both sides hold a directory
  pub both_go : is_some a ≡ true → see.goes_on ≡ (is_dir_node a && goes_on base d a s)
  -- and then the representations of the properties are the base's exactly where neither side changed them
  pub same_props : (is_dir_node a && goes_on base d a s) ≡ true → see.same_props ≡ not (d.props_changed || props_changed_by_head base s)

-- a text that no outer mark rewrites is the base's
abbrev pub KeepsTexts : TreeFunction → TreeFunction → List Mark → Type 0
KeepsTexts a t marks = (p : Path) (m n : Node) → a p ≡ Some m → t p ≡ Some n → (effects marks p).deleted ≡ false → (effects marks p).rewritten ≡ false → n.text ≡ m.text

-- two nodes that differ in their numbers at most, or nothing at both places
pub record IsSameNode (x y : Node) : Type 0 where
  pub kind : x.kind ≡ y.kind
  pub text : x.kind ≡ File → x.text ≡ y.text
  pub properties : x.properties ≡ y.properties
  pub source : x.source ≡ y.source

abbrev pub AreSame : Option Node → Option Node → Type 0
AreSame None None = Unit {0}
AreSame None (Some y) = ⊥
AreSame (Some x) None = ⊥
AreSame (Some x) (Some y) = IsSameNode x y

-- where the ids agree with numbers and marks at each path above which both sides hold all, the walk by ids stops exactly where the two
-- clash, and where it does not, what it leaves is the landing
pub record IdsAreMarks : Type 0 where
  pub clash : (tree : ℕ → TreeFunction) (last b h : ℕ) (t : TreeFunction) (marks : List Mark) (see : Path → Sight)
      → AreRevisions tree last → IsTransaction tree last b t marks → b ≤ h → h ≤ last
      → ((p : Path) → reached (λ q. goes_on b (effects marks q) (tree b q) (tree h q)) p ≡ true → Agrees b (effects marks p) (tree b p) (tree h p) (t p) (see p))
      → (p : Path) → clashes_by_ids see p ≡ is_clash b (tree b) (tree h) t marks p
  pub landing : (tree : ℕ → TreeFunction) (last b h n : ℕ) (t : TreeFunction) (marks : List Mark) (see : Path → Sight)
      → AreRevisions tree last → IsTransaction tree last b t marks → b ≤ h → h ≤ last
      → ((p : Path) → reached (λ q. goes_on b (effects marks q) (tree b q) (tree h q)) p ≡ true → Agrees b (effects marks p) (tree b p) (tree h p) (t p) (see p))
      → NoClash b (tree b) (tree h) t marks
      → (p : Path) → AreSame (merged see (tree h) t p) (land (tree b) (tree h) t marks n p)
