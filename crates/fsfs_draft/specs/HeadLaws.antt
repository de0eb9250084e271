-- What the ids of two revisions say of what was changed between them.
--
-- A merge compares directories by the ids of their entries. What it takes a side to have changed is defined on flat trees, by the
-- numbers of the nodes. Where the node-revisions hang together, the two agree, at each path above which the later revision kept
-- what the earlier one has.
use Rattle.std.specs.Prelude.{◌≡◌, ◌≤◌, ◌↔◌, ℕ, true, false}
use Rattle.fsfs_base.specs.Paths.{Path, is_above}
use Rattle.fsfs_tree.specs.Nodes.{TreeFunction}
use Rattle.fsfs_model.specs.Flat.Landing.{touched_by_head, held_by_head, props_changed_by_head}
use Rattle.fsfs_revision.specs.Told.{RevisionBytes}
use Rattle.fsfs_noderev.specs.declared.node_rev.NodeRev.{NodeRev}
use Rattle.fsfs_revision.specs.Shows.Reading.{StandsAt}
use Rattle.fsfs_revision.specs.Shows.Chains.{copy_root_of}
use Rattle.fsfs_revision.specs.Ancestry.Trees.{ShowTrees}

-- the later node-revision goes on from the same node, and was not copied since revision b, by itself or with what its copy root is
abbrev pub Continues : ℕ → NodeRev → NodeRev → Type 0
Continues b x y = (x.id.node ≡ y.id.node) × ((copy_root_of y).0 ≤ b)

-- the head kept all that is above the path
abbrev pub IsHeldAbove : ℕ → TreeFunction → Path → Type 0
IsHeldAbove b s p = (q : Path) → is_above q p ≡ true → held_by_head b (s q) ≡ true

-- x stands at the path in the base, revision b, and y in the head
pub record AgreeAt (b : ℕ) (s : TreeFunction) (p : Path) (x y : NodeRev) : Type 0 where
  -- the id is the base's exactly where the head did not touch the path
  pub id : (x.id ≡ y.id) ↔ (touched_by_head b (s p) ≡ false)
  -- it is a continuation exactly where the head held the path
  pub goes_on : Continues b x y ↔ (held_by_head b (s p) ≡ true)
  -- where it held it, the representation of the properties is the base's exactly where the head did not change them
  pub props : held_by_head b (s p) ≡ true → (x.props ≡ y.props) ↔ (props_changed_by_head b (s p) ≡ false)

abbrev pub HeadLaws : Type 0
HeadLaws = (look : RevisionBytes) (top : ℕ) (tree : ℕ → TreeFunction) → ShowTrees look top tree → (b h : ℕ) → b ≤ h → h ≤ top
    → (p : Path) → IsHeldAbove b (tree h) p → (x y : NodeRev) → StandsAt look b p x → StandsAt look h p y → AgreeAt b (tree h) p x y

-- what the head did not touch is, with all below it, node-revision by node-revision that of the base
abbrev pub UntouchedIsShared : Type 0
UntouchedIsShared = (look : RevisionBytes) (top : ℕ) (tree : ℕ → TreeFunction) → ShowTrees look top tree → (b h : ℕ) → b ≤ h → h ≤ top
    → (p : Path) (y : NodeRev) → StandsAt look h p y → touched_by_head b (tree h p) ≡ false → StandsAt look b p y
