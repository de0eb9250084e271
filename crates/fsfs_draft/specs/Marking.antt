-- One mark more: what an edit does to the own node-revisions at the base's paths, and what its mark says.
use Rattle.std.specs.Prelude.{◌≡◌, Bool, true, false, ◌&&◌, ◌||◌, not, List, [], ◌∷◌, ◌++◌, Option, Some, None, is_some}
use Rattle.fsfs_base.specs.Paths.{Path}
use Rattle.fsfs_tree.specs.Nodes.{TreeFunction}
use Rattle.fsfs_model.specs.declared.flat.mark.Mark.{Mark}
use Rattle.fsfs_model.specs.Flat.Marks.{any_covers, made, touches, is_gone, changes_props}
use Rattle.fsfs_draft.specs.Own.{OwnNode, Own}
use Rattle.fsfs_draft.specs.Sides.{held, AreMarksOf}

abbrev pub has_props : Option OwnNode → Bool
has_props None = false
has_props (Some v) = is_some v.props

-- at the paths of the base: held but where it is gone; the transaction's own where it was or the mark touches; with properties of
-- its own where it had them or the mark changes them
pub record IsMoved (base : TreeFunction) (m : Mark) (own now : Own) : Type 0 where
  pub kept : (q : Path) → is_some (base q) ≡ true → held now q ≡ (held own q && not (is_gone m.what m.path q))
  pub mine : (q : Path) → is_some (base q) ≡ true → held now q ≡ true → is_some (now q) ≡ (is_some (own q) || touches m.what m.path q)
  pub props : (q : Path) → is_some (base q) ≡ true → held now q ≡ true → has_props (now q) ≡ (has_props (own q) || changes_props m.what m.path q)

-- nothing is changed where the draft holds the base
pub record IsUnmoved (base : TreeFunction) (own now : Own) : Type 0 where
  pub kept : (q : Path) → is_some (base q) ≡ true → held now q ≡ held own q
  pub mine : (q : Path) → is_some (base q) ≡ true → held now q ≡ true → is_some (now q) ≡ is_some (own q)
  pub props : (q : Path) → is_some (base q) ≡ true → held now q ≡ true → has_props (now q) ≡ has_props (own q)

-- an outer mark, and one at or below what the transaction made
pub record MarksAreKept : Type 0 where
  pub outer : (base : TreeFunction) (marks : List Mark) (m : Mark) (own now : Own) → AreMarksOf base marks own → any_covers (made marks) m.path ≡ false → IsMoved base m own now → AreMarksOf base (marks ++ m ∷ []) now
  pub inner : (base : TreeFunction) (marks : List Mark) (m : Mark) (own now : Own) → AreMarksOf base marks own → any_covers (made marks) m.path ≡ true → IsUnmoved base own now → AreMarksOf base (marks ++ m ∷ []) now
