-- What files that stand for a history print of its changed paths.
use Rattle.std.proofs.Common.{◌≡◌, ℕ, zero, suc, ◌≤◌, ◌<◌, List, [], ◌∷◌, length, Option, Some, None, refl, sym, ap, subst, arith}
use Rattle.std.specs.Prelude.{slice_get}
use Rattle.std.specs.FinMap.{get}
use Rattle.fsfs_base.specs.Files.{Files}
use Rattle.fsfs_tree.specs.Revisions.{Revision, tree_of, node_in}
use Rattle.fsfs_tree.specs.Nodes.{TreeFunction}
use Rattle.fsfs_revision.specs.RevBytes.{rev_bytes}
use Rattle.fsfs_revision.specs.Shows.Shown.{Shows}
use Rattle.fsfs_stands.specs.Files.{StandsFor}
use Rattle.fsfs_stands.specs.ChangedLaws.{ShowChanges, ChangedPathsAreFlat}
use Rattle.fsfs_stands.proofs.ChangedByTrees.{changed_by}

-- what stands before an element is there
pub earlier : {A : Type 0} (xs : List A) (n r : ℕ) (x : A) → r ≤ n → slice_get xs n ≡ Some x → (y : A) × (slice_get xs r ≡ Some y)
earlier [] n r x le e = absurd cc
earlier (y ∷ xs) n zero x le e = (y, refl)
earlier (y ∷ xs) zero (suc r) x le e = absurd (omega (arith, le))
earlier (y ∷ xs) (suc n) (suc r) x le e = earlier xs n r x (omega (arith, le)) e

module _ (files : Files) (h : List Revision) (s : StandsFor files h) (rev : ℕ) (revision : Revision) (is : slice_get h rev ≡ Some revision) where
  trees : (r : ℕ) → r ≤ rev → Shows (rev_bytes s.opened.layout files) r (tree_of h r)
  trees r le =
      let x = earlier h rev r revision le is in
      subst (λ (o : Option Revision). Shows (rev_bytes s.opened.layout files) r (node_in o)) (sym x.1) (s.history.each r x.0 x.1).tree

  shown : ShowChanges (rev_bytes s.opened.layout files) rev (tree_of h) revision.changes
  shown = let w = s.history.each rev revision is in record { bytes = w.bytes; bytes_are = w.bytes_are; changes_are = w.changes; trees = trees }

pub changed_flat : ChangedPathsAreFlat
changed_flat files h s rev revision is text end w = changed_by (rev_bytes s.opened.layout files) rev (tree_of h) revision.changes (shown files h s rev revision is) text end w
