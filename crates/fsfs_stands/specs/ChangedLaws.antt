-- The laws of the changed paths that are read.
use Rattle.std.specs.Prelude.{◌≡◌, ◌≤◌, ℕ, List, Some, Ok, slice_get}
use Rattle.std.specs.FinMap.{FinMap}
use Rattle.fsfs_base.specs.Files.{Files}
use Rattle.fsfs_base.specs.Paths.{path_cmp}
use Rattle.fsfs_tree.specs.declared.change_map.Change.{Change}
use Rattle.fsfs_tree.specs.Nodes.{TreeFunction}
use Rattle.fsfs_tree.specs.Revisions.{Revision, tree_of}
use Rattle.fsfs_revision.specs.Damage.Readings.{HasOneAnswer}
use Rattle.fsfs_revision.specs.Told.{RevisionBytes}
use Rattle.fsfs_revision.specs.RevBytes.{rev_bytes}
use Rattle.fsfs_revision.specs.Shows.Shown.{Shows}
use Rattle.fsfs_stands.specs.Changes.{AreChangesOf}
use Rattle.fsfs_stands.specs.Files.{StandsFor}
use Rattle.fsfs_stands.specs.Texts.{End}
use Rattle.fsfs_stands.specs.Agreeing.{HasOneText}
use Rattle.fsfs_stands.specs.ByTree.{IsOf}
use Rattle.fsfs_tree.specs.ChangedTexts.{changed_text}
use Rattle.fsfs_stands.specs.Items.{ItemsOf}
use Rattle.fsfs_stands.specs.ChangedTexts.{ChangedText}

-- ---- one text

abbrev pub ItemsAreOne : Type 0
ItemsAreOne = (look : RevisionBytes) (rev : ℕ) → HasOneAnswer (ItemsOf look rev)

abbrev pub ChangedPathsHaveOneText : Type 0
ChangedPathsHaveOneText = (look : RevisionBytes) (rev : ℕ) → HasOneText (ChangedText look rev)

-- ---- by the flat changes and trees

-- the bytes of a revision have these changed paths, and those of the revisions up to it show these trees
pub record ShowChanges (look : RevisionBytes) (rev : ℕ) (tree : ℕ → TreeFunction) (changes : FinMap path_cmp Change) : Type 0 where
  pub bytes : List ℕ
  pub bytes_are : look rev ≡ Ok bytes
  pub changes_are : AreChangesOf look rev bytes changes
  pub trees : (r : ℕ) → r ≤ rev → Shows look r (tree r)

abbrev pub ChangedPathsAreByTheTrees : Type 0
ChangedPathsAreByTheTrees = (look : RevisionBytes) (rev : ℕ) (tree : ℕ → TreeFunction) (changes : FinMap path_cmp Change) → ShowChanges look rev tree changes → (text : List ℕ) (end : End) → ChangedText look rev text end → IsOf (changed_text rev tree changes) text end

-- what files that stand for a history print is the flat text of the revision's changed paths
abbrev pub ChangedPathsAreFlat : Type 0
ChangedPathsAreFlat = (files : Files) (h : List Revision) (s : StandsFor files h) (rev : ℕ) (revision : Revision) → slice_get h rev ≡ Some revision
    → (text : List ℕ) (end : End) → ChangedText (rev_bytes s.opened.layout files) rev text end → IsOf (changed_text rev (tree_of h) revision.changes) text end
