-- The end of a new revision: its changed paths, and the trailer.
use Rattle.std.specs.Prelude.{◌≡◌, ◌+◌, ◌<◌, ℕ, List, ◌++◌, length}
use Rattle.fsfs_noderev.specs.Changes.Texts.{AreRevisionChanges}
use Rattle.fsfs_noderev.specs.declared.changes.item.ChangeItem.{ChangeItem}
use Rattle.fsfs_revision.specs.Trailers.{IsTrailer}
use Rattle.fsfs_stands.specs.Changes.{HasItems}

-- they were put behind `old`, which begins at the offset `start` of the revision
pub record IsEndPut (start : ℕ) (old new : List ℕ) (root : ℕ) (items : List ChangeItem) : Type 0 where
  pub text : List ℕ
  pub line : List ℕ
  pub items_are : AreRevisionChanges text items
  pub trailer_is : IsTrailer line (root, start + length old)
  pub added : new ≡ old ++ (text ++ line)

-- the bytes have these changed paths, and the trailer names this root
pub record IsEnded (bytes : List ℕ) (root : ℕ) (items : List ChangeItem) : Type 0 where
  pub has : HasItems bytes items
  pub root_is : has.trailer.root ≡ root

abbrev pub PutEndsAreRead : Type 0
PutEndsAreRead = (start root : ℕ) (proto old new : List ℕ) (items : List ChangeItem) → IsEndPut start old new root items → length proto ≡ start → root < start + length old
    → IsEnded (proto ++ new) root items
