-- The changed paths of a revision, as they are read of its bytes. (The libsvn_fs_fs structure file, "Revision file format", changed-path
-- data.)
use Rattle.std.specs.Prelude.{◌≡◌, ℕ, ◌+◌, List, drop, Option, Some, None, Result, Ok, Err}
use Rattle.fsfs_revision.specs.declared.damage.DamageKind.TheVariants as what
use Rattle.fsfs_revision.specs.declared.wrong.Wrong.{Wrong}
use Rattle.fsfs_revision.specs.Damage.Checks.{Judged}
use Rattle.fsfs_revision.specs.Damage.Damages.{place_of, damaged}
use Rattle.fsfs_revision.specs.Damage.Readings.{AndThen}
use Rattle.fsfs_revision.specs.Told.{RevisionBytes, BytesOf}
use Rattle.fsfs_revision.specs.declared.trailer.Trailer.{Trailer}
use Rattle.fsfs_revision.specs.Trailers.{EndsWith}
use Rattle.fsfs_revision.specs.Damages.{trailer_checks}
use Rattle.fsfs_noderev.specs.Changes.Texts.{HasNewPath, AreRevisionChanges, IsItemFault}
use Rattle.fsfs_noderev.specs.declared.changes.item.ChangeItem.{ChangeItem}

-- the data, and where they begin: from the place that the trailer names up to the trailer
pub record IsData (bytes : List ℕ) (d : ℕ × List ℕ) : Type 0 where
  pub trailer : Trailer
  pub ends : EndsWith 0 bytes trailer
  pub begins : d.0 ≡ trailer.changes
  pub data_is : d.1 ≡ drop trailer.changes ends.front

abbrev pub DataIn : ℕ → List ℕ → Result (ℕ × List ℕ) Wrong → Type 0
DataIn rev bytes = Judged (IsData bytes) (trailer_checks rev bytes)

abbrev pub DataOf : RevisionBytes → ℕ → Result (ℕ × List ℕ) Wrong → Type 0
DataOf look rev = AndThen (BytesOf look rev) (DataIn rev)

-- the first item that is refused is at the place where these end
pub record IsRefusedItem (rev : ℕ) (d : ℕ × List ℕ) (items : List ChangeItem) (w : Wrong) : Type 0 where
  pub at : ℕ
  pub fault : IsItemFault HasNewPath d.1 at
  pub earlier : fault.earlier ≡ items
  pub wrong : w ≡ damaged (place_of rev (d.0 + at)) what.Changes

-- the items, each path once, and what is wrong behind them, where something is
abbrev pub HasItems : ℕ → ℕ × List ℕ → List ChangeItem → Option Wrong → Type 0
HasItems rev d items None = AreRevisionChanges d.1 items
HasItems rev d items (Some w) = IsRefusedItem rev d items w

abbrev pub ItemsIn : ℕ → ℕ × List ℕ → Result (List ChangeItem × Option Wrong) Wrong → Type 0
ItemsIn rev d (Ok read) = HasItems rev d read.0 read.1
ItemsIn rev d (Err w) = ⊥

-- the items of a revision, in the order of its data
abbrev pub ItemsOf : RevisionBytes → ℕ → Result (List ChangeItem × Option Wrong) Wrong → Type 0
ItemsOf look rev = AndThen (DataOf look rev) (ItemsIn rev)
