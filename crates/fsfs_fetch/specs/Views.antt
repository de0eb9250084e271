-- What a store that is read tells, and how it may change while others write to it.
use Rattle.std.specs.Prelude.{◌≡◌, ◌⊎◌, ◌≤◌, ℕ, Bool, true, false, nat_lt, List, Option, Some, None, Result, Ok, Err}
use Rattle.fsfs_base.specs.Files.{Files}
use Rattle.fsfs_base.specs.declared.small_fault.SmallFault.{SmallFault}
use Rattle.fsfs_disk.specs.Trace.{Trace}
use Rattle.fsfs_layout.specs.declared.layout.Layout.{Layout}
use Rattle.fsfs_layout.specs.Layouts.{shard_of}
use Rattle.fsfs_revision.specs.RevBytes.{rev_bytes, rev_file, floor_in, manifest_file, pack_in}

-- which revisions there are: those up to the youngest, which stays the youngest, or at least those up to a number
pub data Reach : Type 0 where
  Ends : ℕ → Reach
  Grows : ℕ → Reach

abbrev pub IsKnown : Reach → ℕ → Type 0
IsKnown (Ends youngest) rev = rev ≤ youngest
IsKnown (Grows least) rev = rev ≤ least

abbrev pub IsYoungest : Reach → ℕ → Type 0
IsYoungest (Ends youngest) n = n ≡ youngest
IsYoungest (Grows least) n = least ≤ n

-- later there are as many revisions or more
abbrev pub Extends : Reach → Reach → Type 0
Extends (Ends youngest) new = new ≡ Ends youngest
Extends (Grows least) (Ends youngest) = least ≤ youngest
Extends (Grows least) (Grows n) = least ≤ n

-- the disk below a book, as the disk tells: its trace, the path that it was mounted for, whether it may be changed, and how often
-- benches failed that it took back
pub record DiskState : Type 0 where
  pub trace : Option Trace
  pub mount_path : List ℕ
  pub may_write : Bool
  pub bench_faults : ℕ

-- what a store tells: its layout, its revisions, its files as the last call met them, where it tells these; and what is below it
pub record View (Below : Type 0) : Type 0 where
  pub layout : Layout
  pub reach : Reach
  pub files : Option Files
  pub below : Below

abbrev pub is_below : ℕ → Result ℕ SmallFault → Bool
is_below rev (Err fault) = false
is_below rev (Ok floor) = nat_lt rev floor

-- a revision is packed: it is below the floor
unfoldable pub is_packed : Layout → Files → ℕ → Bool
is_packed layout files rev = is_below rev (floor_in layout files)

-- The files that are met later: revisions keep their bytes, floors don't fall, what is packed stays where it is, and a
-- revision's own file stays or goes. Of property files nothing is said.
pub record Follows (layout : Layout) (reach : Reach) (old new : Files) : Type 0 where
  pub bytes : (rev : ℕ) → IsKnown reach rev → rev_bytes layout new rev ≡ rev_bytes layout old rev
  pub packed : (rev : ℕ) → is_packed layout old rev ≡ true → is_packed layout new rev ≡ true
  pub manifest : (rev : ℕ) → is_packed layout old rev ≡ true → manifest_file new (shard_of layout rev) ≡ manifest_file old (shard_of layout rev)
  pub pack : (rev : ℕ) → is_packed layout old rev ≡ true → pack_in new (shard_of layout rev) ≡ pack_in old (shard_of layout rev)
  pub own : (rev : ℕ) → IsKnown reach rev → (rev_file layout new rev ≡ rev_file layout old rev) ⊎ (rev_file layout new rev ≡ None)

abbrev pub FilesLater : Layout → Reach → Option Files → Option Files → Type 0
FilesLater layout reach None new = Unit {0}
FilesLater layout reach (Some old) None = ⊥
FilesLater layout reach (Some old) (Some new) = Follows layout reach old new

-- what a store may tell later; reading leaves what is below as it is
pub record Later {B : Type 0} (old new : View B) : Type 0 where
  pub layout : new.layout ≡ old.layout
  pub reach : Extends old.reach new.reach
  pub files : FilesLater old.layout old.reach old.files new.files
  pub below : new.below ≡ old.below
