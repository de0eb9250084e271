-- What a reader tells that keeps a floor and a manifest.
use Rattle.std.specs.Prelude.{◌≡◌, ◌<◌, ◌≤◌, ℕ, Bool, true, false, nat_lt, nat_eq, ◌==◌, ◌&&◌, if◌then◌else◌, List, [], length, Option, Some, None, Result, Ok, Err}
use Rattle.std.specs.Cmp.Lexicographic.{pointwise}
use Rattle.fsfs_base.specs.Files.{Files}
use Rattle.fsfs_base.specs.declared.small_fault.SmallFault.{SmallFault}
use Rattle.fsfs_revision.specs.declared.wrong.Refusal.{Refusal}
use Rattle.fsfs_revision.specs.declared.wrong.Refusal.TheVariants.{NoRev}
use Rattle.fsfs_revision.specs.Told.{Telling}
use Rattle.fsfs_layout.specs.declared.layout.Layout.{Layout}
use Rattle.fsfs_layout.specs.Layouts.{shard_of}
use Rattle.fsfs_fetch.specs.declared.manifests.KeptManifest.{KeptManifest}
use Rattle.fsfs_fetch.specs.Views.{View, Reach, Ends, Grows, IsKnown, is_packed}
use Rattle.fsfs_revision.specs.RevBytes.{rev_bytes, rev_file, manifest_in}

abbrev pub are_offsets : List ℕ → Result (List ℕ) SmallFault → Bool
are_offsets offsets (Err fault) = false
are_offsets offsets (Ok found) = pointwise nat_eq offsets found

-- a kept manifest is of another shard than the revision's, or that shard's own
abbrev pub fits : Layout → Files → Option KeptManifest → ℕ → Bool
fits layout files None rev = true
fits layout files (Some kept) rev = if kept.shard == shard_of layout rev then are_offsets kept.offsets.items (manifest_in layout files (shard_of layout rev)) else true

-- a revision's own file has its bytes, where there is one
abbrev pub agrees : Option (List ℕ) → Result (List ℕ) Refusal → Bool
agrees None read = true
agrees (Some file) (Err refusal) = false
agrees (Some file) (Ok bytes) = pointwise nat_eq file bytes

-- A reader that keeps this floor finds the revision's bytes: what is below the kept floor is packed; what isn't may be
-- packed since, and its own file may be there still, with the same bytes.
unfoldable pub is_right : Layout → Files → ℕ → Option KeptManifest → ℕ → Bool
is_right layout files floor kept rev =
    if nat_lt rev floor then is_packed layout files rev && fits layout files kept rev
    else agrees (rev_file layout files rev) (rev_bytes layout files rev)

-- no disk has a file of 2^64 bytes
abbrev pub is_short : Result (List ℕ) Refusal → Bool
is_short (Err refusal) = true
is_short (Ok bytes) = nat_lt (length bytes) 18446744073709551616

abbrev pub if_short : Bool → Result (List ℕ) Refusal → Option (Result (List ℕ) Refusal)
if_short right read = if right && is_short read then Some read else None

abbrev pub revs_in : Layout → ℕ → Option KeptManifest → Option Files → ℕ → Option (Result (List ℕ) Refusal)
revs_in layout floor kept None rev = None
revs_in layout floor kept (Some files) rev = if_short (is_right layout files floor kept rev) (rev_bytes layout files rev)

-- of a revision above the youngest, that there is none
abbrev pub within : Reach → ℕ → Option (Result (List ℕ) Refusal) → Option (Result (List ℕ) Refusal)
within (Ends youngest) rev read = if nat_lt youngest rev then Some (Err (NoRev rev youngest)) else read
within (Grows least) rev read = if nat_lt least rev then None else read

abbrev pub last_of : Reach → Option ℕ
last_of (Ends youngest) = Some youngest
last_of (Grows least) = None

-- what a reader over a store tells, that keeps this floor and this manifest
unfoldable pub telling : {B : Type 0} → View B → ℕ → Option KeptManifest → Telling B
telling view floor kept = record {
  revs = λ rev. within view.reach rev (revs_in view.layout floor kept view.files rev);
  youngest = last_of view.reach;
  below = view.below;
}

-- of each revision that there is, all is told that these files say
pub record TellsFiles {B : Type 0} (view : View B) (files : Files) {Below : Type 0} (told : Telling Below) : Type 0 where
  pub revs : (rev : ℕ) → IsKnown view.reach rev → told.revs rev ≡ Some (rev_bytes view.layout files rev)
  pub youngest : told.youngest ≡ last_of view.reach

-- Of these revisions all is told that these files say: of one at or above this floor whose own file has its bytes, where there is one, and
-- of one below it that is packed.
pub record TellsOwn {B : Type 0} (view : View B) (floor : ℕ) (files : Files) {Below : Type 0} (told : Telling Below) : Type 0 where
  pub revs : (rev : ℕ) → IsKnown view.reach rev → floor ≤ rev → agrees (rev_file view.layout files rev) (rev_bytes view.layout files rev) ≡ true → told.revs rev ≡ Some (rev_bytes view.layout files rev)
  pub packed : (rev : ℕ) → IsKnown view.reach rev → rev < floor → is_packed view.layout files rev ≡ true → told.revs rev ≡ Some (rev_bytes view.layout files rev)

abbrev pub keeps_shard : Option KeptManifest → ℕ → Bool
keeps_shard None shard = false
keeps_shard (Some kept) shard = kept.shard == shard

abbrev pub kept_offsets : Option KeptManifest → List ℕ
kept_offsets None = []
kept_offsets (Some kept) = kept.offsets.items

-- a revision of these files is packed, and the kept manifest serves it
pub record IsPackedAt {B : Type 0} (view : View B) (kept : Option KeptManifest) (rev : ℕ) (m : Files) : Type 0 where
  pub told : view.files ≡ Some m
  pub packed : is_packed view.layout m rev ≡ true
  pub fits : fits view.layout m kept rev ≡ true

-- a manifest that was kept since serves what the one before served
abbrev pub ServesAsWell : {B : Type 0} → View B → Option KeptManifest → Option KeptManifest → Type 0
ServesAsWell view old new = (m : Files) (rev : ℕ) → IsPackedAt view old rev m → fits view.layout m new rev ≡ true

-- a revision that there is is found in these files by what is kept
pub record IsFoundAt {B : Type 0} (view : View B) (floor : ℕ) (kept : Option KeptManifest) (rev : ℕ) (m : Files) : Type 0 where
  pub told : view.files ≡ Some m
  pub known : IsKnown view.reach rev
  pub right : is_right view.layout m floor kept rev ≡ true

-- and all that was found by what was kept is found by what is kept now
abbrev pub FindsAsWell : {B : Type 0} → View B → ℕ → Option KeptManifest → View B → ℕ → Option KeptManifest → Type 0
FindsAsWell view floor kept new_view new_floor new_kept = (m : Files) (rev : ℕ) → IsFoundAt view floor kept rev m → (new : Files) × IsFoundAt new_view new_floor new_kept rev new

-- a revision that there is whose own file is gone
pub record IsGoneAt {B : Type 0} (view : View B) (rev : ℕ) (m : Files) : Type 0 where
  pub told : view.files ≡ Some m
  pub known : IsKnown view.reach rev
  pub gone : rev_file view.layout m rev ≡ None
