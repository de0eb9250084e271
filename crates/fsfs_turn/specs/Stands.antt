-- What the images of a store stand for, in the words of files.
use Rattle.std.specs.Prelude.{◌≡◌, ◌≤◌, ℕ, List, length, Bool, true, false, not, Option, Some, IfSome}
use Rattle.std.specs.FinMap.{get}
use Rattle.fsfs_base.specs.Files.{Files}
use Rattle.fsfs_layout.specs.FileNames.{only_name}
use Rattle.fsfs_layout.specs.Opening.{small_texts, SaysFormat, text_at}
use Rattle.fsfs_layout.specs.Small.{IsUuid}
use Rattle.fsfs_layout.specs.declared.layout.Layout.{Layout}
use Rattle.fsfs_layout.specs.declared.small_files.format_file.FormatFile.TheVariants.{Known}
use Rattle.fsfs_layout.specs.declared.only_file.OnlyFile.{OnlyFile}
use Rattle.fsfs_layout.specs.declared.only_file.OnlyFile.TheVariants as only
use Rattle.fsfs_disk.specs.Trace.{Trace, files_now, IsImage, ImageSince}
use Rattle.fsfs_base.specs.declared.places.place.DiskPlace.{DiskPlace}
use Rattle.fsfs_stands.specs.Files.{StandsFor}
use Rattle.fsfs_machine.specs.declared.machine.Recorded.{Recorded}
use Rattle.fsfs_machine.specs.declared.machine.Coming.{Coming}
use Rattle.fsfs_machine.specs.Machine.{revisions}
use Rattle.fsfs_machine.specs.Kept.{Follows}
use Rattle.fsfs_turn.specs.declared.since.Since.{Since}
use Rattle.fsfs_turn.specs.Past.{IsPart}
use Rattle.fsfs_turn.specs.Views.{View, Begins}
use Rattle.fsfs_turn.specs.Standing.{Knows}

-- the files that say what a repository is are in their formats
pub record HasOwnFiles (files : Files) (layout : Layout) : Type 0 where
  pub format : SaysFormat (small_texts files) (Known layout)
  pub uuid : (uuid : List ℕ) × IsUuid (text_at files (only_name only.Uuid)) uuid

-- The files that no turn changes: the formats, the kind of store, the identifier; and the oldest revision that isn't packed, where no pass
-- may pack.
abbrev pub is_lasting : Bool → OnlyFile → Bool
is_lasting packs only.RepositoryFormat = true
is_lasting packs only.Format = true
is_lasting packs only.FsType = true
is_lasting packs only.Uuid = true
is_lasting packs only.MinUnpackedRev = not packs
is_lasting packs f = false

-- they have the bytes that they had then
abbrev pub AreLasting : Since → Files → Type 0
AreLasting since files = (f : OnlyFile) → is_lasting since.packs f ≡ true → get files (only_name f) ≡ get since.files (only_name f)

-- they are in their formats, and have the bytes that they had then
abbrev pub KeepsOwnFiles : Layout → Since → Files → Type 0
KeepsOwnFiles layout since files = HasOwnFiles files layout × AreLasting since files

-- where the disk tells its files, so it is in each image of each moment since then, in the middle of a call too
abbrev pub OwnFilesLast : Layout → Since → Option Trace → Type 0
OwnFilesLast layout since told = IfSome told (λ t. (m : Files) → ImageSince since.operations t.first t.operations m → KeepsOwnFiles layout since m)

-- Each image now stands for a first part of the history (which begins with what the pass has seen) that has at least all that the pass
-- has seen, or for the history with the revision in doubt, which follows it by the landing of an entry.
abbrev pub ImagesStand : Type 0
ImagesStand = (layout : Layout) (low young : ℕ) (stuck : Option DiskPlace) (t : Trace) (v : View) → Knows layout low young stuck (Some t) v → HasOwnFiles (files_now t) layout
    → (m : Files) → IsImage t.first t.operations m
    → (h : List Recorded) × (d : Option Coming) × (g : List Recorded) × Begins h v.seen × IsPart h d g × (length v.seen ≤ length g) × StandsFor m (revisions g) × IfSome d (Follows h)
