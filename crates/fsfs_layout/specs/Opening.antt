-- What the small files of a repository say, and when they are refused.
-- The files are those of the libsvn_fs_fs structure file; the order of the refusals is this project's profile.
use Rattle.std.specs.Prelude.{◌≡◌, ◌≢◌, ◌≤◌, ◌<◌, ◌+◌, ◌⊎◌, ℕ, List, [], Option, Some, None, unwrap_or, codes}
use Rattle.std.specs.FinMap.{get}
use Rattle.fsfs_base.specs.Files.{Files}
use Rattle.fsfs_base.specs.declared.small_fault.SmallFault.{SmallFault}
use Rattle.fsfs_base.specs.declared.small_fault.SmallFile.TheVariants as file
use Rattle.fsfs_layout.specs.FileNames.{only_name}
use Rattle.fsfs_layout.specs.declared.only_file.OnlyFile.TheVariants as only
use Rattle.fsfs_layout.specs.Formats.{IsFormat, IsOurFormat}
use Rattle.fsfs_layout.specs.Small.{IsUuid, IsRevLine, IsMinUnpackedRev, IsBase36Line, IsFaultOf, IsRefusedFile, IsMinUnpackedFault}
use Rattle.fsfs_layout.specs.Layouts.{Packs}
use Rattle.fsfs_layout.specs.declared.folders.Folders.TheVariants.{OneFolder}
use Rattle.fsfs_layout.specs.declared.small_files.format_file.FormatFile.{FormatFile}
use Rattle.fsfs_layout.specs.declared.small_files.format_file.FormatFile.TheVariants.{Known, Other}
use Rattle.fsfs_layout.specs.declared.layout.Layout.{Layout}
use Rattle.fsfs_layout.specs.declared.opened.Opened.{Opened}

-- the bytes of the small files; an absent file counts as empty, but for `db/format`
pub record SmallTexts : Type 0 where
  pub format : Option (List ℕ)
  pub fs_type : List ℕ
  pub uuid : List ℕ
  pub current : List ℕ
  pub min_unpacked_rev : List ℕ
  pub txn_current : List ℕ

abbrev pub text_at : Files → List ℕ → List ℕ
text_at m name = unwrap_or (get m name) []

-- the small files of a repository
abbrev pub small_texts : Files → SmallTexts
small_texts m = record {
  format = get m (only_name only.Format);
  fs_type = text_at m (only_name only.FsType);
  uuid = text_at m (only_name only.Uuid);
  current = text_at m (only_name only.Current);
  min_unpacked_rev = text_at m (only_name only.MinUnpackedRev);
  txn_current = text_at m (only_name only.TxnCurrent);
}

-- a repository of this type of filesystem, with this text of db/format
pub record IsFsfs (s : SmallTexts) (format : List ℕ) : Type 0 where
  pub there : s.format ≡ Some format
  pub fs_type : s.fs_type ≡ codes "fsfs\n"

-- there is no such repository
abbrev pub IsNone : SmallTexts → Type 0
IsNone s = (s.format ≡ None) ⊎ (s.fs_type ≢ codes "fsfs\n")

-- a repository of this type of filesystem, and this is what its db/format says
abbrev pub SaysFormat : SmallTexts → FormatFile → Type 0
SaysFormat s format = (text : List ℕ) × IsFsfs s text × IsFormat text format

-- what the files behind `db/format` say, in this layout
pub record IsOpenedBehind (s : SmallTexts) (o : Opened) : Type 0 where
  pub uuid : IsUuid s.uuid o.uuid
  pub youngest : IsRevLine s.current o.youngest
  pub min_unpacked_rev : IsMinUnpackedRev o.layout s.min_unpacked_rev o.min_unpacked_rev
  pub within : o.min_unpacked_rev ≤ o.youngest + 1
  pub next_txn : IsBase36Line s.txn_current o.next_txn.number

-- what the small files of a repository say
pub record IsOpened (s : SmallTexts) (o : Opened) : Type 0 where
  pub format : SaysFormat s (Known o.layout)
  -- only repositories whose shards can be packed are opened
  pub packs : Packs o.layout
  pub behind : IsOpenedBehind s o

-- it has this other format
abbrev pub HasFormat : SmallTexts → ℕ → Type 0
HasFormat s number = SaysFormat s (Other number)

-- all revisions are in one folder
abbrev pub IsLinear : SmallTexts → Type 0
IsLinear s = (layout : Layout) × SaysFormat s (Known layout) × (layout.folders ≡ OneFolder)

-- min-unpacked-rev is past the revision that follows the youngest: refused at its beginning
pub record IsPastYoungest (layout : Layout) (s : SmallTexts) (fault : SmallFault) : Type 0 where
  pub youngest : ℕ
  pub min_unpacked_rev : ℕ
  pub current_is : IsRevLine s.current youngest
  pub floor_is : IsMinUnpackedRev layout s.min_unpacked_rev min_unpacked_rev
  pub past : youngest + 1 < min_unpacked_rev
  pub names : fault.file ≡ file.MinUnpackedRev
  pub place : fault.at ≡ 0

-- db/format is in no format, and the fault is at the first byte after which no text of ours goes on
abbrev pub IsRefusedFormat : List ℕ → SmallFault → Type 0
IsRefusedFormat text fault = ((format : FormatFile) → IsFormat text format → ⊥) × IsFaultOf file.Format IsOurFormat text fault

-- the first of the four files behind db/format that is refused, those before it being in their formats
abbrev pub IsRefusedBehind : Layout → SmallTexts → SmallFault → Type 0
IsRefusedBehind layout s fault =
    IsRefusedFile file.Uuid IsUuid s.uuid fault
    ⊎ ((uuid : List ℕ) × IsUuid s.uuid uuid × (IsRefusedFile file.Current IsRevLine s.current fault
    ⊎ ((youngest : ℕ) × IsRevLine s.current youngest × (IsMinUnpackedFault layout s.min_unpacked_rev fault
    ⊎ (IsPastYoungest layout s fault
    ⊎ ((floor : ℕ) × IsMinUnpackedRev layout s.min_unpacked_rev floor × (floor ≤ youngest + 1) × IsRefusedFile file.TxnCurrent IsBase36Line s.txn_current fault))))))

-- a small file is refused: db/format, or the first of the others
abbrev pub IsRefused : SmallTexts → SmallFault → Type 0
IsRefused s fault = (text : List ℕ) × IsFsfs s text
    × (IsRefusedFormat text fault ⊎ ((layout : Layout) × IsFormat text (Known layout) × Packs layout × IsRefusedBehind layout s fault))
