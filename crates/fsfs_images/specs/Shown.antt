-- A real disk, by its trace, and the machine's disk that it is read as.
--
-- A file is a thing of the machine where its bytes are in the grammar of its name. A revision file carries its bytes: that these show
-- its tree is said elsewhere, of the bytes alone. Any bytes may be junk, and of junk nothing is claimed.
use Rattle.std.specs.Prelude.{◌≡◌, ◌<◌, ◌^◌, ◌==◌, ℕ, List, [], ◌∷◌, length, slice_get, Bool, true, false, Option, Some, None}
use Rattle.std.specs.FinMap as map
use Rattle.fsfs_base.specs.Files.{Files}
use Rattle.fsfs_layout.specs.Layouts.{shard_size}
use Rattle.fsfs_layout.specs.Manifest.{IsManifest}
use Rattle.fsfs_layout.specs.Small.{IsRevLine, IsBase36Line}
use Rattle.fsfs_layout.specs.declared.layout.Layout.{Layout}
use Rattle.fsfs_revision.specs.RevBytes.{section_at, cut}
use Rattle.fsfs_layout.specs.Hash.Dump.{IsDump}
use Rattle.fsfs_disk.specs.Labels.{Label, same_label}
use Rattle.fsfs_disk.specs.Labels as held
use Rattle.fsfs_disk.specs.Trace.{Operation, Done, Attempted, files_after, TornBy}
use Rattle.fsfs_disk.specs.Trace as real
use Rattle.fsfs_machine.specs.declared.contents.FileName.{FileName}
use Rattle.fsfs_machine.specs.declared.contents.FileName.TheVariants.{Current, CurrentNext, Counter, CounterNext, Floor, FloorNext, Rev, Props, Pack, Manifest}
use Rattle.fsfs_machine.specs.declared.contents.Contents.{Contents}
use Rattle.fsfs_machine.specs.declared.contents.Contents.TheVariants.{RevFile, PropsFile, Number, PackFile, ManifestFile, Junk}
use Rattle.fsfs_machine.specs.declared.contents.Part.{Part}
use Rattle.fsfs_machine.specs.declared.contents.NameChange.TheVariants.{Put, Rename, Remove, Firm}
use Rattle.fsfs_machine.specs.Machine.{has_label, without, labels_left}
use Rattle.fsfs_machine.specs.Disk.{Disk, found, is_gone, IsImage}
use Rattle.fsfs_images.specs.RealNames.{machine_name}

-- a revision or a shard of 32 bits
abbrev pub Fits : FileName → Type 0
Fits (Rev r) = r < 2 ^ 32
Fits (Props r) = r < 2 ^ 32
Fits (Pack k) = k < 2 ^ 32
Fits (Manifest k) = k < 2 ^ 32
Fits n = Unit {0}

-- cut by these offsets, the bytes of a pack are those of the revisions
pub record IsCut (offsets bytes : List ℕ) (parts : List Part) : Type 0 where
  pub many : length parts ≡ length offsets
  pub each : (i : ℕ) (x : Part) → slice_get parts i ≡ Some x → cut (section_at offsets i (length bytes)) bytes ≡ x.bytes

-- the bytes of a file of this name are read so
abbrev pub Reads : Layout → FileName → List ℕ → Contents → Type 0
Reads layout n bytes Junk = Unit {0}
Reads layout Current bytes (Number k) = IsRevLine bytes k
Reads layout CurrentNext bytes (Number k) = IsRevLine bytes k
Reads layout Counter bytes (Number k) = IsBase36Line bytes k
Reads layout CounterNext bytes (Number k) = IsBase36Line bytes k
Reads layout Floor bytes (Number k) = IsRevLine bytes k
Reads layout FloorNext bytes (Number k) = IsRevLine bytes k
Reads layout (Rev r) bytes (RevFile tree changes kept) = bytes ≡ kept
Reads layout (Props r) bytes (PropsFile properties) = IsDump bytes properties
Reads layout (Pack k) bytes (PackFile offsets parts) = IsCut offsets bytes parts
Reads layout (Manifest k) bytes (ManifestFile offsets) = IsManifest (shard_size layout) bytes offsets
Reads layout n bytes c = ⊥

-- What stands at a name is read so. Where the machine has no file nothing is claimed: another file may stand there.
abbrev pub AtName : Layout → FileName → Option (List ℕ) → Option Contents → Type 0
AtName layout n (Some bytes) (Some c) = Reads layout n bytes c
AtName layout n None (Some c) = ⊥
AtName layout n file None = Unit {0}

-- Each file that the machine speaks of is read as its contents. What the machine took away is not there: a reader that finds no file is
-- right, as one is that finds a file.
pub record AreRead (layout : Layout) (m : Files) (d : Disk) : Type 0 where
  pub read : (n : FileName) → Fits n → AtName layout n (map.get m (machine_name layout n)) (found d n)
  pub gone : (n : FileName) → Fits n → is_gone d n ≡ true → map.get m (machine_name layout n) ≡ None

-- none of the machine's files has this name
abbrev pub IsBeside : Layout → List ℕ → Type 0
IsBeside layout name = (n : FileName) → Fits n → machine_name layout n ≡ name → ⊥

-- The operations of a disk are read as the changes of the machine's. Beside the machine's files those may be changed that `others` names.
pub data IsTraceOf (layout : Layout) (others : List ℕ → Bool) (first : Files) : List Operation → Disk → Type 0 where
  Start : (d : Disk) → AreRead layout first d → IsTraceOf layout others first [] (Firm ∷ d)
  -- an opening makes the names firm: whatever was done before, the reading may begin there
  Opening : (t : List Operation) (d : Disk) → AreRead layout (files_after first t) d → IsTraceOf layout others first (Done real.FirmNames ∷ t) (Firm ∷ d)
  Putting : (t : List Operation) (d : Disk) (n : FileName) (bytes : List ℕ) (c : Contents) → IsTraceOf layout others first t d → Fits n → Reads layout n bytes c
      → IsTraceOf layout others first (Done (real.Put (machine_name layout n) bytes) ∷ t) (Put n c ∷ d)
  Adopting : (t : List Operation) (d : Disk) (n : FileName) (bytes : List ℕ) (c : Contents) → IsTraceOf layout others first t d → Fits n → Reads layout n bytes c
      → IsTraceOf layout others first (Done (real.Adopt (machine_name layout n) bytes) ∷ t) (Put n c ∷ d)
  Renaming : (t : List Operation) (d : Disk) (from to : FileName) (bytes : List ℕ) (c : Contents) → IsTraceOf layout others first t d → Fits from → Fits to
      → map.get (files_after first t) (machine_name layout from) ≡ Some bytes → Reads layout to bytes c
      → IsTraceOf layout others first (Done (real.Rename (machine_name layout from) (machine_name layout to)) ∷ t) (Rename from to c ∷ d)
  Removing : (t : List Operation) (d : Disk) (n : FileName) → IsTraceOf layout others first t d → Fits n
      → IsTraceOf layout others first (Done (real.Remove (machine_name layout n)) ∷ t) (Remove n ∷ d)
  Firming : (t : List Operation) (d : Disk) → IsTraceOf layout others first t d → IsTraceOf layout others first (Done real.FirmNames ∷ t) (Firm ∷ d)
  Attempting : (t : List Operation) (d : Disk) (c : real.NameChange) → IsTraceOf layout others first t d → IsTraceOf layout others first (Attempted c ∷ t) d
  PuttingBeside : (t : List Operation) (d : Disk) (name bytes : List ℕ) → others name ≡ true → IsBeside layout name → IsTraceOf layout others first t d
      → IsTraceOf layout others first (Done (real.Put name bytes) ∷ t) d
  AdoptingBeside : (t : List Operation) (d : Disk) (name bytes : List ℕ) → others name ≡ true → IsBeside layout name → IsTraceOf layout others first t d
      → IsTraceOf layout others first (Done (real.Adopt name bytes) ∷ t) d
  RemovingBeside : (t : List Operation) (d : Disk) (name : List ℕ) → others name ≡ true → IsBeside layout name → IsTraceOf layout others first t d
      → IsTraceOf layout others first (Done (real.Remove name) ∷ t) d
  KeepingLabel : (t : List Operation) (d : Disk) (l : Label) → IsTraceOf layout others first t d → IsTraceOf layout others first (Done (real.KeepLabel l) ∷ t) d
  DroppingLabel : (t : List Operation) (d : Disk) (l : Label) → IsTraceOf layout others first t d → IsTraceOf layout others first (Done (real.DropLabel l) ∷ t) d

-- each image of the disk is read as an image of the machine's, and a put that was torn as one of junk
pub record ImagesAreShown (layout : Layout) (others : List ℕ → Bool) : Type 0 where
  pub now : (first : Files) (t : List Operation) (d : Disk) → IsTraceOf layout others first t d → AreRead layout (files_after first t) d
  pub images : (first : Files) (t : List Operation) (d : Disk) → IsTraceOf layout others first t d
      → (m : Files) → real.IsImage first t m → (e : Disk) × IsImage d e × AreRead layout m e
  pub torn : (first : Files) (t : List Operation) (d : Disk) → IsTraceOf layout others first t d → (n : FileName) (bytes : List ℕ) → Fits n
      → (m : Files) → TornBy (real.Put (machine_name layout n) bytes) (real.IsImage first t) m → (e : Disk) × IsImage (Put n Junk ∷ d) e × AreRead layout m e
  -- a file that is neither the machine's nor one of those beside is the same in each image
  pub kept : (name : List ℕ) → others name ≡ false → IsBeside layout name → (first : Files) (t : List Operation) (d : Disk) → IsTraceOf layout others first t d
      → (m : Files) → real.IsImage first t m → map.get m name ≡ map.get (files_after first t) name

-- the labels of transactions are told apart as the machine's
abbrev pub AreLabelNames : (ℕ → Label) → Type 0
AreLabelNames names = (a b : ℕ) → same_label (names a) (names b) ≡ (a == b)

-- the labels of transactions that the disk keeps are the machine's
abbrev pub ShowsLabels : (ℕ → Label) → List Label → List ℕ → Type 0
ShowsLabels names kept labels = (k : ℕ) → held.has_label (names k) kept ≡ has_label k labels

-- what a call on a label leaves is shown by what it leaves of the machine's, and what a crash leaves by what one leaves there
pub record LabelsAreShown (names : ℕ → Label) : Type 0 where
  pub kept : (ls : List Label) (labels : List ℕ) (k : ℕ) → ShowsLabels names ls labels → ShowsLabels names (held.with_label (names k) ls) (k ∷ labels)
  pub dropped : (ls : List Label) (labels : List ℕ) (k : ℕ) → ShowsLabels names ls labels → ShowsLabels names (held.without_label (names k) ls) (without k labels)
  pub other_kept : (ls : List Label) (labels : List ℕ) (l : Label) → ((k : ℕ) → same_label l (names k) ≡ false) → ShowsLabels names ls labels → ShowsLabels names (held.with_label l ls) labels
  pub other_dropped : (ls : List Label) (labels : List ℕ) (l : Label) → ((k : ℕ) → same_label l (names k) ≡ false) → ShowsLabels names ls labels → ShowsLabels names (held.without_label l ls) labels
  pub left : (ls left : List Label) (labels : List ℕ) → held.AreLeft ls left → ShowsLabels names ls labels → (picks : List Bool) × ShowsLabels names left (labels_left picks labels)
