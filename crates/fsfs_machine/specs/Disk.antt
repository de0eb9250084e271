-- What a disk has at a name, and what a crash may leave of it.
use Rattle.std.specs.Prelude.{◌≡◌, ◌⊎◌, ◌==◌, ◌/◌, ◌%◌, nat_lt, nat_eq, ℕ, List, [], ◌∷◌, drop, slice_get, Bool, true, false, Option, Some, None, if◌then◌else◌}
use Rattle.std.specs.Cmp.Lexicographic.{pointwise}
use Rattle.fsfs_machine.specs.declared.contents.FileName.{FileName}
use Rattle.fsfs_machine.specs.declared.contents.FileName.TheVariants.{Current, CurrentNext, Counter, CounterNext, Floor, FloorNext, Rev, Props, Pack, Manifest}
use Rattle.fsfs_machine.specs.declared.contents.Contents.{Contents}
use Rattle.fsfs_machine.specs.declared.contents.Contents.TheVariants.{RevFile, PackFile, ManifestFile}
use Rattle.fsfs_machine.specs.declared.contents.Part.{Part}
use Rattle.fsfs_machine.specs.declared.contents.NameChange.{NameChange}
use Rattle.fsfs_machine.specs.declared.contents.NameChange.TheVariants.{Put, Rename, Remove, Firm}

abbrev pub same_name : FileName → FileName → Bool
same_name Current Current = true
same_name CurrentNext CurrentNext = true
same_name Counter Counter = true
same_name CounterNext CounterNext = true
same_name Floor Floor = true
same_name FloorNext FloorNext = true
same_name (Rev a) (Rev b) = a == b
same_name (Props a) (Props b) = a == b
same_name (Pack a) (Pack b) = a == b
same_name (Manifest a) (Manifest b) = a == b
same_name a b = false

-- the changes since the beginning, the newest first
abbrev pub Disk : Type 0
Disk = List NameChange

-- the file that has the name
abbrev pub found : Disk → FileName → Option Contents
found [] n = None
found (Put m c ∷ d) n = if same_name m n then Some c else found d n
found (Rename from to c ∷ d) n = if same_name to n then Some c else (if same_name from n then None else found d n)
found (Remove m ∷ d) n = if same_name m n then None else found d n
found (Firm ∷ d) n = found d n

-- the last change of the name took it away
abbrev pub is_gone : Disk → FileName → Bool
is_gone [] n = false
is_gone (Put m c ∷ d) n = if same_name m n then false else is_gone d n
is_gone (Rename from to c ∷ d) n = if same_name to n then false else (if same_name from n then true else is_gone d n)
is_gone (Remove m ∷ d) n = if same_name m n then true else is_gone d n
is_gone (Firm ∷ d) n = is_gone d n

-- a revision in a pack, as a file of its own
abbrev pub as_file : Option Part → Option Contents
as_file None = None
as_file (Some x) = Some (RevFile x.tree x.changes x.bytes)

-- the i-th revision in a pack, where the manifest beside it is the one that the pack is read by
abbrev pub part_in : ℕ → Option Contents → Option Contents → Option Contents
part_in i (Some (PackFile os xs)) (Some (ManifestFile ns)) = if pointwise nat_eq os ns then as_file (slice_get xs i) else None
part_in i pack manifest = None

-- revision r in its shard's pack, shards being of this size
abbrev pub packed : ℕ → Disk → ℕ → Option Contents
packed size d r = part_in (r % size) (found d (Pack (r / size))) (found d (Manifest (r / size)))

-- The file of revision r: its part of its shard's pack below the floor, else its own.
abbrev pub shown : ℕ → ℕ → Disk → ℕ → Option Contents
shown size floor d r = if nat_lt r floor then packed size d r else found d (Rev r)

-- it is a revision file
abbrev pub is_rev_file : Option Contents → Bool
is_rev_file (Some (RevFile tree changes bytes)) = true
is_rev_file c = false

-- what a crash may leave: any subset of the changes since the names were last firm
abbrev pub IsImage : Disk → Disk → Type 0
IsImage [] m = m ≡ []
IsImage (Firm ∷ d) m = m ≡ Firm ∷ d
IsImage (Put n c ∷ d) m = IsImage d m ⊎ ((was : Disk) × IsImage d was × (m ≡ Put n c ∷ was))
IsImage (Remove n ∷ d) m = IsImage d m ⊎ ((was : Disk) × IsImage d was × (m ≡ Remove n ∷ was))
IsImage (Rename from to c ∷ d) m = IsImage d m ⊎ ((was : Disk) × IsImage d was × (m ≡ Rename from to c ∷ was))

abbrev pub is_picked : List Bool → Bool
is_picked [] = false
is_picked (b ∷ picks) = b

abbrev pub kept_where : Bool → NameChange → Disk → Disk
kept_where true change d = change ∷ d
kept_where false change d = d

abbrev pub is_firm_change : NameChange → Bool
is_firm_change Firm = true
is_firm_change change = false

-- what a crash leaves where these changes come through, the newest first
abbrev pub left : List Bool → Disk → Disk
left picks [] = []
left picks (Firm ∷ d) = Firm ∷ d
left picks (Put n c ∷ d) = kept_where (is_picked picks) (Put n c) (left (drop 1 picks) d)
left picks (Remove n ∷ d) = kept_where (is_picked picks) (Remove n) (left (drop 1 picks) d)
left picks (Rename from to c ∷ d) = kept_where (is_picked picks) (Rename from to c) (left (drop 1 picks) d)
