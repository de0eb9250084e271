-- The bytes of a revision, packed or not: where they stand in the files of a repository, or why there are none.
use Rattle.std.specs.Prelude.{ℕ, ◌+◌, ◌-◌, min, nat_lt, ◌==◌, if◌then◌else◌, List, [], length, take, drop, slice_index, slice_index_or, Option, Some, None, unwrap_or, Result, Ok, Err, codes}
use Rattle.std.specs.FinMap as map
use Rattle.fsfs_base.specs.Files.{Files}
use Rattle.fsfs_base.specs.declared.small_fault.SmallFile.{SmallFile}
use Rattle.fsfs_base.specs.declared.small_fault.SmallFile.TheVariants.{MinUnpackedRev, Manifest}
use Rattle.fsfs_base.specs.declared.small_fault.SmallFault.{SmallFault}
use Rattle.fsfs_layout.specs.FileNames.{file_name, small_name}
use Rattle.fsfs_layout.specs.declared.format.Format.{Format}
use Rattle.fsfs_layout.specs.declared.format.Format.TheVariants.{Three, Four}
use Rattle.fsfs_layout.specs.declared.layout.Layout.{Layout}
use Rattle.fsfs_layout.specs.declared.repository_file.RepositoryFile.TheVariants as repository
use Rattle.fsfs_layout.specs.Layouts.{shard_size, shard_of, place_in_shard}
use Rattle.fsfs_layout.specs.Names.{in_pack}
use Rattle.fsfs_layout.specs.Opening.{text_at}
use Rattle.fsfs_layout.specs.Reading.{rev_line_at}
use Rattle.fsfs_layout.specs.ManifestReading.{manifest_at}
use Rattle.fsfs_revision.specs.declared.wrong.Refusal.{Refusal}
use Rattle.fsfs_revision.specs.declared.wrong.Refusal.TheVariants.{Missing, Small}
use Rattle.fsfs_revision.specs.declared.section.Section.{Section}

-- the text of a small file; one that isn't there counts as empty
abbrev pub text_in : Files → SmallFile → List ℕ
text_in files file = text_at files (small_name file)

-- what a small file says, or the place of its fault: reading tells how many bytes are left there
abbrev pub placed : {X : Type 0} → SmallFile → List ℕ → Result X ℕ → Result X SmallFault
placed file text (Ok value) = Ok value
placed file text (Err left) = Err (record { file = file; at = length text - left })

-- the first revision of a shard, else the fault is at the beginning
abbrev pub of_whole_shards : Layout → Result ℕ SmallFault → Result ℕ SmallFault
of_whole_shards layout (Err fault) = Err fault
of_whole_shards layout (Ok rev) = if place_in_shard layout rev == 0 then Ok rev else Err (record { file = MinUnpackedRev; at = 0 })

-- format 3 has no file for it, and nothing is packed
abbrev pub floor_where : {E : Type 0} → Format → Result ℕ E → Result ℕ E
floor_where Three read = Ok 0
floor_where Four read = read

-- the floor, the oldest revision that isn't packed; no text that names one is longer than 11 bytes, so the first 64 tell
unfoldable pub floor_of : Layout → List ℕ → Result ℕ SmallFault
floor_of layout text = floor_where layout.format (of_whole_shards layout (placed MinUnpackedRev text (rev_line_at text)))

unfoldable pub floor_in : Layout → Files → Result ℕ SmallFault
floor_in layout files = floor_of layout (take 64 (text_in files MinUnpackedRev))

-- where each revision of a packed shard begins in its pack
unfoldable pub manifest_of : Layout → ℕ → List ℕ → Result (List ℕ) SmallFault
manifest_of layout shard text = placed (Manifest shard) text (manifest_at (shard_size layout) text)

abbrev pub manifest_file : Files → ℕ → Option (List ℕ)
manifest_file files shard = map.get files (small_name (Manifest shard))

abbrev pub manifest_in : Layout → Files → ℕ → Result (List ℕ) SmallFault
manifest_in layout files shard = manifest_of layout shard (text_in files (Manifest shard))

-- a revision's part of a pack of so many bytes: from its offset to the next one's, or to the end, no further than the pack goes
abbrev pub section_at : List ℕ → ℕ → ℕ → Section
section_at offsets i size = let start = slice_index offsets i in record { start = start; length = min (slice_index_or offsets (i + 1) size) size - start }

abbrev pub section_of : ℕ → ℕ → Result (List ℕ) SmallFault → Option (List ℕ) → Result Section Refusal
section_of rev i (Err fault) pack = Err (Small fault)
section_of rev i (Ok offsets) None = Err (Missing rev)
section_of rev i (Ok offsets) (Some pack) = Ok (section_at offsets i (length pack))

abbrev pub pack_in : Files → ℕ → Option (List ℕ)
pack_in files shard = map.get files (in_pack shard (codes "/pack"))

-- where a packed revision stands in its pack
abbrev pub packed_section : Layout → Files → ℕ → Result Section Refusal
packed_section layout files rev = section_of rev (place_in_shard layout rev) (manifest_in layout files (shard_of layout rev)) (pack_in files (shard_of layout rev))

abbrev pub cut : Section → List ℕ → List ℕ
cut section bytes = take section.length (drop section.start bytes)

abbrev pub cut_from : Option (List ℕ) → Result Section Refusal → Result (List ℕ) Refusal
cut_from pack (Err refusal) = Err refusal
cut_from pack (Ok section) = Ok (cut section (unwrap_or pack []))

-- the bytes of a packed revision
unfoldable pub packed_bytes : Layout → Files → ℕ → Result (List ℕ) Refusal
packed_bytes layout files rev = cut_from (pack_in files (shard_of layout rev)) (packed_section layout files rev)

-- a file of the revision alone
abbrev pub or_missing : ℕ → Option (List ℕ) → Result (List ℕ) Refusal
or_missing rev None = Err (Missing rev)
or_missing rev (Some bytes) = Ok bytes

abbrev pub rev_file : Layout → Files → ℕ → Option (List ℕ)
rev_file layout files rev = map.get files (file_name layout (repository.Revision rev))

abbrev pub by_floor : Layout → Files → ℕ → Result ℕ SmallFault → Result (List ℕ) Refusal
by_floor layout files rev (Err fault) = Err (Small fault)
by_floor layout files rev (Ok floor) = if nat_lt rev floor then packed_bytes layout files rev else or_missing rev (rev_file layout files rev)

-- THE BYTES OF A REVISION: below the floor a part of its shard's pack, else its own file
unfoldable pub rev_bytes : Layout → Files → ℕ → Result (List ℕ) Refusal
rev_bytes layout files rev = by_floor layout files rev (floor_in layout files)

-- the file of a revision's properties, which is never packed
abbrev pub props_file : Layout → Files → ℕ → Option (List ℕ)
props_file layout files rev = map.get files (file_name layout (repository.Props rev))

abbrev pub props_bytes : Layout → Files → ℕ → Result (List ℕ) Refusal
props_bytes layout files rev = or_missing rev (props_file layout files rev)
