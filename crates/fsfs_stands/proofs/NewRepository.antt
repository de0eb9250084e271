-- The files of a new repository stand for the first history.
use Rattle.std.proofs.Common.{◌≡◌, ◌≤◌, ℕ, List, [], ◌∷◌, ◌++◌, refl, sym, ap, subst, ◌∙◌, arith}
use Rattle.std.specs.Prelude.{Option, Some, Ok, unwrap_or, codes, decimal}
use Rattle.std.specs.FinMap.{get}
use Rattle.std.proofs.Math.Nat.{zero-mod, zero-div}
use Rattle.fsfs_base.specs.Grammar.Numeral.{IsNumber, IsNumeral, value_after}
use Rattle.fsfs_base.proofs.Unique.{numeral_decimal}
use Rattle.fsfs_base.specs.Files.{Files}
use Rattle.fsfs_layout.specs.Folders.{AreShards, size_of, shard_folder}
use Rattle.fsfs_layout.specs.Formats.{IsFormat, format_line, folders_line, written_format}
use Rattle.fsfs_layout.specs.Layouts.{IsSharded, Packs, shard_size}
use Rattle.fsfs_layout.specs.Opening.{text_at}
use Rattle.fsfs_layout.specs.Small.{IsUuid, IsRevLine, IsMinUnpackedRevIn, IsMinUnpackedRev, IsBase36Line}
use Rattle.fsfs_layout.specs.Names.{in_folder}
use Rattle.fsfs_layout.specs.declared.layout.Layout.{Layout}
use Rattle.fsfs_layout.specs.declared.folders.Folders.{Folders}
use Rattle.fsfs_layout.specs.declared.folders.Folders.TheVariants.{Shards, OneFolder}
use Rattle.fsfs_layout.specs.declared.format.Format.{Format}
use Rattle.fsfs_layout.specs.declared.format.Format.TheVariants.{Three, Four}
use Rattle.fsfs_layout.specs.declared.small_files.format_file.FormatFile.TheVariants.{Known}
use Rattle.fsfs_layout.proofs.Writing.{written_is, uuid_line}
use Rattle.fsfs_revision.specs.RevBytes.{floor_in, or_missing, by_floor, rev_bytes, props_bytes}
use Rattle.fsfs_revision.proofs.FloorLemmas.{floor_is}
use Rattle.fsfs_layout.specs.CreatedFiles.{format_text, date_properties}
use Rattle.fsfs_base.specs.FirstRevision.{first_bytes}
use Rattle.fsfs_revision.proofs.FirstRevision.{zero_digit}
use Rattle.fsfs_stands.specs.NewRepository.{NewRepositoriesStand}
use Rattle.fsfs_stands.proofs.FirstHistory.{first_history}

-- ---- the small files

zero_digit36 : IsNumeral 36 (codes "0") 0
unfolding value_after
zero_digit36 = ((omega arith, tt), (λ e. refl), refl)

pub zero_line : IsNumber 10 2147483647 10 (codes "0\n") 0
zero_line = record { digits = codes "0"; numeral = zero_digit; fits = omega arith; parts = refl }

pub zero_line36 : IsNumber 36 170581728179578208255 10 (codes "0\n") 0
zero_line36 = record { digits = codes "0"; numeral = zero_digit36; fits = omega arith; parts = refl }

-- a layout of shards in format 4, as it is written
pub format_is : (layout : Layout) → Packs layout → written_format layout ≡ format_text (shard_size layout)
format_is layout packs = ap (λ (k : Format). format_line k ++ folders_line layout.folders) packs.format ∙ by_folders layout.folders packs.sharded
  where
    by_folders : (k : Folders) → AreShards k → format_line Four ++ folders_line k ≡ format_text (size_of k)
    by_folders (Shards n) shards = refl
    by_folders OneFolder shards = absurd shards

pub new_format : (layout : Layout) → Packs layout → IsFormat (format_text (shard_size layout)) (Known layout)
new_format layout packs = subst (λ (t : List ℕ). IsFormat t (Known layout)) (format_is layout packs) (written_is layout packs.format)

-- nothing is packed
pub zero_floor : (layout : Layout) → IsMinUnpackedRev layout (codes "0\n") 0
zero_floor layout = by_format layout.format
  where
    by_format : (k : Format) → IsMinUnpackedRevIn k layout (codes "0\n") 0
    by_format Three = refl
    by_format Four = (zero_line, zero-mod (shard_size layout))

-- a file that is there has its text
says : {X : Type 0} (files : Files) (name text : List ℕ) (G : List ℕ → X → Type 0) (x : X) → get files name ≡ Some text → G text x → G (text_at files name) x
says files name text G x there is = subst (λ (t : List ℕ). G t x) (sym (ap (λ (o : Option (List ℕ)). unwrap_or o []) there)) is

-- ---- the bytes of revision 0

zero_text : decimal 0 ≡ codes "0"
zero_text = sym (numeral_decimal (codes "0") 0 (omega arith) zero_digit)

abbrev pub first_of : List ℕ → List ℕ
first_of folder = folder ++ 47 ∷ codes "0" ++ 47 ∷ codes "0"

-- of whatever size the shards are, revision 0 is in shard 0
pub first_name : (folder : List ℕ) (n : Layout) → IsSharded n → in_folder folder n 0 ≡ first_of folder
first_name folder n sharded = by_folders n.folders sharded
  where
    by_folders : (k : Folders) → AreShards k → folder ++ shard_folder k 0 ++ 47 ∷ decimal 0 ≡ first_of folder
    by_folders (Shards size) shards =
        ap (λ (k : ℕ). folder ++ 47 ∷ decimal k ++ 47 ∷ decimal 0) (zero-div size)
        ∙ ap (λ (t : List ℕ). folder ++ 47 ∷ t ++ 47 ∷ t) zero_text
    by_folders OneFolder shards = absurd shards

file_is : (files : Files) (folder bytes : List ℕ) (n : Layout) → IsSharded n → get files (first_of folder) ≡ Some bytes → or_missing 0 (get files (in_folder folder n 0)) ≡ Ok bytes
file_is files folder bytes n sharded there = ap (or_missing 0) (ap (get files) (first_name folder n sharded) ∙ there)

rev_is : (n : Layout) (files : Files) (bytes : List ℕ) → IsSharded n → floor_in n files ≡ Ok 0 → get files (codes "db/revs/0/0") ≡ Some bytes → rev_bytes n files 0 ≡ Ok bytes
unfolding rev_bytes
rev_is n files bytes sharded floor there = ap (by_floor n files 0) floor ∙ file_is files (codes "db/revs") bytes n sharded there

-- ---- the history

pub new_repositories_stand : NewRepositoriesStand
new_repositories_stand files date w =
    let h = w.new in
    let n = w.layout in
    let uuid_text = w.identifier ++ codes "\n" in
    let floor : IsMinUnpackedRev n (text_at files (codes "db/min-unpacked-rev")) 0 = says files (codes "db/min-unpacked-rev") (codes "0\n") (IsMinUnpackedRev n) 0 h.1.1.1.1.1.0 (zero_floor n) in
    let bytes : rev_bytes n files 0 ≡ Ok first_bytes = rev_is n files first_bytes w.packs.sharded (floor_is n 0 files floor) h.1.1.1.1.1.1.1.1.0 in
    let properties : props_bytes n files 0 ≡ Ok (date_properties date) = file_is files (codes "db/revprops") (date_properties date) n w.packs.sharded h.1.1.1.1.1.1.1.1.1.0 in
    record {
      opened = record { uuid = w.identifier; layout = n; youngest = 0; min_unpacked_rev = 0; next_txn = record { number = 0; small = omega arith } };
      small = record {
        format = (format_text (shard_size n), record { there = h.1.1.1.1.1.1.1.1.1.1.0; fs_type = ap (λ (o : Option (List ℕ)). unwrap_or o []) h.1.0 }, new_format n w.packs);
        packs = w.packs;
        behind = record {
          uuid = says files (codes "db/uuid") uuid_text IsUuid w.identifier h.1.1.0 (uuid_line w.identifier uuid_text w.characters w.one_line refl);
          youngest = says files (codes "db/current") (codes "0\n") IsRevLine 0 h.1.1.1.0 zero_line;
          min_unpacked_rev = floor;
          within = omega arith;
          next_txn = says files (codes "db/txn-current") (codes "0\n") IsBase36Line 0 h.1.1.1.1.0 zero_line36;
        };
      };
      count = refl;
      history = first_history (rev_bytes n files) (props_bytes n files) date w.moment w.dated bytes properties;
    }
