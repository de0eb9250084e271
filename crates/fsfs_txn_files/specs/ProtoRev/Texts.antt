-- What putting a text does to the file, and what it says of the source.
use Rattle.std.specs.Prelude.{◌≡◌, ◌≢◌, ◌+◌, ◌≤◌, ℕ, List, ◌++◌, length, Option, Some, None, Result, Ok, Err, option_map, IfSome, codes}
use Rattle.md5.specs.Md5.{md5}
use Rattle.fsfs_base.specs.Files.{Files}
use Rattle.fsfs_base.specs.declared.fields.txn_name.TxnName.{TxnName}
use Rattle.fsfs_base.specs.declared.fields.digest.HexDigest.{HexDigest}
use Rattle.fsfs_base.specs.declared.grammar.base36.B36.{B36}
use Rattle.fsfs_noderev.specs.declared.rep.Rep.{Rep}
use Rattle.fsfs_revision.specs.Rep.Frames.{RepIn, framed_text}
use Rattle.fsfs_disk.specs.Benches.{appended, bytes_in, Spoils}
use Rattle.fsfs_txn_files.specs.declared.proto_rev.text_error.TheConstants.{MAX_TEXT}
use Rattle.fsfs_txn_files.specs.declared.proto_rev.text_error.TextError.{TextError}
use Rattle.fsfs_txn_files.specs.declared.proto_rev.text_error.TextError.TheVariants.{SourceFault, TextTooLong, Checksum, BenchFault}
use Rattle.fsfs_txn_files.specs.declared.proto_rev.taken.Taken.{Taken}
use Rattle.fsfs_txn_files.specs.ProtoRev.Sources.{GivesFront, GivesAll}
use Rattle.fsfs_txn_files.specs.ProtoRev.Reps.{IsRepOf}
use Rattle.fsfs_txn_files.specs.ProtoRev.Views.{HasTaken}

-- a text was put: it is all that the source had left, it was added at the end of the file, and the representation tells it there
pub record IsPut (old new : Option Files) (from to : Option (List ℕ)) (name : List ℕ) (expect : Option (HexDigest 16)) (txn : TxnName) (number : B36) (rep : Rep) : Type 0 where
  pub text : List ℕ
  pub given : GivesAll from to text
  pub short : length text ≤ MAX_TEXT
  pub expected : IfSome expect (λ d. d.bytes ≡ md5 text)
  pub files : new ≡ option_map (appended name (framed_text text)) old
  pub rep_is : IsRepOf rep rep.offset text txn number
  pub offset : IfSome old (λ m. rep.offset ≡ length (bytes_in m name))

-- the representation is that of a text in the file, which is all that the source had left
abbrev pub IsReadBack : Option Files → Option (List ℕ) → Option (List ℕ) → List ℕ → Rep → Type 0
IsReadBack None from to name rep = Unit {0}
IsReadBack (Some m) from to name rep = (text : List ℕ) × GivesAll from to text × RepIn rep (bytes_in m name) (Ok text)

-- all bytes that the source had left were taken and added behind a header
pub record IsTakenText (old new : Option Files) (from to : Option (List ℕ)) (name : List ℕ) (taken : Taken) : Type 0 where
  pub text : List ℕ
  pub has : HasTaken taken text
  pub given : GivesAll from to text
  pub short : length text ≤ MAX_TEXT
  pub files : new ≡ option_map (appended name (codes "PLAIN\n" ++ text)) old

-- the text that was given has another digest than the one that is known
pub record HasOtherDigest (from to : Option (List ℕ)) (expect : Option (HexDigest 16)) (kept found : HexDigest 16) : Type 0 where
  pub text : List ℕ
  pub given : GivesAll from to text
  pub short : length text ≤ MAX_TEXT
  pub expected : expect ≡ Some kept
  pub found_is : found.bytes ≡ md5 text
  pub other : kept.bytes ≢ found.bytes

-- what the source had given where a text is refused: as far as it came where it or the bench failed, one byte more than a text may
-- have, or all of a text that has another digest
abbrev pub IsRefusedText : Option (List ℕ) → Option (List ℕ) → Option (HexDigest 16) → TextError → Type 0
IsRefusedText from to expect SourceFault = (text : List ℕ) × GivesFront from to text × (length text ≤ MAX_TEXT)
IsRefusedText from to expect TextTooLong = (text : List ℕ) × GivesFront from to text × (length text ≡ MAX_TEXT + 1)
IsRefusedText from to expect (Checksum kept found) = HasOtherDigest from to expect kept found
IsRefusedText from to expect BenchFault = (text : List ℕ) × GivesFront from to text × (length text ≤ MAX_TEXT)

-- what stands in the files after a refusal: bytes more at the end of this one; where the bench failed any bytes in it, or none
abbrev pub IsLeft : Option Files → Option Files → List ℕ → TextError → Type 0
IsLeft old new name BenchFault = Spoils name old new
IsLeft old new name SourceFault = (more : List ℕ) × (new ≡ option_map (appended name more) old)
IsLeft old new name TextTooLong = (more : List ℕ) × (new ≡ option_map (appended name more) old)
IsLeft old new name (Checksum kept found) = (more : List ℕ) × (new ≡ option_map (appended name more) old)

-- a digest is the one that was given, or both are told
abbrev pub IsChecked : Option (HexDigest 16) → HexDigest 16 → Result (Unit {0}) TextError → Type 0
IsChecked expect found (Ok done) = IfSome expect (λ kept. kept.bytes ≡ found.bytes)
IsChecked expect found (Err SourceFault) = ⊥
IsChecked expect found (Err TextTooLong) = ⊥
IsChecked expect found (Err BenchFault) = ⊥
IsChecked expect found (Err (Checksum kept other)) = (expect ≡ Some kept) × (other ≡ found) × (kept.bytes ≢ found.bytes)
