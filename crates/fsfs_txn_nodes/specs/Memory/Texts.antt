-- A text put at the end of a transaction's prototype revision file.
use Rattle.std.specs.Prelude.{◌≡◌, ◌≤◌, ◌++◌, Bool, true, List, ℕ, length, Option, Ok, IfSome}
use Rattle.md5.specs.Md5.{md5}
use Rattle.fsfs_base.specs.declared.fields.txn_name.TxnName.{TxnName}
use Rattle.fsfs_base.specs.declared.fields.digest.HexDigest.{HexDigest}
use Rattle.fsfs_base.specs.declared.grammar.base36.B36.{B36}
use Rattle.fsfs_noderev.specs.declared.rep.Rep.{Rep}
use Rattle.fsfs_revision.specs.Rep.Frames.{RepIn}
use Rattle.fsfs_txn_files.specs.declared.proto_rev.text_error.TheConstants.{MAX_TEXT}
use Rattle.fsfs_txn_files.specs.declared.proto_rev.text_error.TextError.{TextError}
use Rattle.fsfs_txn_files.specs.declared.proto_rev.text_error.TextError.TheVariants.{SourceFault, TextTooLong, Checksum, BenchFault}
use Rattle.fsfs_txn_files.specs.ProtoRev.Sources.{GivesAll}
use Rattle.fsfs_txn_files.specs.ProtoRev.Reps.{IsRepOf}
use Rattle.fsfs_draft.specs.Drafts.{Folder}

-- the folder, with bytes more at the end of its prototype file
abbrev pub longer : Folder → List ℕ → Folder
longer f more = record f { proto = f.proto ++ more }

-- the steps and what is settled see the same bytes more
abbrev pub AreLonger : Folder → Folder → Folder → Folder → List ℕ → Type 0
AreLonger folder after settled now more = (after ≡ longer folder more) × (now ≡ longer settled more)

-- a text was put: it is all that the source had left, and where the bench tells its files the representation is that of the text
pub record IsTextPut (told : Bool) (from to : Option (List ℕ)) (expect : Option (HexDigest 16)) (folder after settled now : Folder) (txn : TxnName) (number : B36) (rep : Rep) : Type 0 where
  pub text : List ℕ
  pub given : GivesAll from to text
  pub short : length text ≤ MAX_TEXT
  pub expected : IfSome expect (λ d. d.bytes ≡ md5 text)
  pub rep_is : IsRepOf rep rep.offset text txn number
  pub more : List ℕ
  pub longer_by : AreLonger folder after settled now more
  pub read : told ≡ true → RepIn rep after.proto (Ok text)

-- what a refusal leaves: bytes more; where the bench failed nothing is known
abbrev pub IsTextLeft : Folder → Folder → Folder → Folder → TextError → Type 0
IsTextLeft folder after settled now BenchFault = Unit {0}
IsTextLeft folder after settled now SourceFault = (more : List ℕ) × AreLonger folder after settled now more
IsTextLeft folder after settled now TextTooLong = (more : List ℕ) × AreLonger folder after settled now more
IsTextLeft folder after settled now (Checksum kept found) = (more : List ℕ) × AreLonger folder after settled now more
