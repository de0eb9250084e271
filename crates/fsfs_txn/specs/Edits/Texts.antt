-- A text put at what was opened: what is left, and when it is refused.
use Rattle.std.specs.Prelude.{◌≡◌, ◌≢◌, ◌≤◌, ℕ, true, false, List, length, Option, Result, Ok, Err, IfSome, Vec}
use Rattle.std.specs.Global.{Global}
use Rattle.md5.specs.Md5.{md5}
use Rattle.fsfs_base.specs.Counts as counts
use Rattle.fsfs_base.specs.Counts.{Rose}
use Rattle.fsfs_base.specs.Paths.{Path}
use Rattle.fsfs_base.specs.declared.kind.Kind.{Kind}
use Rattle.fsfs_base.specs.declared.kind.Kind.TheVariants.{File, Dir}
use Rattle.fsfs_tree.specs.Nodes.{TreeFunction}
use Rattle.fsfs_tree.specs.Histories.{AreRevisions}
use Rattle.fsfs_model.specs.declared.flat.edit.Edit.TheVariants.{PutText}
use Rattle.fsfs_model.specs.declared.flat.mark.Mark.{Mark}
use Rattle.fsfs_base.specs.declared.fields.txn_name.TxnName.{TxnName}
use Rattle.fsfs_base.specs.declared.fields.digest.HexDigest.{HexDigest}
use Rattle.fsfs_revision.specs.Told.{RevisionBytes}
use Rattle.fsfs_txn_files.specs.declared.proto_rev.text_error.TextError.{TextError}
use Rattle.fsfs_txn_files.specs.declared.proto_rev.text_error.TextError.TheVariants as refused
use Rattle.fsfs_txn_files.specs.ProtoRev.Sources.{GivesAll, GivesFront}
use Rattle.fsfs_txn_files.specs.ProtoRev.Texts.{IsRefusedText}
use Rattle.fsfs_draft.specs.Drafts.{Folder, ShowTrees}
use Rattle.fsfs_draft.specs.Walks.{HasKind}
use Rattle.fsfs_txn.specs.Opened.Failing as failing
use Rattle.fsfs_txn.specs.Opened.Growing.{IsLonger}
use Rattle.fsfs_txn.specs.Opened.Knowing.{AreKnown}
use Rattle.fsfs_txn.specs.declared.opened.texts.TextPut.{TextPut}
use Rattle.fsfs_txn.specs.declared.opened.texts.TextPut.TheVariants as puts
use Rattle.fsfs_txn.specs.declared.opening.Opened.{Opened}
use Rattle.fsfs_txn.specs.declared.edits.texts.TextSet.{TextSet}
use Rattle.fsfs_txn.specs.declared.edits.texts.TextSet.TheVariants as texts
use Rattle.fsfs_txn.specs.declared.txn_error.TxnError.{TxnError}
use Rattle.fsfs_txn.specs.declared.txn_error.TxnError.TheVariants as errors
use Rattle.fsfs_txn.specs.Standing.{Stands, IsEdited}

abbrev pub outcome_of : TextPut → TextSet
outcome_of puts.Done = texts.Done
outcome_of puts.NotFile = texts.NotFile
outcome_of puts.SourceFault = texts.SourceFault
outcome_of puts.TooLong = texts.TooLong
outcome_of (puts.Checksum kept found) = texts.Checksum kept found

abbrev pub counted_text : Kind → TextSet
counted_text Dir = texts.NotFile
counted_text File = texts.Mergeinfo

-- the text is all that the source had left, within the limit and with the digest that was given; and where the benches tell their files
-- it is the file's
pub record IsTextPut (Told : Type 0) (look : RevisionBytes) (trees : ℕ → TreeFunction) (top base : ℕ) (txn : TxnName) (tree : TreeFunction) (marks : List Mark) (path : Path) (from to : Option (List ℕ)) (expect : Option (HexDigest 16)) (after : Folder) : Type 0 where
  pub text : List ℕ
  pub given : GivesAll from to text
  pub short : length text ≤ 1073741824
  pub expected : IfSome expect (λ d. d.bytes ≡ md5 text)
  pub edited : Told → (bytes : Vec ℕ Global) → bytes.items ≡ text → IsEdited look trees top base txn tree marks (PutText path bytes) after

-- the prototype file has bytes more at its end, and the transaction stands for what it stood for
pub record IsLeftStanding (look : RevisionBytes) (trees : ℕ → TreeFunction) (top base : ℕ) (txn : TxnName) (tree : TreeFunction) (marks : List Mark) (before after : Folder) : Type 0 where
  pub grown : IsLonger before after
  pub stands : Stands look trees top base txn after tree marks

-- the source had a byte more than 2 ^ 30
abbrev pub IsTooLong : Option (List ℕ) → Option (List ℕ) → Type 0
IsTooLong from to = (text : List ℕ) × GivesFront from to text × (length text ≡ 1073741825)

-- where a text is refused, for this cause
abbrev pub IsRefusedFor : TextError → RevisionBytes → (ℕ → TreeFunction) → ℕ → ℕ → TxnName → TreeFunction → List Mark → Opened → Option (List ℕ) → Option (List ℕ) → Option (HexDigest 16) → Folder → Folder → Type 0
IsRefusedFor e look trees top base txn tree marks o from to expect before after = HasKind (tree o.way.path) File × (o.counted ≡ false) × IsRefusedText from to expect e × IsLeftStanding look trees top base txn tree marks before after

abbrev pub IfLeft : TxnError → Type 0 → Type 0
IfLeft (errors.Spent first) P = ⊥
IfLeft (errors.Fault e) P = failing.IfLeft e P

-- each refusal has its cause, in this order: a move since, what stands at the path, counts of mergeinfo on the way, the source, and the text
abbrev pub IsPuttingText : Type 0 → RevisionBytes → (ℕ → TreeFunction) → ℕ → ℕ → TxnName → TreeFunction → List Mark → ℕ → Opened → Option (List ℕ) → Option (List ℕ) → Option (HexDigest 16) → Folder → Folder → Result TextSet TxnError → Type 0
IsPuttingText Told look trees top base txn tree marks moves o from to expect before after (Ok (texts.Stale opened now)) = (opened ≡ o.moves) × (now ≡ moves) × (opened ≢ now) × (after ≡ before)
IsPuttingText Told look trees top base txn tree marks moves o from to expect before after (Ok texts.Done) = HasKind (tree o.way.path) File × (o.counted ≡ false) × IsTextPut Told look trees top base txn tree marks o.way.path from to expect after
IsPuttingText Told look trees top base txn tree marks moves o from to expect before after (Ok texts.NotFile) = HasKind (tree o.way.path) Dir × (after ≡ before)
IsPuttingText Told look trees top base txn tree marks moves o from to expect before after (Ok texts.Mergeinfo) = HasKind (tree o.way.path) File × (o.counted ≡ true) × (after ≡ before)
IsPuttingText Told look trees top base txn tree marks moves o from to expect before after (Ok texts.SourceFault) = IsRefusedFor refused.SourceFault look trees top base txn tree marks o from to expect before after
IsPuttingText Told look trees top base txn tree marks moves o from to expect before after (Ok texts.TooLong) = HasKind (tree o.way.path) File × (o.counted ≡ false) × IsTooLong from to × IsLeftStanding look trees top base txn tree marks before after
IsPuttingText Told look trees top base txn tree marks moves o from to expect before after (Ok (texts.Checksum kept found)) = IsRefusedFor (refused.Checksum kept found) look trees top base txn tree marks o from to expect before after
IsPuttingText Told look trees top base txn tree marks moves o from to expect before after (Err e) = IfLeft e (IsLeftStanding look trees top base txn tree marks before after)

-- over any history that the bytes show, of which what was read is known, and where the tree has a node of the kind that was opened, it is
-- the flat model's edit, or its refusal
abbrev pub MeetsPuttingText : Type 0 → ℕ → ℕ → TxnName → Folder → Folder → Opened → Option (List ℕ) → Option (List ℕ) → Option (HexDigest 16) → Result TextSet TxnError → Type 0
MeetsPuttingText Told base moves txn before after o from to expect result = (look : RevisionBytes) (trees : ℕ → TreeFunction) (top : ℕ) (tree : TreeFunction) (marks : List Mark) → AreKnown look top o.way.known.items → ShowTrees look top trees → AreRevisions trees top → base ≤ top
    → Stands look trees top base txn before tree marks → HasKind (tree o.way.path) o.kind → IsPuttingText Told look trees top base txn tree marks moves o from to expect before after result

-- where a node was made, copied or taken away since, or the transaction landed, that is told, and both counts
abbrev pub IsStaleText : ℕ → ℕ → Result TextSet TxnError → Type 0
IsStaleText opened now result = opened ≢ now → result ≡ Ok (texts.Stale opened now)

-- ---- counts of faults

abbrev pub IfSource : Result TextSet TxnError → Type 0 → Type 0
IfSource (Ok texts.SourceFault) P = P
IfSource (Ok texts.Done) P = Unit {0}
IfSource (Ok (texts.Stale opened now)) P = Unit {0}
IfSource (Ok texts.NotFile) P = Unit {0}
IfSource (Ok texts.Mergeinfo) P = Unit {0}
IfSource (Ok texts.TooLong) P = Unit {0}
IfSource (Ok (texts.Checksum kept found)) P = Unit {0}
IfSource (Err e) P = Unit {0}

pub record HasSourceRise (before now : ℕ) (result : Result TextSet TxnError) : Type 0 where
  pub later : before ≤ now
  pub failed : IfSource result (Rose before now)

abbrev pub IfBench : TxnError → Type 0 → Type 0
IfBench (errors.Spent first) P = Unit {0}
IfBench (errors.Fault e) P = failing.IfBench e P

abbrev pub HasBenchRise : {T : Type 0} → ℕ → ℕ → Result T TxnError → Type 0
HasBenchRise before now result = counts.HasCause IfBench before now result
