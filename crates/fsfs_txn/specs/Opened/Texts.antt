-- A text put at what was opened: what is left, and when it is refused.
use Rattle.std.specs.Prelude.{◌≡◌, ◌≤◌, ℕ, true, false, List, length, Option, Result, Ok, Err, IfSome, Vec}
use Rattle.std.specs.Global.{Global}
use Rattle.md5.specs.Md5.{md5}
use Rattle.fsfs_base.specs.Paths.{Path}
use Rattle.fsfs_base.specs.declared.kind.Kind.TheVariants.{File, Dir}
use Rattle.fsfs_tree.specs.Nodes.{TreeFunction}
use Rattle.fsfs_tree.specs.Trees.{IsTree}
use Rattle.fsfs_model.specs.declared.flat.edit.Edit.TheVariants.{PutText}
use Rattle.fsfs_model.specs.declared.flat.mark.Mark.{Mark}
use Rattle.fsfs_base.specs.declared.fields.txn_name.TxnName.{TxnName}
use Rattle.fsfs_base.specs.declared.fields.digest.HexDigest.{HexDigest}
use Rattle.fsfs_revision.specs.Told.{RevisionBytes}
use Rattle.fsfs_noderev.specs.declared.node_id.NodeId.{NodeId}
use Rattle.fsfs_txn_files.specs.declared.proto_rev.text_error.TheConstants.{MAX_TEXT}
use Rattle.fsfs_txn_files.specs.declared.proto_rev.text_error.TextError.{TextError}
use Rattle.fsfs_txn_files.specs.declared.proto_rev.text_error.TextError.TheVariants as refused
use Rattle.fsfs_txn_files.specs.ProtoRev.Sources.{GivesAll}
use Rattle.fsfs_txn_files.specs.ProtoRev.Texts.{IsRefusedText}
use Rattle.fsfs_draft.specs.Drafts.{Folder, ShowTrees}
use Rattle.fsfs_draft.specs.Edits.{IsDraftAfter}
use Rattle.fsfs_draft.specs.Walks.{HasKind}
use Rattle.fsfs_draft.specs.declared.error.EditError.{EditError}
use Rattle.fsfs_draft.specs.declared.error.EditError.TheVariants as errors
use Rattle.fsfs_edit.specs.Items.{ModifiesItem}
use Rattle.fsfs_edit.specs.Meeting.{IsDone}
use Rattle.fsfs_edit.specs.Ways.{IsOpenedAt}
use Rattle.fsfs_txn.specs.declared.opened.opening.Way.{Way}
use Rattle.fsfs_txn.specs.declared.opened.texts.TextPut.{TextPut}
use Rattle.fsfs_txn.specs.declared.opened.texts.TextPut.TheVariants as puts
use Rattle.fsfs_txn.specs.Opened.Knowing.{AreKnown}
use Rattle.fsfs_txn.specs.Opened.Growing.{IsLonger}
use Rattle.fsfs_txn.specs.Opened.Failing.{IfLeft}
use Rattle.fsfs_txn.specs.declared.opened.known.Known.{Known}
use Rattle.fsfs_txn.specs.Opened.Leading.{LeadsDown, HasAll}

abbrev pub refusal_of : TextError → Result TextPut EditError
refusal_of refused.SourceFault = Ok puts.SourceFault
refusal_of refused.TextTooLong = Ok puts.TooLong
refusal_of (refused.Checksum kept found) = Ok (puts.Checksum kept found)
refusal_of refused.BenchFault = Err errors.BenchFault

-- the text is all that the source had left, within the limit and with the digest that was given; and where the benches tell their files
-- it is the file's
pub record IsTextDone (Told : Type 0) (look : RevisionBytes) (trees : ℕ → TreeFunction) (top base : ℕ) (txn : TxnName) (tree : TreeFunction) (marks : List Mark) (p : Path) (from to : Option (List ℕ)) (expect : Option (HexDigest 16)) (after : Folder) : Type 0 where
  pub text : List ℕ
  pub given : GivesAll from to text
  pub short : length text ≤ MAX_TEXT
  pub expected : IfSome expect (λ d. d.bytes ≡ md5 text)
  pub item : ModifiesItem after File p true false
  pub done : Told → (bytes : Vec ℕ Global) → bytes.items ≡ text → IsDone look trees top base txn tree marks (PutText p bytes) after

-- each refusal has its cause, in this order: what stands at the path, the source, and the text
abbrev pub IsPuttingText : Type 0 → RevisionBytes → (ℕ → TreeFunction) → ℕ → ℕ → TxnName → TreeFunction → List Mark → Path → Option (List ℕ) → Option (List ℕ) → Option (HexDigest 16) → Folder → Folder → Result TextPut EditError → Type 0
IsPuttingText Told look trees top base txn tree marks p from to expect before after (Ok puts.Done) = HasKind (tree p) File × IsTextDone Told look trees top base txn tree marks p from to expect after
IsPuttingText Told look trees top base txn tree marks p from to expect before after (Ok puts.NotFile) = HasKind (tree p) Dir × (after ≡ before)
IsPuttingText Told look trees top base txn tree marks p from to expect before after (Ok puts.SourceFault) = HasKind (tree p) File × IsRefusedText from to expect refused.SourceFault × IsLonger before after
IsPuttingText Told look trees top base txn tree marks p from to expect before after (Ok puts.TooLong) = HasKind (tree p) File × IsRefusedText from to expect refused.TextTooLong × IsLonger before after
IsPuttingText Told look trees top base txn tree marks p from to expect before after (Ok (puts.Checksum kept found)) = HasKind (tree p) File × IsRefusedText from to expect (refused.Checksum kept found) × IsLonger before after
IsPuttingText Told look trees top base txn tree marks p from to expect before after (Err e) = IfLeft e (IsLonger before after)

-- at an own file
abbrev pub PutsText : Type 0 → TxnName → Folder → Folder → Folder → Path → NodeId → Option (List ℕ) → Option (List ℕ) → Option (HexDigest 16) → Result TextPut EditError → Type 0
PutsText Told txn before mid after p id from to expect result = (look : RevisionBytes) (trees : ℕ → TreeFunction) (top base : ℕ) (tree : TreeFunction) (marks : List Mark) → ShowTrees look top trees → base ≤ top
    → (d : IsDraftAfter look trees top base txn before tree marks) → IsOpenedAt look trees top base txn marks tree d.0.shows.own p File mid id → HasKind (tree p) File
    → IsPuttingText Told look trees top base txn tree marks p from to expect before after result

-- nothing is lacking at an own file
abbrev pub PutsAll : TxnName → Folder → Folder → Path → NodeId → Result TextPut EditError → Type 0
PutsAll txn before mid p id result = (look : RevisionBytes) (trees : ℕ → TreeFunction) (top base : ℕ) (tree : TreeFunction) (marks : List Mark) → ShowTrees look top trees → base ≤ top
    → (d : IsDraftAfter look trees top base txn before tree marks) → IsOpenedAt look trees top base txn marks tree d.0.shows.own p File mid id → HasKind (tree p) File → HasAll result

-- a fact, where the text was put
abbrev pub IfPut : Result TextPut EditError → Type 0 → Type 0
IfPut (Ok puts.Done) P = P
IfPut (Ok puts.NotFile) P = Unit {0}
IfPut (Ok puts.SourceFault) P = Unit {0}
IfPut (Ok puts.TooLong) P = Unit {0}
IfPut (Ok (puts.Checksum kept found)) P = Unit {0}
IfPut (Err e) P = Unit {0}

-- whatever led somewhere leads there still
abbrev pub PutsStill : TxnName → Folder → Folder → Folder → Path → NodeId → Result TextPut EditError → Type 0
PutsStill txn before mid after p id result = (look : RevisionBytes) (trees : ℕ → TreeFunction) (top base : ℕ) (tree : TreeFunction) (marks : List Mark) → ShowTrees look top trees → base ≤ top
    → (d : IsDraftAfter look trees top base txn before tree marks) → IsOpenedAt look trees top base txn marks tree d.0.shows.own p File mid id → HasKind (tree p) File
    → (known : List Known) (path : Path) (at : NodeId) → LeadsDown look mid.nodes known path at → IfPut result (LeadsDown look after.nodes known path at)

-- over any draft it is the flat model's edit, or its refusal
abbrev pub MeetsPut : Type 0 → TxnName → Folder → Folder → Way → Option (List ℕ) → Option (List ℕ) → Option (HexDigest 16) → Result TextPut EditError → Type 0
MeetsPut Told txn before after way from to expect result = (look : RevisionBytes) (trees : ℕ → TreeFunction) (top base : ℕ) (tree : TreeFunction) (marks : List Mark) → AreKnown look top way.known.items → ShowTrees look top trees → base ≤ top → IsTree tree
    → IsDraftAfter look trees top base txn before tree marks → IsPuttingText Told look trees top base txn tree marks way.path from to expect before after result
