-- A property set or removed at what was opened.
use Rattle.std.specs.Prelude.{◌≡◌, ◌≤◌, ℕ, true, false, List, Option, Some, Result, Ok, Err, Vec}
use Rattle.std.specs.Global.{Global}
use Rattle.fsfs_base.specs.Paths.{Path}
use Rattle.fsfs_base.specs.declared.kind.Kind.{Kind}
use Rattle.fsfs_tree.specs.Nodes.{TreeFunction}
use Rattle.fsfs_tree.specs.Trees.{IsTree}
use Rattle.fsfs_model.specs.Flat.Edits.{bytes_of, fits_value}
use Rattle.fsfs_model.specs.declared.flat.mark.Mark.{Mark}
use Rattle.fsfs_base.specs.declared.fields.txn_name.TxnName.{TxnName}
use Rattle.fsfs_revision.specs.Told.{RevisionBytes}
use Rattle.fsfs_noderev.specs.declared.node_id.NodeId.{NodeId}
use Rattle.fsfs_revision.specs.Shows.Reading.{Pairs}
use Rattle.fsfs_draft.specs.Drafts.{Kept, Folder, ShowTrees}
use Rattle.fsfs_draft.specs.Steps.{kept_at}
use Rattle.fsfs_draft.specs.Edits.{IsDraftAfter}
use Rattle.fsfs_draft.specs.Entries.{IsWithin}
use Rattle.fsfs_draft.specs.Errors.{IsWant}
use Rattle.fsfs_draft.specs.Properties.{OfKeptProps}
use Rattle.fsfs_draft.specs.Walks.{HasKind}
use Rattle.fsfs_draft.specs.declared.error.EditError.{EditError}
use Rattle.fsfs_edit.specs.Properties.{IsPropertyIn}
use Rattle.fsfs_edit.specs.Ways.{IsOpenedAt}
use Rattle.fsfs_txn.specs.declared.opened.known.Known.{Known}
use Rattle.fsfs_txn.specs.declared.opened.opening.Way.{Way}
use Rattle.fsfs_txn.specs.declared.opened.properties.PropertyPut.{PropertyPut}
use Rattle.fsfs_txn.specs.declared.opened.properties.PropertyPut.TheVariants as puts
use Rattle.fsfs_txn.specs.Opened.Knowing.{AreKnown}
use Rattle.fsfs_txn.specs.Opened.Failing.{IfLeft}
use Rattle.fsfs_txn.specs.Opened.Leading.{IsEndKnown, LeadsDown, HasAll}

abbrev pub ArePropsOf : RevisionBytes → Kept → Result Pairs EditError → Type 0
ArePropsOf look k (Ok pairs) = OfKeptProps look k (Ok pairs)
ArePropsOf look k (Err e) = IsWant e (Unit {0})

-- of the own node-revision of an id
abbrev pub TellsProps : Folder → List Known → NodeId → Result Pairs EditError → Type 0
TellsProps f known id result = (look : RevisionBytes) (top : ℕ) (k : Kept) → AreKnown look top known → kept_at f.nodes id ≡ Some k → IsWithin top k.node.predecessor → ArePropsOf look k result

-- the value is refused by its length alone
abbrev pub IsPuttingProp : RevisionBytes → (ℕ → TreeFunction) → ℕ → ℕ → TxnName → TreeFunction → List Mark → Path → List ℕ → Option (Vec ℕ Global) → Folder → Folder → Result PropertyPut EditError → Type 0
IsPuttingProp look trees top base txn tree marks p name value before after (Ok puts.Done) = (fits_value (bytes_of value) ≡ true) × IsPropertyIn look trees top base txn tree marks p name value after
IsPuttingProp look trees top base txn tree marks p name value before after (Ok puts.TooLong) = (fits_value (bytes_of value) ≡ false) × (after ≡ before)
IsPuttingProp look trees top base txn tree marks p name value before after (Err e) = IfLeft e (after ≡ before)

-- at an own node-revision
abbrev pub SetsProp : TxnName → Folder → Folder → Folder → Way → NodeId → Kind → List ℕ → Option (Vec ℕ Global) → Result PropertyPut EditError → Type 0
SetsProp txn before mid after way id kind name value result = (look : RevisionBytes) (trees : ℕ → TreeFunction) (top base : ℕ) (tree : TreeFunction) (marks : List Mark) → AreKnown look top way.known.items → ShowTrees look top trees → base ≤ top
    → (d : IsDraftAfter look trees top base txn before tree marks) → IsOpenedAt look trees top base txn marks tree d.0.shows.own way.path kind mid id → HasKind (tree way.path) kind → fits_value (bytes_of value) ≡ true
    → IsPuttingProp look trees top base txn tree marks way.path name value before after result

-- nothing is lacking at an own node-revision that is known
abbrev pub SetsAll : TxnName → Folder → Folder → Way → NodeId → Kind → Result PropertyPut EditError → Type 0
SetsAll txn before mid way id kind result = (look : RevisionBytes) (trees : ℕ → TreeFunction) (top base : ℕ) (tree : TreeFunction) (marks : List Mark) → ShowTrees look top trees → base ≤ top
    → (d : IsDraftAfter look trees top base txn before tree marks) → IsOpenedAt look trees top base txn marks tree d.0.shows.own way.path kind mid id → HasKind (tree way.path) kind → IsEndKnown mid.nodes way.known.items id
    → HasAll result

-- a fact, where the property was set or removed
abbrev pub IfSet : Result PropertyPut EditError → Type 0 → Type 0
IfSet (Ok puts.Done) P = P
IfSet (Ok puts.TooLong) P = Unit {0}
IfSet (Err e) P = Unit {0}

-- whatever led somewhere leads there still
abbrev pub SetsStill : TxnName → Folder → Folder → Folder → Way → NodeId → Kind → Result PropertyPut EditError → Type 0
SetsStill txn before mid after way id kind result = (look : RevisionBytes) (trees : ℕ → TreeFunction) (top base : ℕ) (tree : TreeFunction) (marks : List Mark) → ShowTrees look top trees → base ≤ top
    → (d : IsDraftAfter look trees top base txn before tree marks) → IsOpenedAt look trees top base txn marks tree d.0.shows.own way.path kind mid id → HasKind (tree way.path) kind
    → (known : List Known) (path : Path) (at : NodeId) → LeadsDown look mid.nodes known path at → IfSet result (LeadsDown look after.nodes known path at)

-- over any draft it is the flat model's edit, or its refusal
abbrev pub MeetsPutProp : TxnName → Folder → Folder → Way → List ℕ → Option (Vec ℕ Global) → Result PropertyPut EditError → Type 0
MeetsPutProp txn before after way name value result = (look : RevisionBytes) (trees : ℕ → TreeFunction) (top base : ℕ) (tree : TreeFunction) (marks : List Mark) → AreKnown look top way.known.items → ShowTrees look top trees → base ≤ top → IsTree tree
    → IsDraftAfter look trees top base txn before tree marks → IsPuttingProp look trees top base txn tree marks way.path name value before after result
