-- The records of a changed path, as they are read.
use Rattle.std.specs.Prelude.{◌≡◌, ℕ, Bool, true, false, List, [], Option, Some, None, option_map, Result, Ok, Err}
use Rattle.fsfs_base.specs.declared.kind.Kind.{Kind}
use Rattle.fsfs_base.specs.declared.kind.Kind.TheVariants.{File, Dir}
use Rattle.fsfs_base.specs.declared.action.Action.{Action}
use Rattle.fsfs_base.specs.declared.action.Action.TheVariants.{Add, Delete, Replace, Modify}
use Rattle.fsfs_base.specs.Paths.{Path}
use Rattle.fsfs_revision.specs.declared.damage.DamageKind.TheVariants as what
use Rattle.fsfs_revision.specs.declared.wrong.Wrong.{Wrong}
use Rattle.fsfs_revision.specs.Damage.Damages.{place_of, damaged}
use Rattle.fsfs_revision.specs.Damage.Readings.{AndThen}
use Rattle.fsfs_revision.specs.Told.{RevisionBytes}
use Rattle.fsfs_revision.specs.Shows.Reading.{OfId, TextOf, PropsOf, Met, Stands, Lacking, Blocked, MetAt}
use Rattle.fsfs_noderev.specs.declared.changes.item.ChangeItem.{ChangeItem}
use Rattle.fsfs_noderev.specs.declared.node_rev.NodeRev.{NodeRev}
use Rattle.fsfs_stands.specs.ChangedTexts.{KindOf, is_nameable}
use Rattle.fsfs_dump.specs.Records.{Pairs, delete_record, change_records}

-- ---- the node of an item

-- what stands at its path; an item of a path at which nothing stands says what the tree doesn't
abbrev pub NodeMet : ℕ → Met → Result NodeRev Wrong → Type 0
NodeMet rev (Stands v) r = r ≡ Ok v
NodeMet rev (Lacking names) r = r ≡ Err (damaged (place_of rev 0) what.ChangePath)
NodeMet rev (Blocked names) r = r ≡ Err (damaged (place_of rev 0) what.ChangePath)

abbrev pub NodeBy : RevisionBytes → ℕ → ChangeItem → Bool → Result NodeRev Wrong → Type 0
NodeBy look rev item true = OfId look item.id
NodeBy look rev item false = AndThen (MetAt look rev item.path) (NodeMet rev)

-- the node-revision of its id; of an id that it could not name, that at its path
abbrev pub NodeOf : RevisionBytes → ℕ → ChangeItem → Result NodeRev Wrong → Type 0
NodeOf look rev item = NodeBy look rev item (is_nameable rev item.id)

-- ---- its properties and its text

-- read where it was set
abbrev pub IfSet : {X : Type 0} → Bool → (Result X Wrong → Type 0) → Result (Option X) Wrong → Type 0
IfSet false R r = r ≡ Ok None
IfSet true R r = AndThen R (λ x s. s ≡ Ok (Some x)) r

-- the text of a file; that of a directory is empty
abbrev pub ContentBy : RevisionBytes → NodeRev → Kind → Result (List ℕ) Wrong → Type 0
ContentBy look v File = TextOf look v
ContentBy look v Dir = λ r. r ≡ Ok []

abbrev pub ContentOf : RevisionBytes → NodeRev → Result (List ℕ) Wrong → Type 0
ContentOf look v = ContentBy look v v.kind

-- ---- its records

abbrev pub source_of : ChangeItem → Option (ℕ × Path)
source_of item = option_map (λ s. (s.rev, s.path)) item.source

-- of a node whose properties are read
abbrev pub TextRecords : RevisionBytes → ChangeItem → Action → Kind → NodeRev → Option Pairs → Result (List ℕ) Wrong → Type 0
TextRecords look item action kind v pairs = AndThen (IfSet item.text_changed (ContentOf look v)) (λ text r. r ≡ Ok (change_records item.path action kind (source_of item) pairs text))

abbrev pub NodeRecords : RevisionBytes → ChangeItem → Action → Kind → NodeRev → Result (List ℕ) Wrong → Type 0
NodeRecords look item action kind v = AndThen (IfSet item.props_changed (PropsOf look v)) (TextRecords look item action kind v)

abbrev pub KindRecords : RevisionBytes → ℕ → ChangeItem → Action → Kind → Result (List ℕ) Wrong → Type 0
KindRecords look rev item action kind = AndThen (NodeOf look rev item) (NodeRecords look item action kind)

abbrev pub ThereRecords : RevisionBytes → ℕ → ChangeItem → Action → Result (List ℕ) Wrong → Type 0
ThereRecords look rev item action = AndThen (KindOf look rev item item.kind) (KindRecords look rev item action)

abbrev pub ActionRecords : RevisionBytes → ℕ → ChangeItem → Action → Result (List ℕ) Wrong → Type 0
ActionRecords look rev item Delete r = r ≡ Ok (delete_record item.path)
ActionRecords look rev item Add r = ThereRecords look rev item Add r
ActionRecords look rev item Replace r = ThereRecords look rev item Replace r
ActionRecords look rev item Modify r = ThereRecords look rev item Modify r

-- the records of an item, or what is wrong with what it is about
abbrev pub ItemRecords : RevisionBytes → ℕ → ChangeItem → Result (List ℕ) Wrong → Type 0
ItemRecords look rev item = ActionRecords look rev item item.action
