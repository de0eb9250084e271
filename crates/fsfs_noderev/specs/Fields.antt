-- The fields of a node-revision: which name each line has, what its value may be, and what one line more makes of the fields so far.
use Rattle.std.specs.Prelude.{◌≡◌, ◌≢◌, ℕ, List, Option, Some, None, ◌⊎◌, if◌then◌else◌, codes}
use Rattle.std.specs.Str.{bytes_eq, IsUtf8}
use Rattle.fsfs_base.specs.Grammar.Cuts.{IsCutOf}
use Rattle.fsfs_base.specs.Paths.{Path, path_text}
use Rattle.fsfs_base.specs.PathTexts.{IsPath}
use Rattle.fsfs_base.specs.declared.kind.Kind.{Kind}
use Rattle.fsfs_base.specs.declared.kind.Kind.TheVariants as kinds
use Rattle.fsfs_base.specs.Fields.RevNums.{IsRev}
use Rattle.fsfs_noderev.specs.Ids.{IsId, IsNumber64, id_value}
use Rattle.fsfs_noderev.specs.Reps.{IsRevOrNone, AreContents, contents_value}
use Rattle.fsfs_noderev.specs.declared.node_id.NodeId.{NodeId}
use Rattle.fsfs_noderev.specs.declared.rep.Contents.{Contents}
use Rattle.fsfs_noderev.specs.declared.node_rev.CopySource.{CopySource}
use Rattle.fsfs_noderev.specs.declared.node_rev.CopyRoot.{CopyRoot}
use Rattle.fsfs_noderev.specs.declared.node_rev.Field.{Field}
use Rattle.fsfs_noderev.specs.declared.node_rev.Field.TheVariants.{Id, NodeKind, Predecessor, Count, Text, Props, CreatedPath, CopiedFrom, CopiedRoot, FreshTxnRoot, MergeinfoCount, MergeinfoHere}
use Rattle.fsfs_noderev.specs.declared.node_rev.Which.{Which}
use Rattle.fsfs_noderev.specs.declared.node_rev.Which.TheVariants.{Twice, BadValue}
use Rattle.fsfs_noderev.specs.declared.fields.Fields.{Fields}

abbrev pub field_named : List ℕ → Option Field
field_named name =
    if bytes_eq name (codes "id") then Some Id
    else if bytes_eq name (codes "type") then Some NodeKind
    else if bytes_eq name (codes "pred") then Some Predecessor
    else if bytes_eq name (codes "count") then Some Count
    else if bytes_eq name (codes "text") then Some Text
    else if bytes_eq name (codes "props") then Some Props
    else if bytes_eq name (codes "cpath") then Some CreatedPath
    else if bytes_eq name (codes "copyfrom") then Some CopiedFrom
    else if bytes_eq name (codes "copyroot") then Some CopiedRoot
    else if bytes_eq name (codes "is-fresh-txn-root") then Some FreshTxnRoot
    else if bytes_eq name (codes "minfo-cnt") then Some MergeinfoCount
    else if bytes_eq name (codes "minfo-here") then Some MergeinfoHere
    else None

-- ---- the values

abbrev pub IsIdText : List ℕ → NodeId → Type 0
IsIdText text id = IsId text (id_value id)

abbrev pub IsKindText : List ℕ → Kind → Type 0
IsKindText text kinds.File = text ≡ codes "file"
IsKindText text kinds.Dir = text ≡ codes "dir"

abbrev pub AreContentsText : List ℕ → Contents → Type 0
AreContentsText text k = AreContents text (contents_value k)

-- the text of a path within the limits, in UTF-8
pub record IsPathText (text : List ℕ) (path : Path) : Type 0 where
  pub path_is : IsPath path
  pub text_is : path_text path ≡ text
  pub utf8 : IsUtf8 text

-- `<revision> <path>`
abbrev pub IsSourceText : List ℕ → CopySource → Type 0
IsSourceText text source = IsCutOf 32 IsRev IsPathText text (source.rev, source.path)

-- `<revision> <path>`, or `-1 <path>` for a copy of the same transaction
abbrev pub IsRootText : List ℕ → CopyRoot → Type 0
IsRootText text root = IsCutOf 32 IsRevOrNone IsPathText text (root.rev, root.path)

abbrev pub IsYes : List ℕ → Unit {0} → Type 0
IsYes text x = text ≡ codes "y"

-- ---- one line more

-- the field was not there, and now is, with what the value says
abbrev pub Sets : {X : Type 0} → (List ℕ → X → Type 0) → List ℕ → Option X → (X → Fields) → Fields → Type 0
Sets {X} G value old with_field new = (old ≡ None) × (x : X) × G value x × (new ≡ with_field x)

-- what a line of this field makes of the fields so far; a line of no field makes nothing
abbrev pub Puts : Option Field → List ℕ → Fields → Fields → Type 0
Puts None value s t = t ≡ s
Puts (Some Id) value s t = Sets IsIdText value s.id (λ x. record s { id = Some x }) t
Puts (Some NodeKind) value s t = Sets IsKindText value s.kind (λ x. record s { kind = Some x }) t
Puts (Some Predecessor) value s t = Sets IsIdText value s.predecessor (λ x. record s { predecessor = Some x }) t
Puts (Some Count) value s t = Sets IsNumber64 value s.count (λ x. record s { count = Some x }) t
Puts (Some Text) value s t = Sets AreContentsText value s.text (λ x. record s { text = Some x }) t
Puts (Some Props) value s t = Sets AreContentsText value s.props (λ x. record s { props = Some x }) t
Puts (Some CreatedPath) value s t = Sets IsPathText value s.created_path (λ x. record s { created_path = Some x }) t
Puts (Some CopiedFrom) value s t = Sets IsSourceText value s.copy_from (λ x. record s { copy_from = Some x }) t
Puts (Some CopiedRoot) value s t = Sets IsRootText value s.copy_root (λ x. record s { copy_root = Some x }) t
Puts (Some FreshTxnRoot) value s t = Sets IsYes value s.fresh_txn_root (λ x. record s { fresh_txn_root = Some x }) t
Puts (Some MergeinfoCount) value s t = Sets IsNumber64 value s.mergeinfo_count (λ x. record s { mergeinfo_count = Some x }) t
Puts (Some MergeinfoHere) value s t = Sets IsYes value s.mergeinfo_here (λ x. record s { mergeinfo_here = Some x }) t

-- the field was there already, or else its value is in no form
abbrev pub Bars : {X : Type 0} → (List ℕ → X → Type 0) → List ℕ → Option X → Field → Which → Type 0
Bars {X} G value old field which = ((old ≢ None) × (which ≡ Twice field)) ⊎ ((old ≡ None) × ((x : X) → ¬ G value x) × (which ≡ BadValue field))

-- why a line of this field is refused behind the fields so far
abbrev pub Refuses : Option Field → List ℕ → Fields → Which → Type 0
Refuses None value s which = ⊥
Refuses (Some Id) value s which = Bars IsIdText value s.id Id which
Refuses (Some NodeKind) value s which = Bars IsKindText value s.kind NodeKind which
Refuses (Some Predecessor) value s which = Bars IsIdText value s.predecessor Predecessor which
Refuses (Some Count) value s which = Bars IsNumber64 value s.count Count which
Refuses (Some Text) value s which = Bars AreContentsText value s.text Text which
Refuses (Some Props) value s which = Bars AreContentsText value s.props Props which
Refuses (Some CreatedPath) value s which = Bars IsPathText value s.created_path CreatedPath which
Refuses (Some CopiedFrom) value s which = Bars IsSourceText value s.copy_from CopiedFrom which
Refuses (Some CopiedRoot) value s which = Bars IsRootText value s.copy_root CopiedRoot which
Refuses (Some FreshTxnRoot) value s which = Bars IsYes value s.fresh_txn_root FreshTxnRoot which
Refuses (Some MergeinfoCount) value s which = Bars IsNumber64 value s.mergeinfo_count MergeinfoCount which
Refuses (Some MergeinfoHere) value s which = Bars IsYes value s.mergeinfo_here MergeinfoHere which

abbrev pub nothing : Fields
nothing = record { id = None; kind = None; predecessor = None; count = None; text = None; props = None; created_path = None; copy_from = None; copy_root = None; fresh_txn_root = None; mergeinfo_count = None; mergeinfo_here = None }
