-- What stands in an own directory, of the transaction's own.
use Rattle.std.specs.Prelude.{◌≡◌, Bool, true, false, cond, List, [], ◌∷◌, ◌++◌, Option, Some, None, map, option_map}
use Rattle.std.specs.List.{AllByRecursion, list_any}
use Rattle.std.specs.BTreeMap.{BTreeMap, get_by_text}
use Rattle.std.specs.declared.string.String.{String}
use Rattle.std.specs.declared.alloc.Global.{Global}
use Rattle.fsfs_base.specs.Paths.{PathName, same_name}
use Rattle.fsfs_noderev.specs.declared.node_id.NodeId.{NodeId}
use Rattle.fsfs_revision.specs.Nodes.{is_revision_id}
use Rattle.fsfs_revision.specs.Shows.Reading.{DirEntry, named}
use Rattle.fsfs_draft.specs.Drafts.{Kept}
use Rattle.fsfs_draft.specs.Steps.{Files, kept_at}
use Rattle.fsfs_final.specs.declared.order.error.OrderError.{OrderError}
use Rattle.fsfs_final.specs.declared.order.error.OrderError.TheVariants as errors

-- the ids of a directory's names
abbrev pub IdsByName : Type 0
IdsByName = PathName → Option NodeId

-- by its `children` file; without one it has nothing of the transaction's
abbrev pub id_named : Option (List DirEntry) → IdsByName
id_named None name = None
id_named (Some entries) name = option_map (λ (e : DirEntry). e.id) (named name entries)

-- an id, if it is of the transaction's own
abbrev pub own_of : Option NodeId → Option NodeId
own_of None = None
own_of (Some id) = cond (is_revision_id id) None (Some id)

-- the ids of the transaction's own
abbrev pub own_named : List DirEntry → IdsByName
own_named entries name = own_of (id_named (Some entries) name)

abbrev pub ids_in : BTreeMap (String Global) NodeId → IdsByName
ids_in ids name = get_by_text ids name

-- a name, and the own node-revision that it leads to
abbrev pub Child : Type 0
Child = PathName × Kept

abbrev pub is_named : List Child → PathName → Bool
is_named cs name = list_any (λ (c : Child). same_name c.0 name) cs

abbrev pub HaveNamesOnce : List Child → Type 0
HaveNamesOnce [] = Unit {0}
HaveNamesOnce (c ∷ cs) = (is_named cs c.0 ≡ false) × HaveNamesOnce cs

abbrev pub IsChild : Files → IdsByName → Child → Type 0
IsChild files ids c = (id : NodeId) × (ids c.0 ≡ Some id) × (is_revision_id id ≡ false) × (kept_at files id ≡ Some c.1)

-- one was put before the others
abbrev pub IsPushed : Option Kept → List Kept → List Kept → Type 0
IsPushed o old new = (k : Kept) × (o ≡ Some k) × (new ≡ k ∷ old)

-- those that the names lead to were put before the others, each once
pub record ArePushed (files : Files) (ids : IdsByName) (old new : List Kept) : Type 0 where
  pub children : List Child
  pub added : new ≡ map (λ (c : Child). c.1) children ++ old
  pub each : AllByRecursion (IsChild files ids) children
  pub once : HaveNamesOnce children
  pub all : (name : PathName) (id : NodeId) → ids name ≡ Some id → is_revision_id id ≡ false → is_named children name ≡ true

-- a name leads to an own node-revision that the folder does not hold
abbrev pub LacksChild : Files → IdsByName → Type 0
LacksChild files ids = (name : PathName) × (id : NodeId) × (ids name ≡ Some id) × (is_revision_id id ≡ false) × (kept_at files id ≡ None)

-- a fact, where something lacks
abbrev pub IfLacking : OrderError → Type 0 → Type 0
IfLacking errors.OutOfMemory P = Unit {0}
IfLacking errors.Lacking P = P
