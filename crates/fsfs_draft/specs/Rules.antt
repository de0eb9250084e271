-- How a transaction's own node-revisions hang together with those of the revisions, and with each other.
--
-- The libsvn_fs_fs structure file says what the parts of an id, `pred`, `copyfrom` and `copyroot` are for. Which copy part and which
-- copy root a node-revision below a copy gets is this project's profile.
use Rattle.std.specs.Prelude.{◌≡◌, ◌≤◌, ◌+◌, ◌-◌, ◌^◌, ◌++◌, ℕ, min, nat_lt, Bool, true, List, [], ◌∷◌, Option, Some, None, if◌then◌else◌}
use Rattle.fsfs_base.specs.Paths.{PathName, Path}
use Rattle.fsfs_base.specs.declared.kind.Kind.{Kind}
use Rattle.fsfs_base.specs.declared.kind.Kind.TheVariants.{Dir}
use Rattle.fsfs_revision.specs.Told.{RevisionBytes}
use Rattle.fsfs_noderev.specs.Ids.{PartValue, New, Old, part_value}
use Rattle.fsfs_noderev.specs.declared.node_id.NodeId.{NodeId}
use Rattle.fsfs_noderev.specs.declared.node_rev.CopyRoot.{CopyRoot}
use Rattle.fsfs_noderev.specs.declared.node_rev.CopySource.{CopySource}
use Rattle.fsfs_noderev.specs.declared.node_rev.NodeRev.{NodeRev}
use Rattle.fsfs_revision.specs.Shows.Reading.{DirEntry, named, StandsAt}
use Rattle.fsfs_revision.specs.Shows.Chains.{own_rev, copy_root_of}
use Rattle.fsfs_revision.specs.Shows.IdRules.{IsBehind}
use Rattle.fsfs_draft.specs.Own.{OwnNode, Own, below}

-- v goes on from u, a node-revision of a revision
pub record GoesOn (v u : NodeRev) : Type 0 where
  pub predecessor : v.predecessor ≡ Some u.id
  pub node : v.id.node ≡ u.id.node
  pub kind : v.kind ≡ u.kind
  pub count : v.count ≡ min (u.count + 1) (2 ^ 64 - 1)

-- ---- copy roots: no revision stands for the transaction

abbrev pub Root : Type 0
Root = Option ℕ × Path

abbrev pub root_or_path : Path → Option CopyRoot → Root
root_or_path path None = (None, path)
root_or_path path (Some root) = (root.rev, root.path)

abbrev pub draft_root : NodeRev → Root
draft_root v = root_or_path v.created_path v.copy_root

abbrev pub lasting_root : NodeRev → Root
lasting_root u = (Some (copy_root_of u).0, (copy_root_of u).1)

-- the copy was made after the revision; the transaction's own are made after all
abbrev pub is_after : Option ℕ → ℕ → Bool
is_after None rev = true
is_after (Some copied) rev = nat_lt rev copied

-- the copy root of what goes on from u in a directory: the directory's, if that was copied since u was made; else u's
abbrev pub root_after : Root → NodeRev → Root
root_after dir u = if is_after dir.0 (own_rev u) then dir else lasting_root u

-- what a node-revision has of the directory that it stands in: the copy root and the copy part
pub record Above : Type 0 where
  pub root : Root
  pub copy : PartValue

-- a transaction's root is in no directory
abbrev pub at_top : Above
at_top = record { root = (Some 0, []); copy = Old 0 }

-- ---- where a node-revision comes from

-- a part that the transaction drew
abbrev pub IsNew : PartValue → Type 0
IsNew part = (n : ℕ) × (part ≡ New n)

-- the copy part of what goes on from u: the directory's, that of u or of one before it, or one drawn for it
pub data CopyPartOf (look : RevisionBytes) (above : Above) (u : NodeRev) (copy : PartValue) : Type 0 where
  Directory : copy ≡ above.copy → CopyPartOf look above u copy
  Same : copy ≡ part_value u.id.copy → CopyPartOf look above u copy
  Before : (w : NodeRev) → IsBehind look u w → copy ≡ part_value w.id.copy → CopyPartOf look above u copy
  Drawn : IsNew copy → CopyPartOf look above u copy

-- what it has no file of its own for is its predecessor's
pub record Keeps (v : OwnNode) (u : NodeRev) : Type 0 where
  pub entries : v.entries ≡ None → v.node.kind ≡ Dir → v.node.text ≡ u.text
  pub props : v.props ≡ None → v.node.props ≡ u.props

-- `Stands` says which node-revisions stand, in a revision, where nothing of the transaction's stands; `above` is the
-- directory; up to `top` are the revisions
pub data ComesBy (look : RevisionBytes) (top : ℕ) (Stands : Path → NodeRev → Type 0) (above : Above) (v : OwnNode) : Type 0 where
  -- it is what stood there, changed
  Change : (u : NodeRev) → Stands [] u → v.node.copy_from ≡ None → GoesOn v.node u → Keeps v u → draft_root v.node ≡ root_after above.root u → CopyPartOf look above u (part_value v.node.id.copy) → ComesBy look top Stands above v
  -- it is a copy
  Copied : (u : NodeRev) (from : CopySource) → v.node.copy_from ≡ Some from → from.rev ≤ top → StandsAt look from.rev from.path u → GoesOn v.node u → Keeps v u
      → draft_root v.node ≡ (None, v.node.created_path) → IsNew (part_value v.node.id.copy) → ComesBy look top Stands above v
  -- it is new
  Made : v.node.copy_from ≡ None → v.node.predecessor ≡ None → v.node.count ≡ 0 → draft_root v.node ≡ above.root → part_value v.node.id.copy ≡ above.copy → IsNew (part_value v.node.id.node) → ComesBy look top Stands above v

-- ---- what stands below it

abbrev pub stands_from : RevisionBytes → Option CopySource → Option NodeId → (Path → NodeRev → Type 0) → Path → NodeRev → Type 0
stands_from look (Some from) before Stands p u = StandsAt look from.rev (from.path ++ p) u
stands_from look None (Some id) Stands p u = Stands p u
stands_from look None None Stands p u = ⊥

abbrev pub stands_under : RevisionBytes → Option OwnNode → (Path → NodeRev → Type 0) → Path → NodeRev → Type 0
stands_under look None Stands p u = Stands p u
stands_under look (Some v) Stands p u = stands_from look v.node.copy_from v.node.predecessor Stands p u

abbrev pub above_of : NodeRev → Above
above_of v = record { root = draft_root v; copy = part_value v.id.copy }

abbrev pub above_under : Option OwnNode → Above → Above
above_under None above = above
above_under (Some v) above = above_of v.node

-- an own node-revision as its entry names it
abbrev pub Head : Type 0
Head = NodeId × Kind

abbrev pub head_of : OwnNode → Head
head_of v = (v.node.id, v.node.kind)

abbrev pub head_at : Option OwnNode → Option Head
head_at None = None
head_at (Some v) = Some (head_of v)

-- the entry names what stands there: the transaction's own node-revision, or that of the revision that it goes on from
abbrev pub IsEntryOf : (NodeRev → Type 0) → Option DirEntry → Option Head → Type 0
IsEntryOf Child None None = Unit {0}
IsEntryOf Child None (Some head) = ⊥
IsEntryOf Child (Some entry) None = (u : NodeRev) × Child u × (entry.id ≡ u.id) × (entry.kind ≡ u.kind)
IsEntryOf Child (Some entry) (Some head) = (entry.id ≡ head.0) × (entry.kind ≡ head.1)

-- without a `children` file nothing below it is the transaction's own
abbrev pub AreEntriesOf : (PathName → NodeRev → Type 0) → Option (List DirEntry) → (PathName → Option Head) → Type 0
AreEntriesOf Child None heads = (name : PathName) → heads name ≡ None
AreEntriesOf Child (Some entries) heads = (name : PathName) → IsEntryOf (Child name) (named name entries) (heads name)

abbrev pub NodeRule : RevisionBytes → ℕ → Option OwnNode → (PathName → Option Head) → Above → (Path → NodeRev → Type 0) → Type 0
NodeRule look top None heads above Stands = (name : PathName) → heads name ≡ None
NodeRule look top (Some v) heads above Stands = ComesBy look top Stands above v × AreEntriesOf (λ name u. stands_under look (Some v) Stands (name ∷ []) u) v.entries heads

-- the rule at a path
abbrev pub RuleAt : RevisionBytes → ℕ → Own → Above → (Path → NodeRev → Type 0) → Path → Type 0
RuleAt look top own above Stands [] = NodeRule look top (own []) (λ name. head_at (own (name ∷ []))) above Stands
RuleAt look top own above Stands (x ∷ p) = RuleAt look top (below x own) (above_under (own []) above) (λ q u. stands_under look (own []) Stands (x ∷ q) u) p

abbrev pub Rules : RevisionBytes → ℕ → Own → Above → (Path → NodeRev → Type 0) → Type 0
Rules look top own above Stands = (p : Path) → RuleAt look top own above Stands p

-- ---- at a path

abbrev pub above_at : Path → Own → Above → Above
above_at [] own above = above
above_at (x ∷ p) own above = above_at p (below x own) (above_under (own []) above)

abbrev pub stands_at : RevisionBytes → Path → Own → (Path → NodeRev → Type 0) → Path → NodeRev → Type 0
stands_at look [] own Stands q u = Stands q u
stands_at look (x ∷ p) own Stands q u = stands_at look p (below x own) (λ r v. stands_under look (own []) Stands (x ∷ r) v) q u
