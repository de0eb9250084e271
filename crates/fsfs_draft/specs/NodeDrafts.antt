-- A draft over the youngest revision, path by path: what a transaction hands over to be written as the next one.
--
-- At each path stands a node-revision of the transaction, or one of a revision that it did not touch. The rules are those of edits
-- and of a merge: made, copied, or gone on from what stood in the base. (The libsvn_fs_fs structure file, "Transaction layout"; which copy part and copy root what goes
-- on gets is this project's profile.)
use Rattle.std.specs.Prelude.{◌≡◌, ◌≢◌, ◌≤◌, ◌<◌, ◌⊎◌, ◌+◌, ◌-◌, ◌^◌, ◌++◌, ℕ, min, Bool, true, false, [], ◌∷◌, Option, Some, None, Ok, unwrap_or, nat_lt, if◌then◌else◌}
use Rattle.fsfs_base.specs.Paths.{PathName, Path}
use Rattle.fsfs_base.specs.declared.kind.Kind.TheVariants.{Dir}
use Rattle.fsfs_revision.specs.Told.{RevisionBytes}
use Rattle.fsfs_noderev.specs.declared.node_id.Part.{Part}
use Rattle.fsfs_noderev.specs.declared.node_id.Part.TheVariants as parts
use Rattle.fsfs_noderev.specs.Ids.{part_value, Old}
use Rattle.fsfs_noderev.specs.declared.rep.Contents.TheVariants as contents
use Rattle.fsfs_noderev.specs.declared.node_rev.CopyRoot.{CopyRoot}
use Rattle.fsfs_noderev.specs.declared.node_rev.CopySource.{CopySource}
use Rattle.fsfs_noderev.specs.declared.node_rev.NodeRev.{NodeRev}
use Rattle.fsfs_revision.specs.Shows.Reading.{ChildOf, StandsAt}
use Rattle.fsfs_revision.specs.Shows.Chains.{own_rev, IsPred, copy_root_of}
use Rattle.fsfs_revision.specs.Shows.IdRules.{IsBehind}
use Rattle.fsfs_draft.specs.OwnSides.{NodesAt, in_txn}

-- the copy root's revision and path, where n stands for the transaction's own revision
abbrev pub root_in : ℕ → NodeRev → Option CopyRoot → ℕ × Path
root_in n v None = (if in_txn v.id.place then n else own_rev v, v.created_path)
root_in n v (Some root) = (unwrap_or root.rev n, root.path)

abbrev pub draft_root : ℕ → NodeRev → ℕ × Path
draft_root n v = root_in n v v.copy_root

-- of the transaction
abbrev pub IsOwn : NodeRev → Type 0
IsOwn v = in_txn v.id.place ≡ true

-- made in the transaction
abbrev pub is_new_part : Part → Bool
is_new_part (parts.New n) = true
is_new_part (parts.Old n) = false
is_new_part (parts.Made n rev) = false

-- what goes on: where its copy part comes from
pub data DraftPart (look : RevisionBytes) (own : NodesAt) (dir v u : NodeRev) : Type 0 where
  Directory : v.id.copy ≡ dir.id.copy → DraftPart look own dir v u
  Here : v.id.copy ≡ u.id.copy → DraftPart look own dir v u
  Before : (w : NodeRev) → IsBehind look u w → v.id.copy ≡ w.id.copy → DraftPart look own dir v u
  -- drawn, and no copy's
  Drawn : is_new_part v.id.copy ≡ true → ((p : Path) (c : NodeRev) (from : CopySource) → own p ≡ Some c → IsOwn c → c.copy_from ≡ Some from → c.id.copy ≢ v.id.copy) → DraftPart look own dir v u

-- over revision b, where the revisions up to `top` are known; n stands for the revision that will be made of it, whichever that is
pub record IsDraft (look : RevisionBytes) (top b : ℕ) (own : NodesAt) : Type 0 where
  -- the root goes on from the base's
  pub root : (v : NodeRev) × (u : NodeRev) × (own [] ≡ Some v) × StandsAt look b [] u × IsOwn v
      × (v.predecessor ≡ Some u.id) × (part_value v.id.node ≡ Old 0) × (part_value v.id.copy ≡ Old 0) × (v.copy_from ≡ None) × ((n : ℕ) → top < n → draft_root n v ≡ copy_root_of u)
  -- what is below something is in a directory of the draft
  pub above : (p : Path) (name : PathName) (v : NodeRev) → own (p ++ name ∷ []) ≡ Some v → (dir : NodeRev) × (own p ≡ Some dir) × (dir.kind ≡ Dir)
  -- what is not of the transaction is of a revision, with all below it
  pub lasting : (p : Path) (v : NodeRev) → own p ≡ Some v → in_txn v.id.place ≡ false → (r : ℕ) × (q : Path) × (r ≤ top) × StandsAt look r q v
  pub below_lasting : (p : Path) (name : PathName) (dir v : NodeRev) → own p ≡ Some dir → in_txn dir.id.place ≡ false → own (p ++ name ∷ []) ≡ Some v → ChildOf look dir name (Ok (Some v)) × (in_txn v.id.place ≡ false)
  -- in a directory of the transaction, what is not of the transaction is the entry of the directory's predecessor
  pub older : (p : Path) (name : PathName) (dir v : NodeRev) → own p ≡ Some dir → IsOwn dir → own (p ++ name ∷ []) ≡ Some v → in_txn v.id.place ≡ false
      → (u : NodeRev) × IsPred look dir u × ChildOf look u name (Ok (Some v))
  -- what goes on: from that entry, with its node part, kind and count; the copy root is the directory's where that was copied since
  pub goes_on : (p : Path) (name : PathName) (dir v : NodeRev) → own p ≡ Some dir → own (p ++ name ∷ []) ≡ Some v → IsOwn v → v.copy_from ≡ None → v.predecessor ≢ None
      → (u w : NodeRev) × IsPred look dir u × ChildOf look u name (Ok (Some w)) × IsPred look v w
      × ((n : ℕ) → top < n → draft_root n v ≡ (if nat_lt (own_rev w) (draft_root n dir).0 then draft_root n dir else copy_root_of w))
      × DraftPart look own dir v w
  pub pred : (p : Path) (v w : NodeRev) → own p ≡ Some v → IsOwn v → IsPred look v w → (v.id.node ≡ w.id.node) × (v.kind ≡ w.kind) × (v.count ≡ min (w.count + 1) (2 ^ 64 - 1))
  -- what was made: a node part of its own, and its directory's copy part and copy root
  pub made : (p : Path) (name : PathName) (dir v : NodeRev) → own p ≡ Some dir → own (p ++ name ∷ []) ≡ Some v → IsOwn v → v.predecessor ≡ None
      → (v.copy_from ≡ None) × (is_new_part v.id.node ≡ true) × (v.id.copy ≡ dir.id.copy) × ((n : ℕ) → top < n → draft_root n v ≡ draft_root n dir)
  pub made_once : (p q : Path) (v w : NodeRev) → own p ≡ Some v → own q ≡ Some w → IsOwn v → IsOwn w → v.predecessor ≡ None → w.predecessor ≡ None → v.id.node ≡ w.id.node → p ≡ q
  -- what was copied: it stands where it was made, goes on from its source, and has a copy part of its own
  pub copied : (p : Path) (v : NodeRev) (from : CopySource) → own p ≡ Some v → IsOwn v → v.copy_from ≡ Some from
      → (u : NodeRev) × (from.rev ≤ top) × StandsAt look from.rev from.path u × (v.predecessor ≡ Some u.id) × (v.created_path ≡ p) × ((n : ℕ) → top < n → draft_root n v ≡ (n, p)) × (is_new_part v.id.copy ≡ true)
  pub copied_once : (p q : Path) (v w : NodeRev) (from other : CopySource) → own p ≡ Some v → own q ≡ Some w → IsOwn v → IsOwn w → v.copy_from ≡ Some from → w.copy_from ≡ Some other → v.id.copy ≡ w.id.copy → p ≡ q
  -- properties that were not set are those of what it goes on from
  pub props : (p : Path) (v w : NodeRev) → own p ≡ Some v → IsOwn v → IsPred look v w → (v.props ≡ Some contents.Own) ⊎ (v.props ≡ w.props)
  pub no_props : (p : Path) (v : NodeRev) → own p ≡ Some v → IsOwn v → v.predecessor ≡ None → (v.props ≡ Some contents.Own) ⊎ (v.props ≡ None)
