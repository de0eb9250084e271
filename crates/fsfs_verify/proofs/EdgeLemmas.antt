-- A node-revision against its directory, its source, and the root before it.
use Rattle.std.proofs.Common.{◌≡◌, ◌≤◌, ◌<◌, ◌⊎◌, ℕ, Bool, true, false, cond, nat_lt, refl, sym, ap, subst, ◌∙◌, inl, inr}
use Rattle.std.specs.Ordering.{is_lt}
use Rattle.std.specs.declared.cmp.Ordering.TheVariants.{Less, Equal, Greater}
use Rattle.std.specs.Prelude.{◌≢◌, Option, Some, None, Ok, Err, if◌then◌else◌}
use Rattle.fsfs_noderev.specs.declared.node_id.NodeId.{NodeId}
use Rattle.fsfs_noderev.specs.declared.node_rev.NodeRev.{NodeRev}
use Rattle.fsfs_revision.specs.Told.{RevisionBytes}
use Rattle.fsfs_revision.specs.Shows.Reading.{DirEntry}
use Rattle.fsfs_revision.specs.Shows.Chains.{own_rev, IsPred, copy_root_of}
use Rattle.fsfs_revision.specs.Shows.IdRules.{root_after}
use Rattle.fsfs_revision.proofs.Earlier.{pred_same, no_pred}
use Rattle.fsfs_sound.specs.Rules.{HasRootOf}
use Rattle.fsfs_sound.specs.Written.{Precedes}
use Rattle.fsfs_verify.specs.Edges.{GoesOnFromEntry}

-- ---- the copy root

module _ (look : RevisionBytes) (dir v : NodeRev) where
  pub root_new : v.predecessor ≡ None → copy_root_of v ≡ copy_root_of dir → HasRootOf look dir v
  root_new none same = record { new = λ nil. same; next = λ u pred. no_pred look v u pred none }

  pub root_next : (u : NodeRev) → IsPred look v u → copy_root_of v ≡ root_after dir u → HasRootOf look dir v
  root_next u pred same = record { new = λ none. no_pred look v u pred none; next = λ w other. same ∙ ap (λ (x : NodeRev). root_after dir x) (pred_same look v u w pred other) }

-- the root after u, by which of the two is older
pub after_copied : (dir u : NodeRev) → own_rev u < (copy_root_of dir).0 → nat_lt (own_rev u) (copy_root_of dir).0 ≡ true → root_after dir u ≡ copy_root_of dir
after_copied dir u less e = rw e refl

pub after_kept : (dir u : NodeRev) → nat_lt (own_rev u) (copy_root_of dir).0 ≡ false → root_after dir u ≡ copy_root_of u
after_kept dir u e = rw e refl

-- a test that fails
pub not_lt : (t e : Bool) → is_lt (cond t Less (cond e Equal Greater)) ≡ false → t ≡ false
not_lt true e h = absurd cc
not_lt false e h = refl

-- ---- what it goes on from

pub goes_on_none : (before : Option DirEntry) (v : NodeRev) → v.predecessor ≡ None → GoesOnFromEntry before v
goes_on_none before v none id is = absurd (let e : (let o : Option NodeId = Some id in o) ≡ None = sym is ∙ none in cc)

pub goes_on_some : (before : DirEntry) (v : NodeRev) (id : NodeId) → v.predecessor ≡ Some id → before.id ≡ id → GoesOnFromEntry (Some before) v
goes_on_some before v id is same other also =
    let e : (let o : Option NodeId = Some id in o) ≡ Some other = sym is ∙ also in
    (before, refl, same ∙ (let one : id ≡ other = cc in one))

pub goes_on_nowhere : (v : NodeRev) (id : NodeId) → v.predecessor ≡ Some id → GoesOnFromEntry None v → ⊥
goes_on_nowhere v id is on = let g = on id is in let e = g.1 in cc

pub goes_on_other : (before : DirEntry) (v : NodeRev) (id : NodeId) → v.predecessor ≡ Some id → (before.id ≡ id → ⊥) → GoesOnFromEntry (Some before) v → ⊥
goes_on_other before v id is other on =
    let g = on id is in
    let same : before ≡ g.0 = (let e = g.1 in cc) in
    other (ap (λ (x : DirEntry). x.id) same ∙ g.2)
