-- Whether a part is as a revision may have it, and whether it is among others.
use Rattle.std.proofs.Common.{◌≡◌, ◌<◌, ◌⊎◌, ℕ, zero, suc, List, [], ◌∷◌, length, get_or, refl, ap, inl, inr, arith}
use Rattle.std.specs.Prelude.{◌≢◌, Contains, Option, Some, None}
use Rattle.fsfs_noderev.specs.Ids.{PartValue, part_value, Old}
use Rattle.fsfs_noderev.specs.declared.node_id.NodeId.{NodeId}
use Rattle.fsfs_noderev.specs.declared.node_id.Part.{Part}
use Rattle.fsfs_noderev.specs.declared.node_id.Part.TheVariants as parts
use Rattle.fsfs_noderev.specs.declared.node_rev.NodeRev.{NodeRev}
use Rattle.fsfs_revision.specs.Shows.IdRules.{HasSuffix}
use Rattle.fsfs_revision.specs.Shows.Reading.{DirEntry}
use Rattle.fsfs_verify.specs.Edges.{GoesOnFromEntry}
use Rattle.fsfs_verify.proofs.Decisions.{number_or, part_or, id_or}
use Rattle.fsfs_verify.proofs.EdgeLemmas.{goes_on_none, goes_on_some, goes_on_nowhere, goes_on_other}

pub suffix_or : (rev : ℕ) (part : Part) → HasSuffix rev part ⊎ (HasSuffix rev part → ⊥)
suffix_or rev (parts.Made n made) = number_or made rev
suffix_or rev (parts.Old n) = inl tt
suffix_or rev (parts.New n) = inl tt

pub first_or : (part : Part) → (part_value part ≡ Old 0) ⊎ (part_value part ≢ Old 0)
first_or (parts.Made n made) = inr (λ e. cc)
first_or (parts.New n) = inr (λ e. cc)
first_or (parts.Old n) = by (number_or n.number 0)
  where
    by : (n.number ≡ 0) ⊎ (n.number ≢ 0) → (part_value (parts.Old n) ≡ Old 0) ⊎ (part_value (parts.Old n) ≢ Old 0)
    by (inl same) = inl (ap (λ (k : ℕ). Old k) same)
    by (inr other) = inr (λ e. (let same : n.number ≡ 0 = cc in other same))

among_cons : (x z : Part) (xs : List Part) (k : ℕ) → k < length (x ∷ xs) → get_or (x ∷ xs) k z ≡ z → (x ≡ z) ⊎ Contains xs z
among_cons x z xs zero l e = inl e
among_cons x z xs (suc k) l e = inr (k, omega arith, e)

pub among_or : (xs : List Part) (part : Part) → Contains xs part ⊎ (Contains xs part → ⊥)
among_or [] part = inr (λ c. (let lt = c.1 in omega (arith, lt)))
among_or (x ∷ xs) part = by (part_or x part) (among_or xs part)
  where
    apart : (x ≢ part) → (Contains xs part → ⊥) → (x ≡ part) ⊎ Contains xs part → ⊥
    apart other none (inl same) = other same
    apart other none (inr there) = none there

    by : (x ≡ part) ⊎ (x ≢ part) → Contains xs part ⊎ (Contains xs part → ⊥) → Contains (x ∷ xs) part ⊎ (Contains (x ∷ xs) part → ⊥)
    by (inl same) h = inl (0, omega arith, same)
    by (inr other) (inl there) = inl (suc there.0, (let lt = there.1 in omega (arith, lt)), there.2)
    by (inr other) (inr none) = inr (λ c. apart other none (among_cons x part xs c.0 c.1 c.2))

-- whether it goes on from what an entry names
pub goes_on_or : (before : Option DirEntry) (v : NodeRev) → GoesOnFromEntry before v ⊎ (GoesOnFromEntry before v → ⊥)
goes_on_or before v = by v.predecessor refl before
  where
    from : (id : NodeId) (e : DirEntry) → v.predecessor ≡ Some id → (e.id ≡ id) ⊎ (e.id ≢ id) → GoesOnFromEntry (Some e) v ⊎ (GoesOnFromEntry (Some e) v → ⊥)
    from id e is (inl same) = inl (goes_on_some e v id is same)
    from id e is (inr other) = inr (λ on. goes_on_other e v id is other on)

    by : (o : Option NodeId) → v.predecessor ≡ o → (b : Option DirEntry) → GoesOnFromEntry b v ⊎ (GoesOnFromEntry b v → ⊥)
    by None is b = inl (goes_on_none b v is)
    by (Some id) is None = inr (λ on. goes_on_nowhere v id is on)
    by (Some id) is (Some e) = from id e is (id_or e.id id)
