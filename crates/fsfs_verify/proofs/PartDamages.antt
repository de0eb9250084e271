-- What doesn't begin as it has to, what is no copy as it has to be one, and copy parts of nowhere.
use Rattle.std.proofs.Common.{◌≡◌, ◌≤◌, ◌<◌, ◌⊎◌, ◌+◌, ◌++◌, ℕ, List, [], ◌∷◌, refl, sym, ap, subst, ◌∙◌, inl, inr, arith}
use Rattle.std.specs.Prelude.{◌≢◌, Contains, Option, Some, None, Ok, Err}
use Rattle.fsfs_base.specs.Paths.{PathName, Path}
use Rattle.fsfs_base.specs.declared.kind.Kind.TheVariants.{File, Dir}
use Rattle.fsfs_noderev.specs.Ids.{part_value, Old}
use Rattle.fsfs_noderev.specs.declared.node_id.NodeId.{NodeId}
use Rattle.fsfs_noderev.specs.declared.node_id.Part.{Part}
use Rattle.fsfs_noderev.specs.declared.node_rev.CopySource.{CopySource}
use Rattle.fsfs_noderev.specs.declared.node_rev.NodeRev.{NodeRev}
use Rattle.fsfs_revision.specs.Told.{RevisionBytes}
use Rattle.fsfs_revision.specs.declared.damage.DamageKind.TheVariants as what
use Rattle.fsfs_revision.specs.declared.wrong.Wrong.{Wrong}
use Rattle.fsfs_revision.specs.Damage.Damages.{damaged}
use Rattle.fsfs_revision.specs.Shows.Reading.{DirEntry, ChildOf, TextOf, StandsAt, offset_of}
use Rattle.fsfs_revision.specs.Shows.Chains.{own_rev, IsPred, copy_root_of}
use Rattle.fsfs_revision.specs.Shows.IdRules.{IsOf, IsChild, HasSuffix, IsDrawn}
use Rattle.fsfs_revision.proofs.Earlier.{named_same, stands_of_id}
use Rattle.fsfs_verify.specs.AllWritten.{IsBefore, IsChildBefore}
use Rattle.fsfs_verify.specs.Brought.{MayBegin, MayCopy, MayDraw}
use Rattle.fsfs_verify.specs.Copies.{HasSource, IsCopy, IsWrongCopy, IsPartNew, IsWrongPart}
use Rattle.fsfs_verify.specs.Edges.{GoesOnFromEntry, FitsEdge, IsWrongEdge}
use Rattle.fsfs_verify.specs.Walks.{HasEarlierPred, IsMet, AreMet}
use Rattle.fsfs_verify.proofs.Damages.{fit_breaks}
use Rattle.fsfs_verify.proofs.Decisions.{root_or}
use Rattle.fsfs_verify.proofs.PartChoices.{suffix_or, first_or, among_or, goes_on_or}
use Rattle.fsfs_verify.proofs.EarlierPreds.{from_nowhere}
use Rattle.fsfs_sound.specs.Damaged.{BreaksRule, BeginsOnce, BeginsIn, CopyRoot, CopyPart, CopyOwn, CopySourceOf, PartOf, PartTaken, IsDamaged, AtPath, AtText, Behind, Rule}
use Rattle.fsfs_sound.specs.Revisions.{AreSoundBefore}
use Rattle.fsfs_sound.specs.Written.{IsNewAt, Precedes}

pub text_damaged : (look props : RevisionBytes) (r : ℕ) (v : NodeRev) → IsOf look r v → v.kind ≡ File → (w : Wrong) → TextOf look v (Err w) → IsDamaged look props r w
text_damaged look props r v of file w read = AtText v w of file read

module _ (look props : RevisionBytes) (r : ℕ) (begun copied drawn : List Part) (done : List NodeRev) (met : AreMet look r begun copied drawn done) (stands : (u : NodeRev) → Contains done u → (q : Path) × IsNewAt look r q u) where
  met_of : (u : NodeRev) → IsMet look r done u → IsOf look r u
  met_of u (inl b) = let less = b.before in let new = b.new in (b.rev, b.path, omega (arith, less), new.stands)
  met_of u (inr d) = let s = stands u d in let new = s.1 in (r, s.0, omega arith, new.stands)

  module _ (p : Path) (v : NodeRev) (new : IsNewAt look r p v) where
    of : IsOf look r v
    of = (r, p, omega arith, new.stands)

    -- what was met is another, where it wasn't met before
    other : (Contains done v → ⊥) → (u : NodeRev) → IsMet look r done u → v.id ≢ u.id
    other fresh u (inl b) same =
        let revs : own_rev v ≡ own_rev u = ap (λ (id : NodeId). (offset_of id.place).rev) same in
        let mine = new.own in
        let its = b.new in
        let theirs = its.own in
        let less = b.before in
        omega (arith, revs, mine, theirs, less)
    other fresh u (inr d) same =
        let s = stands u d in
        let its = s.1 in
        let one : v ≡ u = named_same look v u (stands_of_id look r p v new.stands) (stands_of_id look r s.0 u its.stands) same in
        fresh (subst (λ (x : NodeRev). Contains done x) (sym one) d)

    -- ---- what begins

    pub begin_breaks : (Contains done v → ⊥) → v.predecessor ≡ None → (MayBegin r begun v.id.node → ⊥) → BreaksRule look r v
    begin_breaks fresh none never = by (suffix_or r v.id.node) (among_or begun v.id.node)
      where
        by : HasSuffix r v.id.node ⊎ (HasSuffix r v.id.node → ⊥) → Contains begun v.id.node ⊎ (Contains begun v.id.node → ⊥) → BreaksRule look r v
        by (inr lacks) h = BeginsIn of none (subst (λ (n : ℕ). HasSuffix n v.id.node → ⊥) (sym new.own) lacks)
        by (inl suffix) (inl there) = let b = met.begun_by v.id.node there in BeginsOnce b.0 of (met_of b.0 b.1) none b.2 (sym b.3) (other fresh b.0 b.1)
        by (inl suffix) (inr first) = absurd (never (record { suffix = suffix; new = first }))

    -- ---- a copy

    module _ (sound : AreSoundBefore look props r) (from : CopySource) (is : v.copy_from ≡ Some from) where
      mine : (part : Part) → (HasSuffix r part → ⊥) → HasSuffix (own_rev v) part → ⊥
      mine part lacks has = lacks (subst (λ (k : ℕ). HasSuffix k part) new.own has)

      -- a part that was drawn
      taken : Contains drawn v.id.copy → BreaksRule look r v
      taken there =
          let d = met.drawn_by v.id.copy there in
          let dir = d.0 in
          let u = d.1 in
          let child = d.2 in
          let both = child.new in
          let at = both.above in
          let its = both.there in
          let less = child.before in
          let placed : IsChild look r child.rev child.path child.name dir u = record { up_to = omega (arith, less); above = at.stands; there = its.stands } in
          PartTaken from child.rev child.path child.name dir u of is placed its.own child.no_copy d.5
          (from_nowhere look props r sound dir u d.4 d.3 (λ drawn_part. drawn_part.no_copy v from of is (sym d.5)))

      -- one that another copy has
      shared : (Contains done v → ⊥) → Contains copied v.id.copy → BreaksRule look r v
      shared fresh there = let c = met.copied_by v.id.copy there in CopyOwn c.0 from c.1 of (met_of c.0 c.2) is c.3 (sym c.4) (other fresh c.0 c.2)

      part_breaks : (Contains done v → ⊥) → (MayCopy r copied drawn v.id.copy → ⊥) → BreaksRule look r v
      part_breaks fresh never = by (first_or v.id.copy) (suffix_or r v.id.copy) (among_or copied v.id.copy) (among_or drawn v.id.copy)
        where
          by : (part_value v.id.copy ≡ Old 0) ⊎ (part_value v.id.copy ≢ Old 0) → HasSuffix r v.id.copy ⊎ (HasSuffix r v.id.copy → ⊥) → Contains copied v.id.copy ⊎ (Contains copied v.id.copy → ⊥)
              → Contains drawn v.id.copy ⊎ (Contains drawn v.id.copy → ⊥) → BreaksRule look r v
          by (inl first) s c d = CopyPart from of is (λ both. both.0 first)
          by (inr other) (inr lacks) c d = CopyPart from of is (λ both. mine v.id.copy lacks both.1)
          by (inr other) (inl suffix) (inl there) d = shared fresh there
          by (inr other) (inl suffix) (inr none) (inl there) = taken there
          by (inr other) (inl suffix) (inr none) (inr undrawn) = absurd (never (record { not_first = other; suffix = suffix; new = none; not_drawn = undrawn }))

      -- its root first, then its part, then its source
      pub copy_breaks : (Contains done v → ⊥) → (IsCopy look r copied drawn v from → ⊥) → BreaksRule look r v
      copy_breaks fresh never = by (root_or (copy_root_of v) (r, v.created_path)) (first_or v.id.copy) (suffix_or r v.id.copy) (among_or copied v.id.copy) (among_or drawn v.id.copy)
        where
          by : (copy_root_of v ≡ (r, v.created_path)) ⊎ (copy_root_of v ≢ (r, v.created_path)) → (part_value v.id.copy ≡ Old 0) ⊎ (part_value v.id.copy ≢ Old 0) → HasSuffix r v.id.copy ⊎ (HasSuffix r v.id.copy → ⊥)
              → Contains copied v.id.copy ⊎ (Contains copied v.id.copy → ⊥) → Contains drawn v.id.copy ⊎ (Contains drawn v.id.copy → ⊥) → BreaksRule look r v
          by (inr other) f s c d = CopyRoot from of is (λ same. other (same ∙ (λ i. (new.own i, v.created_path))))
          by (inl root) (inl first) s c d = part_breaks fresh (λ may. may.not_first first)
          by (inl root) (inr other) (inr lacks) c d = part_breaks fresh (λ may. lacks may.suffix)
          by (inl root) (inr other) (inl suffix) (inl there) d = shared fresh there
          by (inl root) (inr other) (inl suffix) (inr none) (inl there) = taken there
          by (inl root) (inr other) (inl suffix) (inr none) (inr undrawn) =
              CopySourceOf from of is (λ source. never (record { root = root; part = record { not_first = other; suffix = suffix; new = none; not_drawn = undrawn }; source = (source.1, source.2, source.3) }))

      pub copy_damaged : (Contains done v → ⊥) → from.rev ≤ r → (w : Wrong) → IsWrongCopy look r copied drawn v from w → IsDamaged look props r w
      copy_damaged fresh le w (inl read) = AtPath from.rev from.path w le read
      copy_damaged fresh le w (inr h) = subst (λ (x : Wrong). IsDamaged look props r x) (sym h.1) (Rule v (copy_breaks fresh h.0))

    -- ---- in a directory of the revision

    module _ (sound : AreSoundBefore look props r) (q : Path) (name : PathName) (dir : NodeRev) (above : IsNewAt look r q dir) (place : p ≡ q ++ name ∷ []) (no_copy : v.copy_from ≡ None) where
      child : IsChild look r r q name dir v
      child = record { up_to = omega arith; above = above.stands; there = subst (λ (x : Path). StandsAt look r x v) place new.stands }

      -- a new part that may not be drawn, of what goes on from what stood before
      part_of_breaks : HasEarlierPred look r v → IsPartNew look dir v → (MayDraw r copied v.id.copy → ⊥) → BreaksRule look r v
      part_of_breaks earlier fresh never = PartOf r q name dir child new.own no_copy (from_nowhere look props r sound dir v earlier fresh undrawn)
        where
          undrawn : IsDrawn look r (own_rev v) v.id.copy → ⊥
          undrawn d = never (record {
            not_first = d.not_first;
            suffix = subst (λ (n : ℕ). HasSuffix n v.id.copy) new.own d.suffix;
            no_copy = λ there. (let c = met.copied_by v.id.copy there in d.no_copy c.0 c.1 (met_of c.0 c.2) c.3 c.4);
          })

      pub edge_damaged : (pred : Option NodeRev) (before : Option DirEntry) → Precedes look v pred → ((u w : NodeRev) → IsPred look v w → IsPred look dir u → ChildOf look u name (Ok (Some w)) → GoesOnFromEntry before v)
          → (GoesOnFromEntry before v → HasEarlierPred look r v) → (w : Wrong) → IsWrongEdge look r copied dir v before w → IsDamaged look props r w
      edge_damaged pred before precedes there earlier w h = by h.1
        where
          unfit : (FitsEdge look dir v before → ⊥) → BreaksRule look r v
          unfit never = fit_breaks look props r r q name dir v pred before child new.own (new.own ∙ sym above.own) no_copy precedes there never

          part : IsPartNew look dir v → (MayDraw r copied v.id.copy → ⊥) → GoesOnFromEntry before v ⊎ (GoesOnFromEntry before v → ⊥) → BreaksRule look r v
          part fresh never (inl on) = part_of_breaks (earlier on) fresh never
          part fresh never (inr off) = unfit (λ fit. off fit.goes_on)

          so : (d : Wrong) → w ≡ d → IsDamaged look props r d → IsDamaged look props r w
          so d same k = subst (λ (x : Wrong). IsDamaged look props r x) (sym same) k

          by : ((FitsEdge look dir v before → ⊥) × (w ≡ damaged (offset_of v.id.place) what.CopyId)) ⊎ IsWrongPart look r copied dir v w → IsDamaged look props r w
          by (inl never) = so _ never.1 (Rule v (unfit never.0))
          by (inr (inl broken)) = Behind v w of broken
          by (inr (inr k)) = so _ k.2 (Rule v (part k.0 k.1 (goes_on_or before v)))
