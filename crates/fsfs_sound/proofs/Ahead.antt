-- A copy part tells no revision behind that of a node-revision which has it.
use Rattle.std.proofs.Common.{◌≡◌, ◌≤◌, ◌<◌, ◌++◌, ℕ, zero, suc, [], ◌∷◌, refl, sym, ap, subst, ◌∙◌, arith}
use Rattle.std.specs.Prelude.{Ok, Option, Some, None}
use Rattle.fsfs_base.specs.Paths.{PathName, Path}
use Rattle.fsfs_base.specs.declared.kind.Kind.TheVariants.{Dir}
use Rattle.fsfs_noderev.specs.Ids.{part_value, Old}
use Rattle.fsfs_noderev.specs.declared.node_id.Part.{Part}
use Rattle.fsfs_noderev.specs.declared.node_id.Part.TheVariants as parts
use Rattle.fsfs_noderev.specs.declared.node_rev.CopySource.{CopySource}
use Rattle.fsfs_noderev.specs.declared.node_rev.NodeRev.{NodeRev}
use Rattle.fsfs_revision.specs.Told.{RevisionBytes}
use Rattle.fsfs_revision.specs.Shows.Reading.{ChildOf, StandsAt}
use Rattle.fsfs_revision.specs.Shows.Chains.{own_rev}
use Rattle.fsfs_revision.specs.Shows.IdRules.{HasSuffix, IsOf, IsBehind, Next, Further}
use Rattle.fsfs_revision.proofs.Standing.{for_each}
use Rattle.fsfs_revision.proofs.TreeLaw.{child_home, stands_home}
use Rattle.fsfs_sound.specs.Parts.{IsUpTo, PartsAreNotAhead, WhatIsBehindIsEarlier}
use Rattle.fsfs_sound.specs.Revisions.{IsSoundTree}
use Rattle.fsfs_sound.specs.Rules.{PartFrom, Directory, Before, Drawn}
use Rattle.fsfs_sound.proofs.Ids.{root_rule, wrote}
use Rattle.fsfs_sound.proofs.Shown.{pred_of}

suffix_up_to : (rev : ℕ) (part : Part) → HasSuffix rev part → IsUpTo rev part
suffix_up_to rev (parts.Made n made) is = omega (arith, is)
suffix_up_to rev (parts.Old n) is = tt
suffix_up_to rev (parts.New n) is = tt

first_up_to : (rev : ℕ) (part : Part) → part_value part ≡ Old 0 → IsUpTo rev part
first_up_to rev (parts.Made n made) is = absurd cc
first_up_to rev (parts.Old n) is = tt
first_up_to rev (parts.New n) is = tt

more_up_to : (a b : ℕ) (part : Part) → a ≤ b → IsUpTo a part → IsUpTo b part
more_up_to a b (parts.Made n made) le is = omega (arith, le, is)
more_up_to a b (parts.Old n) le is = tt
more_up_to a b (parts.New n) le is = tt

module _ (look : RevisionBytes) (top : ℕ) (trees : (r : ℕ) → r ≤ top → IsSoundTree look r) where
  pub behind_earlier : {v u : NodeRev} → IsBehind look v u → IsOf look top v → (own_rev u < own_rev v) × IsOf look top u
  behind_earlier (Next v u pred) of = pred_of look top trees v u of pred
  behind_earlier (Further v u w pred behind) of =
      let p = pred_of look top trees v u of pred in
      let b = behind_earlier behind p.1 in
      let less = p.0 in
      let lower = b.0 in
      (omega (arith, less, lower), b.1)

  module _ (r : ℕ) (le : r ≤ top) (before : (v : NodeRev) → own_rev v < r → IsOf look top v → IsUpTo (own_rev v) v.id.copy) where
    down : (p : Path) (name : PathName) (dir v : NodeRev) → StandsAt look r p dir → dir.kind ≡ Dir → ChildOf look dir name (Ok (Some v)) → StandsAt look r (p ++ name ∷ []) v → (own_rev dir ≡ r → IsUpTo r dir.id.copy) → own_rev v ≡ r → IsUpTo r v.id.copy
    down p name dir v at kind child there above own = by v.copy_from refl
      where
        of : IsOf look top v
        of = (r, p ++ name ∷ [], le, there)

        mine : own_rev dir ≡ r
        mine = let under = (child_home look dir v name child).1 in let most = (stands_home look r p dir at).1 in omega (arith, own, under, most)

        from : PartFrom look r dir v → IsUpTo r v.id.copy
        from (Directory e) = subst (λ (x : Part). IsUpTo r x) (sym e) (above mine)
        from (Before u b e) =
            let earlier = behind_earlier b of in
            let less = earlier.0 in
            subst (λ (x : Part). IsUpTo r x) (sym e) (more_up_to (own_rev u) r u.id.copy (omega (arith, less, own)) (before u (omega (arith, less, own)) earlier.1))
        from (Drawn d) = suffix_up_to r v.id.copy (subst (λ (n : ℕ). HasSuffix n v.id.copy) own d.suffix)

        by : (o : Option CopySource) → v.copy_from ≡ o → IsUpTo r v.id.copy
        by (Some source) is = suffix_up_to r v.id.copy (((trees r le).nodes (p ++ name ∷ []) v (record { stands = there; own = own })).copy source is).suffix
        by None is = from ((trees r le).parts r p name dir v (omega arith) (record { above = record { stands = at; own = mine }; there = record { stands = there; own = own } }) is)

    at_rev : (p : Path) (v : NodeRev) → StandsAt look r p v → own_rev v ≡ r → IsUpTo r v.id.copy
    at_rev p v at = for_each look r (λ q x. own_rev x ≡ r → IsUpTo r x.id.copy) (λ q name dir x here kind child there above. down q name dir x here kind child there above)
        (λ x root own. first_up_to r x.id.copy (root_rule look top trees r x le root).copy) p v at

  below : (n : ℕ) (v : NodeRev) → own_rev v < n → IsOf look top v → IsUpTo (own_rev v) v.id.copy
  below zero v less of = absurd (omega (arith, less))
  below (suc n) v less of =
      let w = wrote look top trees v of in
      at_rev (own_rev v) w.up_to (λ u lower up. below n u (omega (arith, lower, less)) up) w.path v w.stands refl

pub not_ahead : PartsAreNotAhead
not_ahead look top trees v of = below look top trees (suc (own_rev v)) v (omega arith) of

pub behind_is_earlier : WhatIsBehindIsEarlier
behind_is_earlier look top trees v u of behind = behind_earlier look top trees behind of
