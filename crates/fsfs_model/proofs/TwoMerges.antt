-- Two merges in turn are one.
use Rattle.std.proofs.Common.{◌≡◌, ℕ, ◌≤◌, true, false, ◌&&◌, List, refl, sym, ◌∙◌, ap, subst, inl, inr, Option, Some, None, arith}
use Rattle.std.proofs.lemmas.Bool.{and_from, false_from_ne_true, and_parts, both_ways, leb-true, le-leb}
use Rattle.std.specs.Prelude.{is_some}
use Rattle.std.specs.Cmp.{both_ways as same_tests}
use borrow.Author.Tests.{ltb-false}
use mathlib.Core.Bool.{false≢true}
use Rattle.fsfs_base.specs.Paths.{Path}
use Rattle.fsfs_tree.specs.Nodes.{Node, TreeFunction}
use Rattle.fsfs_model.specs.declared.flat.mark.Mark.{Mark}
use Rattle.fsfs_model.specs.Flat.Marks.{effects}
use Rattle.fsfs_model.specs.Flat.Landing.{land, landed_at, is_clash, clashes_at, goes_on, held_by_head, touched_by_head, reached}
use Rattle.fsfs_tree.specs.Trees.{AreOrdered}
use Rattle.fsfs_base.proofs.PathLemmas.{covers-refl}
use Rattle.fsfs_model.proofs.Tests.{other_false}
use Rattle.fsfs_model.proofs.Bases.{IsLater, IsOlder}
use Rattle.fsfs_model.proofs.TwiceAt.{twice_at}
use Rattle.fsfs_model.proofs.ClashAt.{IsLaterAt, clash_twice_at, nothing, clash_means}
use Rattle.fsfs_model.proofs.MergeWalk.{Premises, region, go, reached_or, reached_mono, reached_above, Early, quiet_side, goes_base, touched_in_base, touched_up, quiet, untouched, fresh}

-- it does not ask that nothing clashes at the second head, nor what that head is
pub land_twice : (base : ℕ) (a s1 s2 t : TreeFunction) (marks : List Mark) (m n : ℕ) → Premises base a s1 t marks → (p : Path)
    → land s1 s2 (land a s1 t marks m) marks n p ≡ land a s2 t marks n p
land_twice base a s1 s2 t marks m n is p = twice_at n m (effects marks p) (a p) (s1 p) (s2 p) (t p) (region base a s1 t marks is p)

at_path : (base : ℕ) (a s : TreeFunction) → IsLater base a s → AreOrdered s → (p : Path) → IsLaterAt base (a p) (s p)
at_path base a s l o p = record {
  kept = λ n e h. l.kept p p n e h (covers-refl p);
  older = l.older p;
  same_props = l.same_props p;
  ordered = o p;
}

module _ (base h1 : ℕ) (a s1 s2 t : TreeFunction) (marks : List Mark) (m : ℕ) (le : base ≤ h1) (is : Premises base a s1 t marks) (l2 : IsLater h1 s1 s2) (o2 : AreOrdered s2) where
  abbrev t1 : TreeFunction
  t1 = land a s1 t marks m

  -- what the second head holds last_changed h1 it holds as the first head did
  held_as : (q : Path) → goes_on h1 (effects marks q) (s1 q) (s2 q) ≡ true → (w : Node) × (x : Node) × (s2 q ≡ Some w) × (s1 q ≡ Some x) × IsOlder w x × (w.added ≤ h1)
  held_as q h = by (s2 q) refl (and_parts _ _ h).1
    where
      by : (o : Option Node) → s2 q ≡ o → held_by_head h1 o ≡ true → (w : Node) × (x : Node) × (s2 q ≡ Some w) × (s1 q ≡ Some x) × IsOlder w x × (w.added ≤ h1)
      by None e k = absurd (false≢true k)
      by (Some w) e k = let b : w.added ≤ h1 = leb-true w.added h1 k in let x = l2.older q w e b in (w, x.0, e, x.1, x.2, b)

  held_at : (b : ℕ) (o : Option Node) (n : Node) → o ≡ Some n → n.added ≤ b → held_by_head b o ≡ true
  held_at b o n e k = subst (λ v. held_by_head b v ≡ true) (sym e) (le-leb n.added b k)

  born_at : (b : ℕ) (o : Option Node) (n : Node) → o ≡ Some n → held_by_head b o ≡ true → n.added ≤ b
  born_at b o n e h = leb-true n.added b (subst (λ v. held_by_head b v ≡ true) e h)

  -- the three walks
  forth : (q : Path) → go base a s2 marks q ≡ true → go h1 s1 s2 marks q ≡ true
  forth q h = by (s2 q) refl (and_parts _ _ h).1
    where
      by : (o : Option Node) → s2 q ≡ o → held_by_head base o ≡ true → go h1 s1 s2 marks q ≡ true
      by None e k = absurd (false≢true k)
      by (Some w) e k =
          let b : w.added ≤ base = leb-true w.added base k in
          let c : w.added ≤ h1 = omega arith in
          let x = l2.older q w e c in
          and_from _ _ (and_from _ _ (ap is_some x.1) (and_parts _ _ (and_parts _ _ h).0).1) (held_at h1 (s2 q) w e c)

  also : (q : Path) → go base a s2 marks q ≡ true → go base a s1 marks q ≡ true
  also q h =
      let w = held_as q (forth q h) in
      and_from _ _ (and_parts _ _ h).0 (held_at base (s1 q) w.1 w.3 (let b : w.0.added ≤ base = born_at base (s2 q) w.0 w.2 (and_parts _ _ h).1 in omega (arith, w.4.added)))

  back : (q : Path) → go base a s1 marks q ≡ true → go h1 s1 s2 marks q ≡ true → go base a s2 marks q ≡ true
  back q h k =
      let w = held_as q k in
      and_from _ _ (and_parts _ _ h).0 (held_at base (s2 q) w.0 w.2 (let b : w.1.added ≤ base = born_at base (s1 q) w.1 w.3 (and_parts _ _ h).1 in omega (arith, w.4.added)))

  same_reach : (p : Path) → reached (go base a s1 marks) p ≡ true → reached (go base a s2 marks) p ≡ reached (go h1 s1 s2 marks) p
  same_reach p r = same_tests _ _
      (λ k. reached_mono (go base a s2 marks) (go base a s2 marks) (go h1 s1 s2 marks) (λ q h _. forth q h) p k k)
      (λ k. reached_mono (go base a s1 marks) (go h1 s1 s2 marks) (go base a s2 marks) back p r k)

  same_clash : (p : Path) → reached (go base a s1 marks) p ≡ true → clashes_at base (effects marks p) (a p) (s2 p) (t p) ≡ clashes_at h1 (effects marks p) (s1 p) (s2 p) (t1 p)
  same_clash p r = clash_twice_at base h1 le (effects marks p) m (a p) (s1 p) (s2 p) (t p)
      (other_false _ _ (is.clear p) r)
      (quiet base a s1 t marks is p r)
      (λ n. false_from_ne_true _ (λ k. both_ways _ n (touched_in_base base a s1 t marks is p k)))
      (at_path base a s1 is.later is.ordered p)
      (at_path h1 s1 s2 l2 o2 p)

  -- below a path at which the first head's walk stops nothing clashes, from the base or from the first head
  no_clash_below : (p : Path) (e : Early (go base a s1 marks) p) → reached (go h1 s1 s2 marks) p ≡ true → clashes_at h1 (effects marks p) (s1 p) (s2 p) (t1 p) ≡ true → ⊥
  no_clash_below p e r c = by (a e.place) refl
    where
      on : go h1 s1 s2 marks e.place ≡ true
      on = reached_above (go h1 s1 s2 marks) e.place p r e.covered e.below

      -- no mark touches p, and no side lets anything come
      done : (effects marks p).touched ≡ false → (effects marks p).deleted ≡ false → (effects marks p).rewritten ≡ false → (is_some (a p) ≡ false → is_some (t p) ≡ false) → ⊥
      done un g w q =
          let means = clash_means h1 (effects marks p) (s1 p) (s2 p) (t1 p) c un in
          both_ways _ (nothing (effects marks p) m (a p) (t p) g w q) (subst (λ o. is_some (landed_at m (effects marks p) (a p) o (t p)) ≡ true) means.1 means.0)

      by : (o : Option Node) → a e.place ≡ o → ⊥
      by None n =
          let f = fresh base a s1 t marks is e.place p e.covered e.comes n in
          let lacks : is_some (t e.place) ≡ false = other_false _ _ f.3 (goes_base h1 (effects marks e.place) (s1 e.place) (s2 e.place) on) in
          done (false_from_ne_true _ (λ h. both_ways _ f.0 (touched_in_base base a s1 t marks is p h))) f.1 f.2 (λ _. false_from_ne_true _ (λ h. both_ways _ lacks (is.closed_own e.place p e.covered h)))
      by (Some x) n =
          elim (quiet_side base (effects marks e.place) x (s1 e.place) (t e.place)
          (subst (λ o. clashes_at base (effects marks e.place) o (s1 e.place) (t e.place) ≡ false) n (other_false _ _ (is.clear e.place) e.comes))
          (subst (λ o. goes_on base (effects marks e.place) o (s1 e.place) ≡ false) n e.stops)) [
            | inl un ↦ (let f = untouched base a s1 t marks is e.place p e.covered e.comes (ap is_some n) un in
                done (false_from_ne_true _ (λ h. both_ways _ un (touched_up marks e.place p e.covered h))) f.0 f.1 f.2)
            | inr un ↦ both_ways _ e.stops (and_from _ _ (and_from _ _ (ap is_some n) (and_parts _ _ (and_parts _ _ on).0).1) (held_alone (s1 e.place) refl un))
          ]
        where
          held_alone : (o : Option Node) → s1 e.place ≡ o → touched_by_head base o ≡ false → held_by_head base o ≡ true
          held_alone None k h = absurd (false≢true (sym h))
          held_alone (Some v) k h = let o = is.ordered e.place v k in let last_changed : v.last_changed ≤ base = ltb-false base v.last_changed h in le-leb v.added base (omega (arith, o.added, o.props_changed))

pub clash_twice : (base h1 : ℕ) (a s1 s2 t : TreeFunction) (marks : List Mark) (m : ℕ) → base ≤ h1 → Premises base a s1 t marks → IsLater h1 s1 s2 → AreOrdered s2 → (p : Path)
    → is_clash base a s2 t marks p ≡ is_clash h1 s1 s2 (land a s1 t marks m) marks p
clash_twice base h1 a s1 s2 t marks m le is l2 o2 p = elim (reached_or (go base a s1 marks) p) [
  | inl r ↦ λ i. same_reach base h1 a s1 s2 t marks m le is l2 o2 p r i && same_clash base h1 a s1 s2 t marks m le is l2 o2 p r i
  | inr e ↦
      false_from_ne_true _ (λ h. both_ways _ e.stops (also base h1 a s1 s2 t marks m le is l2 o2 e.place (reached_above (go base a s2 marks) e.place p (and_parts _ _ h).0 e.covered e.below)))
      ∙ sym (false_from_ne_true _ (λ h. no_clash_below base h1 a s1 s2 t marks m le is l2 o2 p e (and_parts _ _ h).0 (and_parts _ _ h).1))
]
