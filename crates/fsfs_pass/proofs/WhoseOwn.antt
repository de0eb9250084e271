-- Each revision since the opening is one pass's own: so a pass that knows of all passes knows whose each one is.
use Rattle.std.proofs.Common.{◌≡◌, ◌≢◌, ◌⊎◌, inl, inr, ◌<◌, ◌≤◌, ◌+◌, ◌-◌, ◌==◌, ℕ, suc, zero, List, [], ◌∷◌, length, true, false, cond, ⊎_elim, refl, sym, ap, subst, ◌∙◌, arith}
use Rattle.std.specs.Prelude.{Some, None, slice_get}
use mathlib.Core.Option.{some}
use lib.ListN.{get_elem?}
use Rattle.fsfs_model.specs.Flat.Transactions.{Entry}
use Rattle.fsfs_machine.specs.declared.machine.Pass.{Pass}
use Rattle.fsfs_machine.specs.Machine.{World}
use Rattle.fsfs_machine.specs.Kept.{carried_by, AreMine, AreOfPasses, Whose, IsIn, AreOnce}
use Rattle.fsfs_pass.specs.declared.seats.seat_view.SeatView.{SeatView}
use Rattle.fsfs_pass.specs.Kinship.{numbers_of, own_in, all_own}
use Rattle.fsfs_pass.specs.Tells.{IsOwn}
use Rattle.fsfs_pass.proofs.AsMany.{one_pass}
use Rattle.fsfs_pass.proofs.Kinships.{in_first, in_second, in_either, once_both}

one_entry : (a b : Entry) → Some a ≡ Some b → a ≡ b
one_entry a b e = cc

-- ---- the revisions whose entries carry a number

carried_in : (p r : ℕ) (es : List Entry) (i : ℕ) (e : Entry) → slice_get es i ≡ Some e → e.pass ≡ p → IsIn (r + i) (carried_by p r es)
carried_in p r [] i e at is = let no : None ≡ Some e = at in absurd cc
carried_in p r (x ∷ es) zero e at is =
    let its : x.pass ≡ p = ap (λ (z : Entry). z.pass) (one_entry x e at) ∙ is in
    let yes : (x.pass == p) ≡ true = grind (arith, its) in
    let here : r ≡ r + 0 = omega arith in
    subst (λ b. IsIn (r + 0) (cond b (r ∷ carried_by p (r + 1) es) (carried_by p (r + 1) es))) (sym yes) (inl here)
carried_in p r (x ∷ es) (suc i) e at is =
    let shift : (r + 1) + i ≡ r + suc i = omega arith in
    let rest : IsIn (r + suc i) (carried_by p (r + 1) es) = subst (λ n. IsIn n (carried_by p (r + 1) es)) shift (carried_in p (r + 1) es i e at is) in
    elim (x.pass == p) as (λ b. IsIn (r + suc i) (cond b (r ∷ carried_by p (r + 1) es) (carried_by p (r + 1) es))) [
      | true ↦ inr rest
      | false ↦ rest
    ]

record IsCarried (p r k : ℕ) (es : List Entry) : Type 0 where
  pub place : ℕ
  pub entry : Entry
  pub is : k ≡ r + place
  pub at : slice_get es place ≡ Some entry
  pub by : entry.pass ≡ p

carried_tells : (p r : ℕ) (es : List Entry) (k : ℕ) → IsIn k (carried_by p r es) → IsCarried p r k es
carried_tells p r [] k i = absurd i
carried_tells p r (x ∷ es) k i = elim (x.pass == p) as (λ b. (x.pass == p) ≡ b → IsIn k (cond b (r ∷ carried_by p (r + 1) es) (carried_by p (r + 1) es)) → IsCarried p r k (x ∷ es)) [
  | true ↦ λ yes m. ⊎_elim (λ (e : r ≡ k). record { place = 0; entry = x; is = omega (arith, e); at = refl; by = grind (arith, yes) }) (λ n. further (carried_tells p (r + 1) es k n)) m
  | false ↦ λ apart m. further (carried_tells p (r + 1) es k m)
] refl i
  where
    further : IsCarried p (r + 1) k es → IsCarried p r k (x ∷ es)
    further c = record { place = suc c.place; entry = c.entry; is = (let e : k ≡ (r + 1) + c.place = c.is in omega (arith, e)); at = c.at; by = c.by }

carried_apart : (p q r : ℕ) (es : List Entry) (k : ℕ) → p ≢ q → IsIn k (carried_by p r es) → IsIn k (carried_by q r es) → ⊥
carried_apart p q r es k apart i j =
    let a = carried_tells p r es k i in
    let b = carried_tells q r es k j in
    let same : a.place ≡ b.place = omega (arith, a.is, b.is) in
    let e : a.entry ≡ b.entry = one_entry a.entry b.entry (sym a.at ∙ ap (λ n. slice_get es n) same ∙ b.at) in
    apart (sym a.by ∙ ap (λ (z : Entry). z.pass) e ∙ b.by)

carried_once : (p r : ℕ) (es : List Entry) → AreOnce (carried_by p r es)
carried_once p r [] = tt
carried_once p r (x ∷ es) = elim (x.pass == p) as (λ b. AreOnce (cond b (r ∷ carried_by p (r + 1) es) (carried_by p (r + 1) es))) [
  | true ↦ ((λ i. let c = carried_tells p (r + 1) es r i in absurd (let e : r ≡ (r + 1) + c.place = c.is in omega (arith, e))), carried_once p (r + 1) es)
  | false ↦ carried_once p (r + 1) es
]

mine_in : (o : ℕ) (es : List Entry) (k : ℕ) (xs : List Pass) (j : ℕ) (x : Pass) → AreMine o es k xs → slice_get xs j ≡ Some x → x.mine ≡ carried_by (k + j) o es
mine_in o es k [] j x m at = let no : None ≡ Some x = at in absurd cc
mine_in o es k (y ∷ ys) zero x m at = let none : k ≡ k + 0 = omega arith in ap (λ (z : Pass). z.mine) (sym (one_pass y x at)) ∙ m.0 ∙ ap (λ n. carried_by n o es) none
mine_in o es k (y ∷ ys) (suc j) x m at = let shift : (k + 1) + j ≡ k + suc j = omega arith in mine_in o es (k + 1) ys j x m.1 at ∙ ap (λ n. carried_by n o es) shift

pass_less : (n : ℕ) (es : List Entry) (i : ℕ) (e : Entry) → AreOfPasses n es → slice_get es i ≡ Some e → e.pass < n
pass_less n [] i e a at = let no : None ≡ Some e = at in absurd cc
pass_less n (x ∷ es) zero e a at = subst (λ (z : Entry). z.pass < n) (one_entry x e at) a.0
pass_less n (x ∷ es) (suc i) e a at = pass_less n es i e a.1 at

entry_at : (es : List Entry) (i : ℕ) → i < length es → (e : Entry) × (slice_get es i ≡ Some e)
entry_at [] i less = absurd (omega (arith, less))
entry_at (x ∷ es) zero less = (x, refl)
entry_at (x ∷ es) (suc i) less = entry_at es i (omega (arith, less))

-- ---- those of passes that were joined

lacks : (n : ℕ) (xs : List (ℕ × List ℕ)) → ((i : ℕ) (x : ℕ × List ℕ) → get_elem? xs i ≡ some x → x.0 ≢ n) → IsIn n (numbers_of xs) → ⊥
lacks n [] apart i = i
lacks n (x ∷ xs) apart i = ⊎_elim (λ e. apart 0 x refl e) (λ m. lacks n xs (λ j. apart (suc j)) m) i

module _ (o : ℕ) (es : List Entry) where
  -- each list is that of the pass of its number
  abbrev AreOwn : List (ℕ × List ℕ) → Type 0
  AreOwn xs = (i : ℕ) (x : ℕ × List ℕ) → get_elem? xs i ≡ some x → x.1 ≡ carried_by x.0 o es

  own_tells : (xs : List (ℕ × List ℕ)) → AreOwn xs → (k : ℕ) → IsIn k (own_in xs) → (q : ℕ) × IsIn q (numbers_of xs) × IsIn k (carried_by q o es)
  own_tells [] own k i = absurd i
  own_tells (x ∷ xs) own k i = ⊎_elim (λ a. (x.0, inl refl, subst (λ l. IsIn k l) (own 0 x refl) a)) (λ b. let more = own_tells xs (λ j. own (suc j)) k b in (more.0, inr more.1, more.2)) (in_either k x.1 (own_in xs) i)

  own_has : (xs : List (ℕ × List ℕ)) → AreOwn xs → (k q : ℕ) → IsIn q (numbers_of xs) → IsIn k (carried_by q o es) → IsIn k (own_in xs)
  own_has [] own k q n c = absurd n
  own_has (x ∷ xs) own k q n c = ⊎_elim
      (λ (same : x.0 ≡ q). in_first k x.1 (own_in xs) (subst (λ l. IsIn k l) (sym (own 0 x refl)) (subst (λ p. IsIn k (carried_by p o es)) (sym same) c)))
      (λ more. in_second k x.1 (own_in xs) (own_has xs (λ j. own (suc j)) k q more c)) n

  own_once : (xs : List (ℕ × List ℕ)) → AreOwn xs → AreOnce (numbers_of xs) → AreOnce (own_in xs)
  own_once [] own once = tt
  own_once (x ∷ xs) own once = once_both x.1 (own_in xs) (subst (λ l. AreOnce l) (sym (own 0 x refl)) (carried_once x.0 o es)) (own_once xs (λ j. own (suc j)) once.1)
      (λ k a b. let more = own_tells xs (λ j. own (suc j)) k b in
      carried_apart x.0 more.0 o es k (λ same. once.0 (subst (λ n. IsIn n (numbers_of xs)) (sym same) more.1)) (subst (λ l. IsIn k l) (own 0 x refl) a) more.2)

-- ---- all that a pass knows of

module _ (w : World) (v : SeatView) (whose : Whose w.opening w.history w.since w.passes) (at : slice_get w.passes v.number ≡ Some v.pass) (joined : (i : ℕ) (x : ℕ × List ℕ) → get_elem? v.kin.joined i ≡ some x → IsOwn w v.number x) (once : AreOnce (numbers_of v.kin.joined)) where
  mine_of : (q : ℕ) (x : Pass) → slice_get w.passes q ≡ Some x → x.mine ≡ carried_by q w.opening w.since
  mine_of q x there = let none : 0 + q ≡ q = omega arith in mine_in w.opening w.since 0 w.passes q x whose.mine there ∙ ap (λ n. carried_by n w.opening w.since) none

  mine_is : v.pass.mine ≡ carried_by v.number w.opening w.since
  mine_is = mine_of v.number v.pass at

  are_own : AreOwn w.opening w.since v.kin.joined
  are_own i x e = let j = joined i x e in sym j.mine ∙ mine_of x.0 j.pass j.there

  not_mine : (q : ℕ) → IsIn q (numbers_of v.kin.joined) → v.number ≢ q
  not_mine q i same = lacks v.number v.kin.joined (λ j x e. (joined j x e).apart) (subst (λ n. IsIn n (numbers_of v.kin.joined)) (sym same) i)

  pub all_once : AreOnce (all_own v)
  all_once = once_both v.pass.mine (own_in v.kin.joined) (subst (λ l. AreOnce l) (sym mine_is) (carried_once v.number w.opening w.since)) (own_once w.opening w.since v.kin.joined are_own once)
      (λ k a b. let more = own_tells w.opening w.since v.kin.joined are_own k b in
      carried_apart v.number more.0 w.opening w.since k (not_mine more.0 more.1) (subst (λ l. IsIn k l) mine_is a) more.2)

  pub all_there : ((q : ℕ) → q < length w.passes → (q ≡ v.number) ⊎ IsIn q (numbers_of v.kin.joined)) → (r : ℕ) → w.opening ≤ r → r < length w.history → IsIn r (all_own v)
  all_there alone r from to =
      let count : w.opening + length w.since ≡ length w.history = whose.count in
      let e = entry_at w.since (r - w.opening) (omega (arith, count, from, to)) in
      let back : w.opening + (r - w.opening) ≡ r = omega (arith, from) in
      let here : IsIn r (carried_by e.0.pass w.opening w.since) = subst (λ n. IsIn n (carried_by e.0.pass w.opening w.since)) back (carried_in e.0.pass w.opening w.since (r - w.opening) e.0 e.1 refl) in
      ⊎_elim
      (λ (same : e.0.pass ≡ v.number). in_first r v.pass.mine (own_in v.kin.joined) (subst (λ l. IsIn r l) (sym mine_is) (subst (λ p. IsIn r (carried_by p w.opening w.since)) same here)))
      (λ more. in_second r v.pass.mine (own_in v.kin.joined) (own_has w.opening w.since v.kin.joined are_own r e.0.pass more here))
      (alone e.0.pass (pass_less (length w.passes) w.since (r - w.opening) e.0 whose.carriers e.1))
