-- Which passes were joined into which stays in order: where a seat stays of its kin, is split, or takes another in.
use Rattle.std.proofs.Common.{◌≡◌, ◌≢◌, ◌<◌, ◌≤◌, ◌⊎◌, inl, inr, ◌+◌, ℕ, suc, zero, List, [], ◌∷◌, ◌++◌, length, true, false, cond, eqb, ⊎_elim, refl, sym, ap, subst, ◌∙◌, arith, eq-eqb, ne_eqb}
use Rattle.std.specs.Prelude.{◌-◌, ◌/◌, slice_set}
use mathlib.Core.Option.{some, some-injective, some-ne-none}
use mathlib.Core.Logic.{dite}
use native.Mathlib.Decide.{ℕ_discrete}
use lib.ListN.{get_elem?}
use Rattle.atomic_table.proofs.Lists.{at_set, set_else, at_longer}
use Rattle.fsfs_machine.specs.Kept.{IsIn, AreOnce}
use Rattle.fsfs_pass.specs.declared.seats.seat_view.Kin.{Kin}
use Rattle.fsfs_pass.specs.declared.seats.seat_view.SeatView.{SeatView}
use Rattle.fsfs_pass.specs.Seats.{all_parts, alone, is_left}
use Rattle.fsfs_pass.specs.Kinship.{numbers_of, Branch, branch_of, branches, parts_in, Kinship, grown, gone}

-- ---- lists

pub at_end : {A : Type 0} (xs : List A) (a b : A) (j : ℕ) → get_elem? (xs ++ a ∷ []) j ≡ some b → (get_elem? xs j ≡ some b) ⊎ ((j ≡ length xs) × (a ≡ b))
at_end [] a b zero e = inr (refl, some-injective a b e)
at_end [] a b (suc j) e = absurd (some-ne-none b (sym e))
at_end (x ∷ xs) a b zero e = inl e
at_end (x ∷ xs) a b (suc j) e = ⊎_elim (λ k. inl k) (λ k. inr (ap suc k.0, k.1)) (at_end xs a b j e)

pub set_there : {A : Type 0} (xs : List A) (i : ℕ) (a b : A) → get_elem? xs i ≡ some b → get_elem? (slice_set xs i a) i ≡ some a
set_there [] i a b e = absurd (some-ne-none b (sym e))
set_there (x ∷ xs) zero a b e = refl
set_there (x ∷ xs) (suc i) a b e = set_there xs i a b e

pub map_there : (views : List SeatView) (j : ℕ) (v : SeatView) → get_elem? views j ≡ some v → get_elem? (branches views) j ≡ some (branch_of v)
map_there [] j v e = absurd (some-ne-none v (sym e))
map_there (x ∷ xs) zero v e = ap (λ (y : SeatView). some (branch_of y)) (some-injective x v e)
map_there (x ∷ xs) (suc j) v e = map_there xs j v e

pub in_first : (k : ℕ) (xs ys : List ℕ) → IsIn k xs → IsIn k (xs ++ ys)
in_first k [] ys i = absurd i
in_first k (x ∷ xs) ys i = ⊎_elim (λ e. inl e) (λ m. inr (in_first k xs ys m)) i

pub in_second : (k : ℕ) (xs ys : List ℕ) → IsIn k ys → IsIn k (xs ++ ys)
in_second k [] ys i = i
in_second k (x ∷ xs) ys i = inr (in_second k xs ys i)

pub in_either : (k : ℕ) (xs ys : List ℕ) → IsIn k (xs ++ ys) → IsIn k xs ⊎ IsIn k ys
in_either k [] ys i = inr i
in_either k (x ∷ xs) ys i = ⊎_elim (λ e. inl (inl e)) (λ m. ⊎_elim (λ a. inl (inr a)) (λ b. inr b) (in_either k xs ys m)) i

pub once_both : (xs ys : List ℕ) → AreOnce xs → AreOnce ys → ((k : ℕ) → IsIn k xs → IsIn k ys → ⊥) → AreOnce (xs ++ ys)
once_both [] ys a b apart = b
once_both (x ∷ xs) ys a b apart = ((λ i. ⊎_elim (λ m. a.0 m) (λ m. apart x (inl refl) m) (in_either x xs ys i)), once_both xs ys a.1 b (λ k m n. apart k (inr m) n))

parts_set : (bs : List Branch) (i : ℕ) (b c : Branch) → get_elem? bs i ≡ some b → parts_in (slice_set bs i c) + b.parts ≡ parts_in bs + c.parts
parts_set [] i b c e = absurd (some-ne-none b (sym e))
parts_set (x ∷ xs) zero b c e = let same : x.parts ≡ b.parts = ap (λ (y : Branch). y.parts) (some-injective x b e) in omega (arith, same)
parts_set (x ∷ xs) (suc i) b c e = let k = parts_set xs i b c e in omega (arith, k)

parts_end : (bs : List Branch) (c : Branch) → parts_in (bs ++ c ∷ []) ≡ parts_in bs + c.parts
parts_end [] c = omega arith
parts_end (x ∷ xs) c = let k = parts_end xs c in omega (arith, k)

-- one has no more than all together, two neither
parts_of_one : (bs : List Branch) (i : ℕ) (b : Branch) → get_elem? bs i ≡ some b → b.parts ≤ parts_in bs
parts_of_one [] i b e = absurd (some-ne-none b (sym e))
parts_of_one (x ∷ xs) zero b e = let same : x.parts ≡ b.parts = ap (λ (y : Branch). y.parts) (some-injective x b e) in omega (arith, same)
parts_of_one (x ∷ xs) (suc i) b e = let k = parts_of_one xs i b e in omega (arith, k)

pub parts_most : (bs : List Branch) → Kinship bs → (i : ℕ) (b : Branch) → get_elem? bs i ≡ some b → b.parts ≤ all_parts
parts_most bs k i b e = subst (λ n. b.parts ≤ n) k.total (parts_of_one bs i b e)

parts_of_two : (bs : List Branch) (i j : ℕ) (b c : Branch) → get_elem? bs i ≡ some b → get_elem? bs j ≡ some c → i ≢ j → b.parts + c.parts ≤ parts_in bs
parts_of_two [] i j b c e f apart = absurd (some-ne-none b (sym e))
parts_of_two (x ∷ xs) zero zero b c e f apart = absurd (apart refl)
parts_of_two (x ∷ xs) zero (suc j) b c e f apart = let same : x.parts ≡ b.parts = ap (λ (y : Branch). y.parts) (some-injective x b e) in let k = parts_of_one xs j c f in omega (arith, same, k)
parts_of_two (x ∷ xs) (suc i) zero b c e f apart = let same : x.parts ≡ c.parts = ap (λ (y : Branch). y.parts) (some-injective x c f) in let k = parts_of_one xs i b e in omega (arith, same, k)
parts_of_two (x ∷ xs) (suc i) (suc j) b c e f apart = let k = parts_of_two xs i j b c e f (λ s. apart (ap suc s)) in omega (arith, k)

-- ---- the seats stay of their kin

same_branches : (views : List SeatView) (id : ℕ) (me u : SeatView) → get_elem? views id ≡ some me → branch_of u ≡ branch_of me → branches (slice_set views id u) ≡ branches views
same_branches [] id me u e same = refl
same_branches (x ∷ xs) zero me u e same = ap (λ (b : Branch). b ∷ branches xs) (same ∙ sym (ap (λ (v : SeatView). branch_of v) (some-injective x me e)))
same_branches (x ∷ xs) (suc id) me u e same = ap (λ (l : List Branch). branch_of x ∷ l) (same_branches xs id me u e same)

pub kin_stays : (views : List SeatView) (id : ℕ) (me u : SeatView) → get_elem? views id ≡ some me → branch_of u ≡ branch_of me → Kinship (branches views) → Kinship (branches (slice_set views id u))
kin_stays views id me u at same k = subst (λ (l : List Branch). Kinship l) (sym (same_branches views id me u at same)) k

pub same_kin : (u me : SeatView) → u.kin ≡ me.kin → branch_of u ≡ branch_of me
same_kin u me same = ap (λ (c : Kin). (let b : Branch = record { left = is_left c.stage; parts = c.parts; numbers = numbers_of c.joined } in b)) same

-- the first seat
abbrev one : Branch
one = record { left = false; parts = all_parts; numbers = [] }

pub kin_first : (first : SeatView) → first.kin ≡ alone → Kinship (branches (first ∷ []))
kin_first first is = subst (λ (c : Kin). Kinship (record { left = is_left c.stage; parts = c.parts; numbers = numbers_of c.joined } ∷ [])) (sym is) begun
  where
    only : (P : Branch → Type 0) → P one → (j : ℕ) (b : Branch) → get_elem? (one ∷ []) j ≡ some b → P b
    only P p zero b e = subst P (some-injective one b e) p
    only P p (suc j) b e = absurd (some-ne-none b (sym e))

    begun : Kinship (one ∷ [])
    begun = record {
      total = omega arith;
      parts = λ j b e stays. only (λ b. 0 < b.parts) (omega arith) j b e;
      heir = λ k. 0;
      heirs = λ j b e left. absurd (only (λ b. b.left ≡ true → ⊥) (λ no. absurd cc) j b e left);
      joined = λ j b e q i. absurd (only (λ b. IsIn q b.numbers → ⊥) (λ no. no) j b e i);
      once = λ j b e. only (λ b. AreOnce b.numbers) tt j b e;
    }

-- ---- a seat is split

module _ (bs : List Branch) (k : Kinship bs) (id : ℕ) (v : Branch) (at : get_elem? bs id ≡ some v) (stays : v.left ≡ false) (enough : 1 < v.parts) where
  abbrev half : Branch
  half = record v { parts = v.parts - v.parts / 2 }

  abbrev new : Branch
  new = record { left = false; parts = v.parts / 2; numbers = [] }

  abbrev split_in : List Branch
  split_in = slice_set bs id half ++ new ∷ []

  some_half : (n : ℕ) → 1 < n → (0 < n / 2) × (n / 2 < n)
  some_half n more = (omega (arith, more), omega (arith, more))

  -- each seat is there as it was, but for its parts
  forth : (j : ℕ) (b : Branch) → get_elem? bs j ≡ some b → (c : Branch) × (get_elem? split_in j ≡ some c) × (c.left ≡ b.left) × (c.numbers ≡ b.numbers)
  forth j b e = dite (ℕ_discrete j id)
      (λ here. let same : v ≡ b = some-injective v b (sym at ∙ sym (ap (λ n. get_elem? bs n) here) ∙ e) in
      (half, ap (λ n. get_elem? split_in n) here ∙ at_longer (slice_set bs id half) (new ∷ []) id half (set_there bs id half v at), ap (λ (y : Branch). y.left) same, ap (λ (y : Branch). y.numbers) same))
      (λ there. (b, at_longer (slice_set bs id half) (new ∷ []) j b (set_else bs id j half there ∙ e), refl, refl))

  back : (P : Branch → Type 0) (j : ℕ) (b : Branch) → get_elem? split_in j ≡ some b → ((j ≡ id) → P half) → (get_elem? bs j ≡ some b → P b) → P new → P b
  back P j b e here there last = ⊎_elim
      (λ (old : get_elem? (slice_set bs id half) j ≡ some b). ⊎_elim (λ (h : (j ≡ id) × (half ≡ b)). subst P h.1 (here h.0)) (λ (t : (j ≢ id) × (get_elem? bs j ≡ some b)). there t.1) (at_set bs id j half b old))
      (λ (end : (j ≡ length (slice_set bs id half)) × (new ≡ b)). subst P end.1 last) (at_end (slice_set bs id half) new b j e)

  abbrev KeepsHeir : ℕ → Type 0
  KeepsHeir j = (c : Branch) × (get_elem? split_in (k.heir j) ≡ some c) × (c.left ≡ false) × IsIn j c.numbers

  heir_kept : (j : ℕ) (b : Branch) → get_elem? bs j ≡ some b → b.left ≡ true → KeepsHeir j
  heir_kept j b e left = let h = k.heirs j b e left in let f = forth (k.heir j) h.0 h.1 in (f.0, f.1, f.2 ∙ h.2, subst (λ (l : List ℕ). IsIn j l) (sym f.3) h.3)

  abbrev KeepsIn : ℕ → ℕ → Type 0
  KeepsIn j q = (k.heir q ≡ j) × (c : Branch) × (get_elem? split_in q ≡ some c) × (c.left ≡ true)

  kept_in : (j : ℕ) (b : Branch) → get_elem? bs j ≡ some b → (q : ℕ) → IsIn q b.numbers → KeepsIn j q
  kept_in j b e q i = let h = k.joined j b e q i in let f = forth q h.1 h.2 in (h.0, f.0, f.1, f.2 ∙ h.3)

  pub kin_split : Kinship split_in
  kin_split = record {
    total = (let a = parts_end (slice_set bs id half) new in let b = parts_set bs id v half at in let h = (some_half v.parts enough).1 in let n : ℕ = v.parts / 2 in let t = k.total in a ∙ (let e : parts_in (slice_set bs id half) + n ≡ parts_in bs = omega (arith, b, h) in e ∙ t));
    parts = λ j b e. back (λ b. b.left ≡ false → 0 < b.parts) j b e (λ here s. let h = (some_half v.parts enough).1 in omega (arith, h)) (λ old s. k.parts j b old s) (λ s. (some_half v.parts enough).0);
    heir = k.heir;
    heirs = λ j b e. back (λ b. b.left ≡ true → KeepsHeir j) j b e (λ here left. let no : true ≡ false = sym left ∙ stays in absurd cc) (λ old left. heir_kept j b old left) (λ left. absurd cc);
    joined = λ j b e q. back (λ b. IsIn q b.numbers → KeepsIn j q) j b e (λ here i. kept_in j v (ap (λ n. get_elem? bs n) here ∙ at) q i) (λ old i. kept_in j b old q i) (λ i. absurd i);
    once = λ j b e. back (λ b. AreOnce b.numbers) j b e (λ here. k.once id v at) (λ old. k.once j b old) tt;
  }

-- ---- a seat takes another in

module _ (bs : List Branch) (k : Kinship bs) (id other : ℕ) (v z : Branch) (at : get_elem? bs id ≡ some v) (by : get_elem? bs other ≡ some z) (apart : other ≢ id) (sits : v.left ≡ false) (rests : z.left ≡ false) where
  abbrev big : Branch
  big = grown v other z

  abbrev joined_in : List Branch
  joined_in = slice_set (slice_set bs id big) other gone

  at_id : get_elem? joined_in id ≡ some big
  at_id = set_else (slice_set bs id big) other id gone (λ e. apart (sym e)) ∙ set_there bs id big v at

  at_other : get_elem? joined_in other ≡ some gone
  at_other = set_there (slice_set bs id big) other gone z (set_else bs id other big apart ∙ by)

  at_rest : (j : ℕ) → j ≢ id → j ≢ other → get_elem? joined_in j ≡ get_elem? bs j
  at_rest j not_id not_other = set_else (slice_set bs id big) other j gone not_other ∙ set_else bs id j big not_id

  cases : (P : ℕ → Branch → Type 0) (j : ℕ) (b : Branch) → get_elem? joined_in j ≡ some b → P other gone → P id big → (j ≢ id → j ≢ other → get_elem? bs j ≡ some b → P j b) → P j b
  cases P j b e out in_it rest = ⊎_elim
      (λ (o : (j ≡ other) × (gone ≡ b)). subst (λ (y : ℕ × Branch). P y.0 y.1) (λ i. (sym o.0 i, o.1 i)) out)
      (λ (n : (j ≢ other) × (get_elem? (slice_set bs id big) j ≡ some b)). ⊎_elim
      (λ (h : (j ≡ id) × (big ≡ b)). subst (λ (y : ℕ × Branch). P y.0 y.1) (λ i. (sym h.0 i, h.1 i)) in_it)
      (λ (t : (j ≢ id) × (get_elem? bs j ≡ some b)). rest t.0 n.0 t.1)
      (at_set bs id j big b n.1))
      (at_set (slice_set bs id big) other j gone b e)

  -- who has left is neither of the two
  left_not : (q i : ℕ) (c d : Branch) → get_elem? bs q ≡ some c → c.left ≡ true → get_elem? bs i ≡ some d → d.left ≡ false → q ≢ i
  left_not q i c d e left f stays same =
      let s : c ≡ d = some-injective c d (sym e ∙ ap (λ n. get_elem? bs n) same ∙ f) in
      let no : true ≡ false = sym left ∙ ap (λ (y : Branch). y.left) s ∙ stays in absurd cc

  -- the heirs of the second are the first's now, and so is the second
  abbrev heir_on : ℕ → ℕ
  heir_on q = cond (eqb q other) id (cond (eqb (k.heir q) other) id (k.heir q))

  heir_other : heir_on other ≡ id
  heir_other = ap (λ b. cond b id (cond (eqb (k.heir other) other) id (k.heir other))) (eq-eqb other other refl)

  heir_moved : (q : ℕ) → q ≢ other → k.heir q ≡ other → heir_on q ≡ id
  heir_moved q not_it is = ap (λ b. cond b id (cond (eqb (k.heir q) other) id (k.heir q))) (ne_eqb q other not_it) ∙ ap (λ b. cond b id (k.heir q)) (eq-eqb (k.heir q) other is)

  heir_same : (q : ℕ) → q ≢ other → k.heir q ≢ other → heir_on q ≡ k.heir q
  heir_same q not_it isnt = ap (λ b. cond b id (cond (eqb (k.heir q) other) id (k.heir q))) (ne_eqb q other not_it) ∙ ap (λ b. cond b id (k.heir q)) (ne_eqb (k.heir q) other isnt)

  abbrev HasHeir : ℕ → Type 0
  HasHeir j = (c : Branch) × (get_elem? joined_in (heir_on j) ≡ some c) × (c.left ≡ false) × IsIn j c.numbers

  -- it is the first
  heir_is_id : (j : ℕ) → heir_on j ≡ id → IsIn j big.numbers → HasHeir j
  heir_is_id j is i = (big, ap (λ n. get_elem? joined_in n) is ∙ at_id, refl, i)

  heir_of : (j : ℕ) (b : Branch) → j ≢ other → get_elem? bs j ≡ some b → b.left ≡ true → HasHeir j
  heir_of j b not_it e left =
      let h = k.heirs j b e left in
      dite (ℕ_discrete (k.heir j) other)
      (λ is. let same : h.0 ≡ z = some-injective h.0 z (sym h.1 ∙ ap (λ n. get_elem? bs n) is ∙ by) in
      heir_is_id j (heir_moved j not_it is) (in_second j v.numbers (other ∷ z.numbers) (inr (subst (λ (y : Branch). IsIn j y.numbers) same h.3))))
      (λ isnt. dite (ℕ_discrete (k.heir j) id)
      (λ is. let same : h.0 ≡ v = some-injective h.0 v (sym h.1 ∙ ap (λ n. get_elem? bs n) is ∙ at) in
      heir_is_id j (heir_same j not_it isnt ∙ is) (in_first j v.numbers (other ∷ z.numbers) (subst (λ (y : Branch). IsIn j y.numbers) same h.3)))
      (λ else_where. (h.0, ap (λ n. get_elem? joined_in n) (heir_same j not_it isnt) ∙ at_rest (k.heir j) else_where isnt ∙ h.1, h.2, h.3)))

  abbrev IsHeir : ℕ → ℕ → Type 0
  IsHeir j q = (heir_on q ≡ j) × (c : Branch) × (get_elem? joined_in q ≡ some c) × (c.left ≡ true)

  left_still : (q : ℕ) (c : Branch) → get_elem? bs q ≡ some c → c.left ≡ true → (q ≢ other) × (d : Branch) × (get_elem? joined_in q ≡ some d) × (d.left ≡ true)
  left_still q c e left =
      let not_id = left_not q id c v e left at sits in
      let not_other = left_not q other c z e left by rests in
      (not_other, c, at_rest q not_id not_other ∙ e, left)

  of_first : (q : ℕ) → IsIn q v.numbers → IsHeir id q
  of_first q i =
      let h = k.joined id v at q i in
      let l = left_still q h.1 h.2 h.3 in
      (heir_same q l.0 (λ e. apart (sym e ∙ h.0)) ∙ h.0, l.1, l.2, l.3)

  of_second : (q : ℕ) → IsIn q z.numbers → IsHeir id q
  of_second q i =
      let h = k.joined other z by q i in
      let l = left_still q h.1 h.2 h.3 in
      (heir_moved q l.0 h.0, l.1, l.2, l.3)

  of_big : (q : ℕ) → IsIn q big.numbers → IsHeir id q
  of_big q i = ⊎_elim (λ a. of_first q a)
      (λ b. ⊎_elim (λ (e : other ≡ q). subst (λ n. IsHeir id n) e (heir_other, gone, at_other, refl)) (λ c. of_second q c) b)
      (in_either q v.numbers (other ∷ z.numbers) i)

  of_rest : (j : ℕ) (b : Branch) → j ≢ other → get_elem? bs j ≡ some b → (q : ℕ) → IsIn q b.numbers → IsHeir j q
  of_rest j b not_other e q i =
      let h = k.joined j b e q i in
      let l = left_still q h.1 h.2 h.3 in
      (heir_same q l.0 (λ s. not_other (sym h.0 ∙ s)) ∙ h.0, l.1, l.2, l.3)

  once_big : AreOnce big.numbers
  once_big =
      let not_left : (q : ℕ) (c : Branch) → get_elem? bs q ≡ some c → c.left ≡ true → q ≢ other = λ q c e left. left_not q other c z e left by rests in
      once_both v.numbers (other ∷ z.numbers) (k.once id v at)
      ((λ i. let h = k.joined other z by other i in not_left other h.1 h.2 h.3 refl), k.once other z by)
      (λ q a b. ⊎_elim (λ (e : other ≡ q). let h = k.joined id v at q a in not_left q h.1 h.2 h.3 (sym e))
      (λ c. let h = k.joined id v at q a in let g = k.joined other z by q c in apart (sym g.0 ∙ h.0)) b)

  pub kin_joined : Kinship joined_in
  kin_joined = record {
    total = (let a = parts_set (slice_set bs id big) other z gone (set_else bs id other big apart ∙ by) in let b = parts_set bs id v big at in let e : parts_in joined_in ≡ parts_in bs = omega (arith, a, b) in e ∙ k.total);
    parts = λ j b e. cases (λ j b. b.left ≡ false → 0 < b.parts) j b e (λ no. absurd cc) (λ s. let some_part = k.parts id v at sits in omega (arith, some_part)) (λ a o old s. k.parts j b old s);
    heir = heir_on;
    heirs = λ j b e. cases (λ j b. b.left ≡ true → HasHeir j) j b e (λ left. heir_is_id other heir_other (in_second other v.numbers (other ∷ z.numbers) (inl refl))) (λ no. absurd cc) (λ a o old left. heir_of j b o old left);
    joined = λ j b e. cases (λ j b. (q : ℕ) → IsIn q b.numbers → IsHeir j q) j b e (λ q i. absurd i) of_big (λ a o old q i. of_rest j b o old q i);
    once = λ j b e. cases (λ j b. AreOnce b.numbers) j b e tt once_big (λ a o old. k.once j b old);
  }

-- ---- who has all parts is alone

pub only_one : (bs : List Branch) (k : Kinship bs) (id : ℕ) (v : Branch) → get_elem? bs id ≡ some v → v.parts ≡ all_parts → (j : ℕ) (c : Branch) → get_elem? bs j ≡ some c → c.left ≡ false → j ≡ id
only_one bs k id v at all j c f stays = dite (ℕ_discrete j id) (λ is. is)
    (λ no. absurd (let two = parts_of_two bs j id c v f at no in let some_part = k.parts j c f stays in let t = k.total in (let over : c.parts + v.parts ≤ v.parts = subst (λ n. c.parts + v.parts ≤ n) (t ∙ sym all) two in omega (arith, over, some_part))))

pub all_others_left : (bs : List Branch) (k : Kinship bs) (id : ℕ) (v : Branch) → get_elem? bs id ≡ some v → v.parts ≡ all_parts → (q : ℕ) (b : Branch) → get_elem? bs q ≡ some b → (q ≡ id) ⊎ IsIn q v.numbers
all_others_left bs k id v at all q b e = elim b.left as (λ l. b.left ≡ l → (q ≡ id) ⊎ IsIn q v.numbers) [
  | true ↦ λ left.
      let h = k.heirs q b e left in
      let is : k.heir q ≡ id = only_one bs k id v at all (k.heir q) h.0 h.1 h.2 in
      let same : h.0 ≡ v = some-injective h.0 v (sym h.1 ∙ ap (λ n. get_elem? bs n) is ∙ at) in
      inr (subst (λ (y : Branch). IsIn q y.numbers) same h.3)
  | false ↦ λ stays. inl (only_one bs k id v at all q b e stays)
] refl
