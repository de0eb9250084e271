-- Labels have one listing: two lists of the same names, both in order, are one.
use Rattle.std.proofs.Common.{◌≡◌, ℕ, ◌+◌, ◌<◌, List, [], ◌∷◌, Bool, true, false, cond, refl, sym, ap, subst, ◌∙◌, arith}
use Rattle.std.proofs.lemmas.List.Recursion.{is_sum_by}
use Rattle.std.proofs.lemmas.List.Sorted.{sum_by-IsPermutation}
use Rattle.std.proofs.lemmas.Slice.Eq.{bytes_eq-Decides}
use Rattle.std.specs.declared.cmp.Ordering.{Ordering}
use Rattle.std.specs.declared.cmp.Ordering.TheVariants.{Less, Equal, Greater}
use Rattle.std.specs.Ordering.{nat_cmp, is_lt, ordering_reverse}
use Rattle.std.specs.Cmp.{tied_itself}
use Rattle.std.specs.Cmp.Lexicographic.{slice_cmp, nat_list_cmp_total}
use Rattle.std.specs.FinMap.{slice_cmp-IsAntisymmetric, nat_cmp-IsAntisymmetric}
use Rattle.std.specs.List.{sum_by, AllByRecursion}
use Rattle.std.specs.List.Sorted.{IsPermutation}
use Rattle.std.specs.Str.{bytes_eq}
use Rattle.fsfs_disk.specs.Labels.{Label}
use Rattle.fsfs_disk.specs.Transactions.Txns.{names_in, AreTxns}
use Rattle.fsfs_disk.proofs.Listed.{Rising, rising_from}
use Rattle.fsfs_disk.proofs.NameOrder.{is_before}

-- ---- how often a name stands among others

abbrev once : List ℕ → List ℕ → ℕ
once name x = cond (bytes_eq x name) 1 0

abbrev times : List ℕ → List (List ℕ) → ℕ
times name [] = 0
times name (x ∷ xs) = once name x + times name xs

times_sum : (name : List ℕ) (xs : List (List ℕ)) → times name xs ≡ sum_by (once name) xs
times_sum name xs = is_sum_by (times name) (once name) refl (λ x l. refl) xs

times_same : (name : List ℕ) (ls xs ys : List (List ℕ)) → IsPermutation ls xs → IsPermutation ls ys → times name xs ≡ times name ys
times_same name ls xs ys p q =
    times_sum name xs ∙ sum_by-IsPermutation (once name) ls xs p ∙ sym (sum_by-IsPermutation (once name) ls ys q) ∙ sym (times_sum name ys)

at_head : (x : List ℕ) (xs : List (List ℕ)) → 0 < times x (x ∷ xs)
at_head x xs = subst (λ b. 0 < cond b 1 0 + times x xs) (sym ((bytes_eq-Decides x x).1 refl)) (omega arith)

-- what is among those that have P has it
of_times : (P : List ℕ → Type 0) (name : List ℕ) (xs : List (List ℕ)) → 0 < times name xs → AllByRecursion P xs → P name
of_times P name [] some all = absurd (omega arith)
of_times P name (x ∷ xs) some all = by_head (bytes_eq x name) refl some (of_times P name xs)
  where
    by_head : (b : Bool) → bytes_eq x name ≡ b → 0 < cond b 1 0 + times name xs → (0 < times name xs → AllByRecursion P xs → P name) → P name
    by_head true is more rest = subst P ((bytes_eq-Decides x name).0 is) all.0
    by_head false is more rest = rest (omega (arith, more)) all.1

-- ---- two lists in order

itself : (x : List ℕ) → is_before x x ≡ false
itself x = ap is_lt (tied_itself nat_list_cmp_total x)

neither_before : (x y : List ℕ) → is_before x y ≡ false → is_before y x ≡ false → x ≡ y
neither_before x y a b = by_order (slice_cmp nat_cmp x y) refl
  where
    by_order : (o : Ordering) → slice_cmp nat_cmp x y ≡ o → x ≡ y
    by_order Less p = let h : true ≡ false = sym (ap is_lt p) ∙ a in cc
    by_order Equal p = slice_cmp-IsAntisymmetric nat_cmp-IsAntisymmetric x y p
    by_order Greater p =
        let back : slice_cmp nat_cmp y x ≡ Less = nat_list_cmp_total.antisymm y x ∙ ap ordering_reverse p in
        let h : true ≡ false = sym (ap is_lt back) ∙ b in cc

same_rising : (xs ys : List (List ℕ)) → Rising xs → Rising ys → ((name : List ℕ) → times name xs ≡ times name ys) → xs ≡ ys
same_rising [] [] up also same = refl
same_rising [] (y ∷ ys) up also same = absurd (let s : 0 ≡ times y (y ∷ ys) = same y in omega (arith, s, at_head y ys))
same_rising (x ∷ xs) [] up also same = absurd (let s : times x (x ∷ xs) ≡ 0 = same x in omega (arith, s, at_head x xs))
same_rising (x ∷ xs) (y ∷ ys) up also same =
    let here : 0 < times x (y ∷ ys) = subst (λ (n : ℕ). 0 < n) (same x) (at_head x xs) in
    let there : 0 < times y (x ∷ xs) = subst (λ (n : ℕ). 0 < n) (sym (same y)) (at_head y ys) in
    let low : is_before x y ≡ false = of_times (λ z. is_before z y ≡ false) x (y ∷ ys) here (itself y, also.0) in
    let high : is_before y x ≡ false = of_times (λ z. is_before z x ≡ false) y (x ∷ xs) there (itself x, up.0) in
    let head : x ≡ y = neither_before x y low high in
    ap (λ (z : List ℕ). z ∷ xs) head ∙ ap (λ (l : List (List ℕ)). y ∷ l) (same_rising xs ys up.1 also.1 (λ name. left name (same name) (ap (once name) head)))
  where
    left : (name : List ℕ) → once name x + times name xs ≡ once name y + times name ys → once name x ≡ once name y → times name xs ≡ times name ys
    left name all heads = omega (arith, all, heads)

pub one_listing : (labels : List Label) (xs ys : List (List ℕ)) → AreTxns labels xs → AreTxns labels ys → xs ≡ ys
one_listing labels xs ys a b =
    same_rising xs ys (rising_from xs a.ordered) (rising_from ys b.ordered) (λ name. times_same name (names_in labels) xs ys a.all b.all)
