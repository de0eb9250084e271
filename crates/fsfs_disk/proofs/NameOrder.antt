-- Names of transactions stand in the order of their folders' names.
use Rattle.std.proofs.Common.{◌≡◌, ℕ, ◌-◌, ◌<◌, ◌≤◌, List, [], ◌∷◌, ◌++◌, Bool, true, false, cond, codes, ⊎_elim, refl, sym, ap, subst, ◌∙◌, arith, append_assoc, nat_lt}
use Rattle.std.proofs.lemmas.Bool.{cases_Bool, cases_lt, eqb-true, eq-eqb, lt-ltb}
use Rattle.std.proofs.lemmas.Option.{same_Some}
use Rattle.std.specs.Prelude.{◌==◌, Option, Some, None, is_some}
use Rattle.std.specs.declared.cmp.Ordering.{Ordering}
use Rattle.std.specs.declared.cmp.Ordering.TheVariants.{Less, Equal, Greater}
use Rattle.std.specs.Ordering.{nat_cmp, is_lt, ordering_then}
use Rattle.std.specs.Cmp.Lexicographic.{slice_cmp}
use Rattle.fsfs_base.specs.Grammar.Numeral.{digit}
use Rattle.fsfs_base.specs.Grammar.Cuts.{Lacks, cut}
use Rattle.fsfs_base.proofs.CutLemmas.{cut_again, lacks_parts}
use Rattle.fsfs_base.proofs.Spelling.{plain_lacks}
use Rattle.fsfs_base.proofs.RevNumTexts.{rev_text_lacks}
use Rattle.fsfs_base.proofs.TxnNameTexts.{txn_name_spells}
use Rattle.fsfs_base.specs.Fields.TxnNames.{IsTxnName, txn_name_at}
use Rattle.fsfs_disk.specs.Transactions.Txns.{is_name}

abbrev pub is_before : List ℕ → List ℕ → Bool
is_before x y = is_lt (slice_cmp nat_cmp x y)

same_heads : (x y : ℕ) → nat_cmp y x ≡ Equal → y ≡ x
same_heads x y e = by_tests (nat_lt y x) (y == x) refl e
  where
    by_tests : (a b : Bool) → (y == x) ≡ b → cond a Less (cond b Equal Greater) ≡ Equal → y ≡ x
    by_tests true b is h = cc
    by_tests false true is h = eqb-true y x is
    by_tests false false is h = cc

first_low : (c : ℕ) (o : Ordering) → 46 < c → is_lt (ordering_then (nat_cmp 46 c) o) ≡ true
first_low c o low = ap (λ b. is_lt (ordering_then (cond b Less (cond (46 == c) Equal Greater)) o)) (lt-ltb 46 c low)

-- A text that comes before another does so with the same ending behind both, where what goes on behind it is above the ending's first byte.
ends_before : (s a b : List ℕ) → ((c : ℕ) (rest : List ℕ) → a ≡ b ++ c ∷ rest → 46 < c) → is_before b a ≡ true → is_before (b ++ 46 ∷ s) (a ++ 46 ∷ s) ≡ true
ends_before s [] [] on first = cc
ends_before s (x ∷ a) [] on first = first_low x (slice_cmp nat_cmp s (a ++ 46 ∷ s)) (on x a refl)
ends_before s [] (y ∷ b) on first = cc
ends_before s (x ∷ a) (y ∷ b) on first = by_heads (nat_cmp y x) refl (ends_before s a b) first
  where
    by_heads : (o : Ordering) → nat_cmp y x ≡ o → (((c : ℕ) (rest : List ℕ) → a ≡ b ++ c ∷ rest → 46 < c) → is_before b a ≡ true → is_before (b ++ 46 ∷ s) (a ++ 46 ∷ s) ≡ true)
        → is_lt (ordering_then o (slice_cmp nat_cmp b a)) ≡ true → is_lt (ordering_then o (slice_cmp nat_cmp (b ++ 46 ∷ s) (a ++ 46 ∷ s))) ≡ true
    by_heads Less is more h = refl
    by_heads Equal is more h = more (λ c rest e. on c rest (λ i. (sym (same_heads x y is)) i ∷ e i)) h
    by_heads Greater is more h = cc

-- ---- in the grammar

pub named : (text : List ℕ) → is_name text ≡ true → (p : ℕ × ℕ) × IsTxnName text p
named text is = by_reading (txn_name_at text) refl is
  where
    by_reading : (o : Option (ℕ × ℕ)) → txn_name_at text ≡ o → is_some o ≡ true → (p : ℕ × ℕ) × IsTxnName text p
    by_reading None e some = cc
    by_reading (Some p) e some = (p, txn_name_spells.found text p e)

high_digit : (c : ℕ) → c < 48 → digit c ≡ 36
high_digit c low = ap (λ b. cond b 36 (cond (nat_lt c 58) (c - 48) (cond (nat_lt c 97) 36 (cond (nat_lt c 123) (c - 87) 36)))) (lt-ltb c 48 low)

-- what goes on behind a name to another is a digit
goes_on : (a b : List ℕ) → is_name a ≡ true → is_name b ≡ true → (c : ℕ) (rest : List ℕ) → a ≡ b ++ c ∷ rest → 46 < c
goes_on a b is also c rest e = ⊎_elim (λ l. l) (λ low. absurd (no_low low)) (cases_lt 46 c)
  where
    no_low : c ≤ 46 → ⊥
    no_low low =
        let x = (named a is).1 in
        let y = (named b also).1 in
        let first : cut 45 a ≡ Some (x.0, x.1) = ap (cut 45) x.4 ∙ cut_again 45 x.0 x.1 (rev_text_lacks 45 (omega arith) x.0 (named a is).0.0 x.2) in
        let text : a ≡ y.0 ++ 45 ∷ (y.1 ++ c ∷ rest) = e ∙ ap (λ t. t ++ c ∷ rest) y.4 ∙ append_assoc y.0 (45 ∷ y.1) (c ∷ rest) in
        let second : cut 45 a ≡ Some (y.0, y.1 ++ c ∷ rest) = ap (cut 45) text ∙ cut_again 45 y.0 (y.1 ++ c ∷ rest) (rev_text_lacks 45 (omega arith) y.0 (named b also).0.0 y.2) in
        let same : x.1 ≡ y.1 ++ c ∷ rest = ap (λ (p : List ℕ × List ℕ). p.1) (same_Some {A = List ℕ × List ℕ} (x.0, x.1) (y.0, y.1 ++ c ∷ rest) (sym first ∙ second)) in
        let lacks : Lacks c (y.1 ++ c ∷ rest) = subst (Lacks c) same (plain_lacks 36 170581728179578208255 c (omega (arith, high_digit c (omega (arith, low)))) x.1 (named a is).0.1 x.3) in
        let other : (c == c) ≡ false = (lacks_parts c y.1 (c ∷ rest) lacks).1.0 in
        let h : true ≡ false = sym (eq-eqb c c refl) ∙ other in cc

-- names that stand so with their endings stand so
pub order_kept : (a b : List ℕ) → is_name a ≡ true → is_name b ≡ true → is_before (b ++ codes ".txn") (a ++ codes ".txn") ≡ false → is_before b a ≡ false
order_kept a b is also not_before =
    ⊎_elim (λ t. let h : true ≡ false = sym (ends_before (codes "txn") a b (goes_on a b is also) t) ∙ not_before in cc) (λ f. f) (cases_Bool (is_before b a))
