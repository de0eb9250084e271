-- Ids are read exactly.
use Rattle.std.proofs.Common.{◌≡◌, ℕ, ◌<◌, ◌≤◌, false, cond, eqb, List, [], ◌∷◌, ◌++◌, length, Option, Some, None, refl, sym, ap, subst, ◌∙◌, arith, inl, inr}
use Rattle.std.proofs.lemmas.Option.{same_Some}
use Rattle.std.proofs.lemmas.List.{length-append}
use Rattle.std.proofs.lemmas.Bool.{eqb-true, ne_eqb}
use Rattle.fsfs_base.specs.Grammar.Numeral.{digit, IsPlain}
use Rattle.fsfs_base.specs.Grammar.Cuts.{Lacks, IsCutOf, cut, and_then, parts_at}
use Rattle.fsfs_base.proofs.Readers.{chosen}
use Rattle.fsfs_base.proofs.CutLemmas.{cut_found, cut_again, cut_lacking, two_lack}
use Rattle.fsfs_base.proofs.Spelling.{Spells, bound, numeral_spells, cut_spells, plain_lacks}
use Rattle.fsfs_base.specs.Fields.TxnNames.{txn_name_at}
use Rattle.fsfs_base.proofs.RevNumTexts.{rev_spells, rev_text_lacks}
use Rattle.fsfs_base.proofs.TxnNameTexts.{txn_name_spells}
use Rattle.fsfs_base.specs.Fields.RevNums.{last_rev, IsRev, rev_at}
use Rattle.fsfs_noderev.specs.Ids.{PartValue, New, Old, Made, PlaceValue, At, In, IdValue, IsB36, IsNumber64, IsPart, IsPlace, IsId, b36_at, number_at, old_at, part_at, place_at, id_at}

-- ---- bytes that no id has

-- no digit, and no byte that stands between the parts
pub record IsOutsideIds (c : ℕ) : Type 0 where
  pub above : 36 ≤ digit c
  pub underscore : eqb 95 c ≡ false
  pub dash : eqb 45 c ≡ false
  pub dot : eqb 46 c ≡ false
  pub slash : eqb 47 c ≡ false
  pub r : eqb 114 c ≡ false
  pub t : eqb 116 c ≡ false

b36_lacks : (c : ℕ) → 36 ≤ digit c → (t : List ℕ) (n : ℕ) → IsB36 t n → Lacks c t
b36_lacks c above = plain_lacks 36 170581728179578208255 c above

number_lacks : (limit c : ℕ) → 36 ≤ digit c → (t : List ℕ) (n : ℕ) → IsPlain 10 limit t n → Lacks c t
number_lacks limit c above = plain_lacks 10 limit c (omega (arith, above))

part_lacks : (c : ℕ) → 36 ≤ digit c → eqb 95 c ≡ false → eqb 45 c ≡ false → (t : List ℕ) (p : PartValue) → IsPart t p → Lacks c t
part_lacks c above underscore dash t (New n) w = subst (λ (x : List ℕ). Lacks c x) (sym w.2) (underscore, b36_lacks c above w.0 n w.1)
part_lacks c above underscore dash t (Old n) w = b36_lacks c above t n w
part_lacks c above underscore dash t (Made n rev) w = two_lack c 45 IsB36 IsRev dash (b36_lacks c above) (number_lacks last_rev c above) t (n, rev) w

place_lacks : (c : ℕ) → IsOutsideIds c → (t : List ℕ) (p : PlaceValue) → IsPlace t p → Lacks c t
place_lacks c out t (At rev offset) w =
    subst (λ (x : List ℕ). Lacks c x) (sym w.2) (out.r, two_lack c 47 IsRev IsNumber64 out.slash (number_lacks last_rev c out.above) (number_lacks 18446744073709551615 c out.above) w.0 (rev, offset) w.1)
place_lacks c out t (In base n) w =
    subst (λ (x : List ℕ). Lacks c x) (sym w.2) (out.t, two_lack c 45 IsRev IsB36 out.dash (number_lacks last_rev c out.above) (b36_lacks c out.above) w.0 (base, n) w.1)

pub id_lacks : (c : ℕ) → IsOutsideIds c → (t : List ℕ) (id : IdValue) → IsId t id → Lacks c t
id_lacks c out t id w =
    let part = part_lacks c out.above out.underscore out.dash in
    two_lack c 46 IsPart (IsCutOf 46 IsPart IsPlace) out.dot part (two_lack c 46 IsPart IsPlace out.dot part (place_lacks c out)) t (id.node, (id.copy, id.place)) w

-- ---- parts

pub b36_spells : Spells IsB36 b36_at
b36_spells = numeral_spells 36 170581728179578208255 (omega arith)

old_found : (t : List ℕ) (o : Option (List ℕ × List ℕ)) → cut 45 t ≡ o → (p : PartValue) → old_at t o ≡ Some p → IsPart t p
old_found t None is p e =
    let b = bound (b36_at t) (λ n. Some (Old n)) p e in
    subst (λ (q : PartValue). IsPart t q) (same_Some (Old b.0) p b.2) (b36_spells.found t b.0 b.1)
old_found t (Some q) is p e =
    let b = bound (b36_at q.0) (λ n. and_then (rev_at q.1) (λ r. Some (Made n r))) p e in
    let d = bound (rev_at q.1) (λ r. Some (Made b.0 r)) p b.2 in
    let w = cut_found 45 t q.0 q.1 is in
    subst (λ (x : PartValue). IsPart t x) (same_Some (Made b.0 d.0) p d.2) (q.0, q.1, b36_spells.found q.0 b.0 b.1, rev_spells.found q.1 d.0 d.1, w.parts)

part_found : (t : List ℕ) (p : PartValue) → part_at t ≡ Some p → IsPart t p
unfolding part_at
part_found [] p e = absurd cc
part_found (b ∷ bs) p e = elim (chosen (eqb b 95) (and_then (b36_at bs) (λ n. Some (New n))) (old_at (b ∷ bs) (cut 45 (b ∷ bs))) (Some p) e) [
  | inl w ↦
      let d = bound (b36_at bs) (λ n. Some (New n)) p w.1 in
      subst (λ (q : PartValue). IsPart (b ∷ bs) q) (same_Some (New d.0) p d.2) (bs, b36_spells.found bs d.0 d.1, rw (eqb-true b 95 w.0) refl)
  | inr w ↦ old_found (b ∷ bs) (cut 45 (b ∷ bs)) refl p w.1
]

-- a number's text begins with no underscore
no_mark : (b : ℕ) → digit b < 36 → eqb b 95 ≡ false
no_mark b lt = ne_eqb b 95 (λ s. omega (arith, ap digit s, lt))

part_again : (t : List ℕ) (p : PartValue) → IsPart t p → part_at t ≡ Some p
unfolding part_at
part_again [] (New n) w = let e = w.2 in absurd cc
part_again [] (Old n) w = absurd w.0
part_again [] (Made n rev) w = absurd (omega (arith, ap length w.4, length-append w.0 (45 ∷ w.1)))
part_again (b ∷ bs) (New n) w =
    let parts = w.2 in
    let same : b ≡ 95 = cc in
    let rest : bs ≡ w.0 = cc in
    rw (same, rest, b36_spells.again w.0 n w.1) refl
part_again (b ∷ bs) (Old n) w =
    rw (no_mark b w.0.0.0, cut_lacking 45 (b ∷ bs) (plain_lacks 36 170581728179578208255 45 (omega arith) (b ∷ bs) n w), b36_spells.again (b ∷ bs) n w) refl
part_again (b ∷ bs) (Made n rev) w =
    let e : cut 45 (b ∷ bs) ≡ Some (w.0, w.1) = ap (cut 45) w.4 ∙ cut_again 45 w.0 w.1 (plain_lacks 36 170581728179578208255 45 (omega arith) w.0 n w.2) in
    let old : old_at (b ∷ bs) (cut 45 (b ∷ bs)) ≡ Some (Made n rev) = rw (e, b36_spells.again w.0 n w.2, rev_spells.again w.1 rev w.3) refl in
    rw (first_of_parts b bs w.0 w.1 n w.4 w.2) old
  where
    first_of_parts : (b : ℕ) (bs a rest : List ℕ) (n : ℕ) → (b ∷ bs) ≡ a ++ 45 ∷ rest → IsB36 a n → eqb b 95 ≡ false
    first_of_parts b bs [] rest n e w = absurd w.0
    first_of_parts b bs (d ∷ ds) rest n e w = let same : b ≡ d = cc in rw same (no_mark d w.0.0.0)

part_spells : Spells IsPart part_at
part_spells = record { found = part_found; again = part_again }

-- ---- places and ids

at_spells : Spells (IsCutOf 47 IsRev (IsNumber64)) (parts_at 47 rev_at number_at)
at_spells = cut_spells 47 (rev_text_lacks 47 (omega arith)) rev_spells (numeral_spells 10 18446744073709551615 (omega arith))

place_found : (t : List ℕ) (p : PlaceValue) → place_at t ≡ Some p → IsPlace t p
unfolding place_at
place_found [] p e = absurd cc
place_found (b ∷ bs) p e = elim (chosen (eqb b 114) (and_then (parts_at 47 rev_at number_at bs) (λ q. Some (At q.0 q.1))) (cond (eqb b 116) (and_then (txn_name_at bs) (λ q. Some (In q.0 q.1))) None) (Some p) e) [
  | inl w ↦
      let d = bound (parts_at 47 rev_at number_at bs) (λ q. Some (At q.0 q.1)) p w.1 in
      subst (λ (q : PlaceValue). IsPlace (b ∷ bs) q) (same_Some (At d.0.0 d.0.1) p d.2) (bs, at_spells.found bs d.0 d.1, rw (eqb-true b 114 w.0) refl)
  | inr w ↦ elim (chosen (eqb b 116) (and_then (txn_name_at bs) (λ q. Some (In q.0 q.1))) None (Some p) w.1) [
    | inl v ↦
        let d = bound (txn_name_at bs) (λ q. Some (In q.0 q.1)) p v.1 in
        subst (λ (q : PlaceValue). IsPlace (b ∷ bs) q) (same_Some (In d.0.0 d.0.1) p d.2) (bs, txn_name_spells.found bs d.0 d.1, rw (eqb-true b 116 v.0) refl)
    | inr v ↦ absurd (nothing_there v.1)
  ]
]
  where
    nothing_there : None ≡ Some p → ⊥
    nothing_there e = cc

place_again : (t : List ℕ) (p : PlaceValue) → IsPlace t p → place_at t ≡ Some p
unfolding place_at
place_again t (At rev offset) w = ap place_at w.2 ∙ rw (at_spells.again w.0 (rev, offset) w.1) refl
place_again t (In rev n) w = ap place_at w.2 ∙ rw (txn_name_spells.again w.0 (rev, n) w.1) refl

pub id_spells : Spells IsId id_at
unfolding id_at
id_spells =
    let inner = cut_spells 46 (part_lacks 46 (omega arith) refl refl) part_spells (record { found = place_found; again = place_again }) in
    let outer = cut_spells 46 (part_lacks 46 (omega arith) refl refl) part_spells inner in
    record {
      found = λ text id e.
          let b = bound (parts_at 46 part_at (λ t. parts_at 46 part_at place_at t) text) (λ p. Some (record { node = p.0; copy = p.1.0; place = p.1.1 })) id e in
          subst (λ (q : IdValue). IsId text q) (same_Some (let x : IdValue = record { node = b.0.0; copy = b.0.1.0; place = b.0.1.1 } in x) id b.2) (outer.found text b.0 b.1);
      again = λ text id w. rw (outer.again text (id.node, (id.copy, id.place)) w) refl;
    }
