-- Representations are read exactly.
use Rattle.std.proofs.Common.{◌≡◌, ℕ, zero, suc, ◌<◌, ◌/◌, ◌%◌, Bool, true, false, cond, eqb, List, [], ◌∷◌, Option, Some, None, Result, Ok, Err, refl, sym, ap, subst, ◌∙◌, arith, inl, inr}
use Rattle.std.proofs.lemmas.Option.{same_Some}
use Rattle.std.specs.Prelude.{codes}
use Rattle.std.specs.List.{list_any}
use Rattle.std.specs.Str.{bytes_eq}
use Rattle.std.proofs.lemmas.Slice.Eq.{bytes_eq-Decides}
use Rattle.std.proofs.lemmas.Bool.{eqb-true, cases_lt}
use Rattle.std.specs.Prelude.{slice_index}
use Rattle.hex.specs.Hex.{IsBytes, lower_digits, encode_with, encode_lower, decode_sized}
use Rattle.hex.specs.declared.error.FromHexError.{FromHexError}
use Rattle.fsfs_base.specs.Grammar.Numeral.{IsPlain}
use Rattle.fsfs_base.specs.Grammar.Cuts.{Lacks, cut, and_then, parts_at}
use Rattle.fsfs_base.proofs.Readers.{chosen}
use Rattle.fsfs_base.proofs.CutLemmas.{cut_found, cut_again, lacks_from, cut_lacking}
use Rattle.fsfs_base.proofs.Spelling.{Spells, bound, numeral_spells, cut_spells, plain_lacks}
use Rattle.fsfs_base.specs.Fields.Digests.{is_capital, IsDigestText}
use Rattle.fsfs_base.specs.Fields.TxnNames.{IsTxnName, txn_name_at}
use Rattle.fsfs_base.proofs.DigestTexts.{digest_found, digest_again}
use Rattle.fsfs_base.proofs.RevNumTexts.{rev_spells, rev_text_lacks}
use Rattle.fsfs_base.proofs.TxnNameTexts.{txn_name_spells}
use Rattle.fsfs_base.specs.Fields.RevNums.{last_rev, IsRev, rev_at}
use Rattle.fsfs_noderev.specs.Ids.{IsNumber64, b36_at, number_at}
use Rattle.fsfs_noderev.specs.Reps.{UniquifierValue, RepValue, ContentsValue, Own, At, IsRevOrNone, IsMarked, IsUnique, AreDigests, IsRep, AreContents, rev_or_none_at, result_ok, digest_at, marked_at, unique_at, split_digests, digests_at, rep_at, contents_at}
use Rattle.fsfs_noderev.proofs.IdTexts.{b36_spells}

pub number_spells : Spells IsNumber64 number_at
number_spells = numeral_spells 10 18446744073709551615 (omega arith)

-- ---- digests

digest_at_found : (n : ℕ) (text bytes : List ℕ) → digest_at n text ≡ Some bytes → IsDigestText n text bytes
unfolding digest_at
digest_at_found n text bytes e = elim (chosen (list_any is_capital text) None (result_ok (decode_sized text n)) (Some bytes) e) [
  | inl w ↦ absurd cc
  | inr w ↦ digest_found n text bytes w.0 (ok (decode_sized text n) w.1)
]
  where
    ok : (r : Result (List ℕ) FromHexError) → result_ok r ≡ Some bytes → r ≡ Ok bytes
    ok (Ok y) e = ap (λ (z : List ℕ). Ok z) (same_Some y bytes e)
    ok (Err d) e = absurd cc

digest_at_again : (n : ℕ) (text bytes : List ℕ) → IsDigestText n text bytes → digest_at n text ≡ Some bytes
unfolding digest_at
digest_at_again n text bytes w = let d = digest_again n text bytes w in rw (d.0, d.1) refl

pub digest_spells : (n : ℕ) → Spells (IsDigestText n) (digest_at n)
digest_spells n = record { found = digest_at_found n; again = digest_at_again n }

-- none of the first digits is c
abbrev first_lack : ℕ → ℕ → Bool
first_lack c zero = true
first_lack c (suc n) = cond (eqb (slice_index lower_digits n) c) false (first_lack c n)

lack_at : (c n v : ℕ) → first_lack c n ≡ true → v < n → eqb (slice_index lower_digits v) c ≡ false
lack_at c zero v h lt = absurd (omega (arith, lt))
lack_at c (suc n) v h lt = go (lack_at c n v) (eqb (slice_index lower_digits n) c) refl h
  where
    go : (first_lack c n ≡ true → v < n → eqb (slice_index lower_digits v) c ≡ false) → (b : Bool) → eqb (slice_index lower_digits n) c ≡ b → cond b false (first_lack c n) ≡ true → eqb (slice_index lower_digits v) c ≡ false
    go more true e h = absurd cc
    go more false e h = elim (cases_lt v n) [
      | inl below ↦ more h below
      | inr top ↦ let same : v ≡ n = omega (arith, lt, top) in rw same e
    ]

encode_lacks : (c : ℕ) → first_lack c 16 ≡ true → (bytes : List ℕ) → IsBytes bytes → Lacks c (encode_lower bytes)
unfolding encode_with
encode_lacks c ok [] is = tt
encode_lacks c ok (b ∷ bytes) is =
    let fits : b < 256 = is 0 in
    (lack_at c 16 (b / 16) ok (omega (arith, fits)), (lack_at c 16 (b % 16) ok (omega arith), encode_lacks c ok bytes (λ k. is (suc k))))

pub digest_lacks : (n c : ℕ) → first_lack c 16 ≡ true → (text bytes : List ℕ) → IsDigestText n text bytes → Lacks c text
digest_lacks n c ok text bytes w = subst (λ (t : List ℕ). Lacks c t) (sym w.text_is) (encode_lacks c ok bytes w.bytes_are)

-- ---- a revision or none

rev_or_none_found : (text : List ℕ) (o : Option ℕ) → rev_or_none_at text ≡ Some o → IsRevOrNone text o
rev_or_none_found text o e = elim (chosen (bytes_eq text (codes "-1")) (Some None) (and_then (rev_at text) (λ rev. Some (Some rev))) (Some o) e) [
  | inl w ↦ subst (λ (q : Option ℕ). IsRevOrNone text q) (same_Some {A = Option ℕ} None o w.1) ((bytes_eq-Decides text (codes "-1")).0 w.0)
  | inr w ↦
      let d = bound (rev_at text) (λ rev. Some (Some rev)) o w.1 in
      subst (λ (q : Option ℕ). IsRevOrNone text q) (same_Some {A = Option ℕ} (Some d.0) o d.2) (rev_spells.found text d.0 d.1)
]

-- a number is not `-1`
no_number : (limit n : ℕ) → ¬ IsPlain 10 limit (codes "-1") n
no_number limit n w = omega (arith, w.0.0.0)

rev_or_none_again : (text : List ℕ) (o : Option ℕ) → IsRevOrNone text o → rev_or_none_at text ≡ Some o
rev_or_none_again text None w = rw ((bytes_eq-Decides text (codes "-1")).1 w) refl
rev_or_none_again text (Some rev) w = go (bytes_eq text (codes "-1")) refl
  where
    go : (b : Bool) → bytes_eq text (codes "-1") ≡ b → cond b (Some None) (and_then (rev_at text) (λ rev. Some (Some rev))) ≡ Some (Some rev)
    go true e = absurd (no_number last_rev rev (subst (λ (t : List ℕ). IsRev t rev) ((bytes_eq-Decides text (codes "-1")).0 e) w))
    go false e = rw (rev_spells.again text rev w) refl

pub rev_or_none_spells : Spells IsRevOrNone rev_or_none_at
rev_or_none_spells = record { found = rev_or_none_found; again = rev_or_none_again }

pub rev_or_none_lacks : (text : List ℕ) (o : Option ℕ) → IsRevOrNone text o → Lacks 32 text
rev_or_none_lacks text None w = subst (λ (t : List ℕ). Lacks 32 t) (sym w) (refl, (refl, tt))
rev_or_none_lacks text (Some rev) w = rev_text_lacks 32 (omega arith) text rev w

-- ---- uniquifiers

marked_found : (text : List ℕ) (n : ℕ) → marked_at text ≡ Some n → IsMarked text n
unfolding marked_at
marked_found [] n e = absurd cc
marked_found (b ∷ bs) n e = elim (chosen (eqb b 95) (b36_at bs) None (Some n) e) [
  | inl w ↦ (bs, b36_spells.found bs n w.1, rw (eqb-true b 95 w.0) refl)
  | inr w ↦ absurd cc
]

marked_again : (text : List ℕ) (n : ℕ) → IsMarked text n → marked_at text ≡ Some n
unfolding marked_at
marked_again text n w = ap marked_at w.2 ∙ b36_spells.again w.0 n w.1

txn_lacks : (text : List ℕ) (p : ℕ × ℕ) → IsTxnName text p → Lacks 47 text
txn_lacks text p w =
    subst (λ (t : List ℕ). Lacks 47 t) (sym w.4) (lacks_from 47 w.0 (45 ∷ w.1) (rev_text_lacks 47 (omega arith) w.0 p.0 w.2) (refl, plain_lacks 36 170581728179578208255 47 (omega arith) w.1 p.1 w.3))

unique_spells : Spells IsUnique unique_at
unfolding unique_at
unique_spells =
    let inner = cut_spells 47 txn_lacks txn_name_spells (record { found = marked_found; again = marked_again }) in
    let outer = cut_spells 32 (digest_lacks 20 32 refl) (digest_spells 20) inner in
    record {
      found = λ text u e.
          let b = bound (parts_at 32 (digest_at 20) (λ t. parts_at 47 txn_name_at marked_at t) text) (λ p. Some (record { sha1 = p.0; base = p.1.0.0; txn = p.1.0.1; number = p.1.1 })) u e in
          subst (λ (q : UniquifierValue). IsUnique text q) (same_Some (let x : UniquifierValue = record { sha1 = b.0.0; base = b.0.1.0.0; txn = b.0.1.0.1; number = b.0.1.1 } in x) u b.2) (outer.found text b.0 b.1);
      again = λ text u w. rw (outer.again text (u.sha1, ((u.base, u.txn), u.number)) w) refl;
    }

-- ---- the MD5, and what stands behind it

abbrev Digests : Type 0
Digests = List ℕ × Option UniquifierValue

digests_found : (text : List ℕ) (d : Digests) → digests_at text ≡ Some d → AreDigests text d
unfolding digests_at
digests_found text d e = go (cut 32 text) refl e
  where
    go : (o : Option (List ℕ × List ℕ)) → cut 32 text ≡ o → split_digests text o ≡ Some d → AreDigests text d
    go None is e =
        let b = bound (digest_at 16 text) (λ md5. Some (md5, None)) d e in
        subst (λ (q : Digests). AreDigests text q) (same_Some {A = Digests} (b.0, None) d b.2) (digest_at_found 16 text b.0 b.1)
    go (Some p) is e =
        let b = bound (digest_at 16 p.0) (λ md5. and_then (unique_at p.1) (λ u. Some (md5, Some u))) d e in
        let u = bound (unique_at p.1) (λ u. Some (b.0, Some u)) d b.2 in
        let w = cut_found 32 text p.0 p.1 is in
        subst (λ (q : Digests). AreDigests text q) (same_Some {A = Digests} (b.0, Some u.0) d u.2) (p.0, p.1, digest_at_found 16 p.0 b.0 b.1, unique_spells.found p.1 u.0 u.1, w.parts)

digests_again : (text : List ℕ) (d : Digests) → AreDigests text d → digests_at text ≡ Some d
unfolding digests_at
digests_again text (md5, None) w = rw (cut_lacking 32 text (digest_lacks 16 32 refl text md5 w), digest_at_again 16 text md5 w) refl
digests_again text (md5, Some u) w =
    let e : cut 32 text ≡ Some (w.0, w.1) = ap (cut 32) w.4 ∙ cut_again 32 w.0 w.1 (digest_lacks 16 32 refl w.0 md5 w.2) in
    rw (e, digest_at_again 16 w.0 md5 w.2, unique_spells.again w.1 u w.3) refl

-- ---- representations

number_lacks : (text : List ℕ) (n : ℕ) → IsNumber64 text n → Lacks 32 text
number_lacks = plain_lacks 10 18446744073709551615 32 (omega arith)

pub rep_spells : Spells IsRep rep_at
unfolding rep_at
rep_spells =
    let one = cut_spells 32 number_lacks number_spells (record { found = digests_found; again = digests_again }) in
    let two = cut_spells 32 number_lacks number_spells one in
    let three = cut_spells 32 number_lacks number_spells two in
    let four = cut_spells 32 rev_or_none_lacks rev_or_none_spells three in
    record {
      found = λ text r e.
          let b = bound (parts_at 32 rev_or_none_at (λ t. parts_at 32 number_at (λ t. parts_at 32 number_at (λ t. parts_at 32 number_at digests_at t) t) t) text)
          (λ p. Some (record { rev = p.0; offset = p.1.0; length = p.1.1.0; size = p.1.1.1.0; md5 = p.1.1.1.1.0; unique = p.1.1.1.1.1 })) r e in
          subst (λ (q : RepValue). IsRep text q) (same_Some (let x : RepValue = record { rev = b.0.0; offset = b.0.1.0; length = b.0.1.1.0; size = b.0.1.1.1.0; md5 = b.0.1.1.1.1.0; unique = b.0.1.1.1.1.1 } in x) r b.2) (four.found text b.0 b.1);
      again = λ text r w. rw (four.again text (r.rev, (r.offset, (r.length, (r.size, (r.md5, r.unique))))) w) refl;
    }

contents_found : (text : List ℕ) (k : ContentsValue) → contents_at text ≡ Some k → AreContents text k
unfolding contents_at
contents_found text k e = elim (chosen (bytes_eq text (codes "-1")) (Some Own) (and_then (rep_at text) (λ r. Some (At r))) (Some k) e) [
  | inl w ↦ subst (λ (q : ContentsValue). AreContents text q) (same_Some Own k w.1) ((bytes_eq-Decides text (codes "-1")).0 w.0)
  | inr w ↦
      let d = bound (rep_at text) (λ r. Some (At r)) k w.1 in
      subst (λ (q : ContentsValue). AreContents text q) (same_Some (At d.0) k d.2) (rep_spells.found text d.0 d.1)
]

contents_again : (text : List ℕ) (k : ContentsValue) → AreContents text k → contents_at text ≡ Some k
unfolding contents_at
contents_again text Own w = rw ((bytes_eq-Decides text (codes "-1")).1 w) refl
contents_again text (At r) w = go (bytes_eq text (codes "-1")) refl
  where
    -- a representation has a space
    spaced : (text : List ℕ) → IsRep text r → text ≡ codes "-1" → ⊥
    spaced text w e =
        let cut_is : cut 32 text ≡ Some (w.0, w.1) = ap (cut 32) w.4 ∙ cut_again 32 w.0 w.1 (rev_or_none_lacks w.0 r.rev w.2) in
        let none : cut 32 text ≡ None = ap (cut 32) e in
        let both = sym cut_is ∙ none in absurd cc

    go : (b : Bool) → bytes_eq text (codes "-1") ≡ b → cond b (Some Own) (and_then (rep_at text) (λ r. Some (At r))) ≡ Some (At r)
    go true e = absurd (spaced text w ((bytes_eq-Decides text (codes "-1")).0 e))
    go false e = rw (rep_spells.again text r w) refl

pub contents_spells : Spells AreContents contents_at
contents_spells = record { found = contents_found; again = contents_again }
