-- A text is cut behind the bytes before its first separator.
use Rattle.std.proofs.Common.{◌≡◌, ℕ, zero, suc, ◌+◌, ◌-◌, ◌<◌, ◌≤◌, Bool, true, false, cond, not, eqb, List, [], ◌∷◌, length, take, drop, get_or, Some, None, refl, sym, ap, ◌∙◌, arith}
use Rattle.std.proofs.lemmas.Bool.{ne_eqb, eq-eqb}
use Rattle.std.proofs.lemmas.List.{drop_more, take_all, length-drop}
use Rattle.std.proofs.lemmas.List.Sums.{prefix_len-le-length}
use Rattle.std.proofs.lemmas.List.Folds.{prefix_len-append}
use Rattle.std.proofs.lemmas.Simd.{chunk-drop, length-chunk}
use Rattle.std.specs.Simd.Lanes.{chunk}
use Rattle.fsfs_base.specs.Grammar.Cuts.{before, cut, cut_on}

-- behind some of them, the rest of them
pub before_rest : (c i : ℕ) (text : List ℕ) → i ≤ before c text → before c text ≡ i + before c (drop i text)
before_rest c zero text le = omega arith
before_rest c (suc i) [] le = absurd (omega (arith, le))
before_rest c (suc i) (b ∷ bs) le = go (before_rest c i bs) (eqb b c) le
  where
    go : (i ≤ before c bs → before c bs ≡ i + before c (drop i bs)) → (t : Bool) → suc i ≤ cond (not t) (1 + before c bs) 0 → cond (not t) (1 + before c bs) 0 ≡ suc i + before c (drop i bs)
    go more true le = absurd (omega (arith, le))
    go more false le = omega (arith, more (omega (arith, le)))

module _ (c at : ℕ) (text : List ℕ) (low : at ≤ before c text) where
  -- a block of 16, and what stands behind it
  parts : at + 16 ≤ length text → before c (drop at text) ≡ cond (eqb (before c (chunk at 16 text)) 16) (16 + before c (drop (at + 16) text)) (before c (chunk at 16 text))
  parts room =
      let whole = prefix_len-append (λ b. not (eqb b c)) (chunk at 16 text) (drop (at + 16) text) in
      let long = length-chunk at 16 text room in
      ap (before c) (chunk-drop at 16 text) ∙ (rw long at whole)

  pub block_passed : at + 16 ≤ length text → 16 ≤ before c (chunk at 16 text) → at + 16 ≤ before c text
  block_passed room le =
      let top = prefix_len-le-length (λ b. not (eqb b c)) (chunk at 16 text) in
      let same = eq-eqb (before c (chunk at 16 text)) 16 (omega (arith, le, top, length-chunk at 16 text room)) in
      let all : before c (drop at text) ≡ 16 + before c (drop (at + 16) text) = rw same at (parts room) in
      omega (arith, all, before_rest c at text low)

  pub block_ends : at + 16 ≤ length text → before c (chunk at 16 text) < 16 → before c text ≡ at + before c (chunk at 16 text)
  block_ends room lt =
      let other = ne_eqb (before c (chunk at 16 text)) 16 (λ e. omega (arith, lt, e)) in
      let all : before c (drop at text) ≡ before c (chunk at 16 text) = rw other at (parts room) in
      omega (arith, all, before_rest c at text low)

  -- one byte
  pub byte_passed : at < length text → (get_or text at 0 ≡ c → ⊥) → at + 1 ≤ before c text
  byte_passed lt differs =
      let is = ne_eqb (get_or text at 0) c differs in
      let one = ap (before c) (drop_more text at 0 lt) in
      let all : before c (drop at text) ≡ 1 + before c (drop (at + 1) text) = rw is at one in
      omega (arith, all, before_rest c at text low)

  pub byte_ends : at < length text → get_or text at 0 ≡ c → before c text ≡ at
  byte_ends lt same =
      let is = eq-eqb (get_or text at 0) c same in
      let one = ap (before c) (drop_more text at 0 lt) in
      let all : before c (drop at text) ≡ 0 = rw is at one in
      omega (arith, all, before_rest c at text low)

  pub text_ends : length text ≤ at → before c text ≡ at
  text_ends le = omega (arith, le, low, prefix_len-le-length (λ b. not (eqb b c)) text)

-- the last block
pub last_block : (c : ℕ) (text : List ℕ) (at : ℕ) → at + 16 ≡ length text → at ≤ before c text → before c text ≡ at + before c (chunk at 16 text)
last_block c text at whole low =
    let all : chunk at 16 text ≡ drop at text = take_all 16 (drop at text) (omega (arith, length-drop at text, whole)) in
    before_rest c at text low ∙ ap (λ (s : List ℕ). at + before c s) (sym all)

-- what is cut there
cut_found_at : (c : ℕ) (text : List ℕ) (n : ℕ) → before c text ≡ n → n < length text → cut c text ≡ Some (take n text, drop (suc n) text)
cut_found_at c [] n e lt = absurd (omega (arith, lt))
cut_found_at c (b ∷ bs) n e lt = go (cut_found_at c bs) (eqb b c) n e lt
  where
    go : ((m : ℕ) → before c bs ≡ m → m < length bs → cut c bs ≡ Some (take m bs, drop (suc m) bs)) → (t : Bool) (n : ℕ) → cond (not t) (1 + before c bs) 0 ≡ n → n < length (b ∷ bs) → cond t (Some ([], bs)) (cut_on (b ∷ []) (cut c bs)) ≡ Some (take n (b ∷ bs), drop (suc n) (b ∷ bs))
    go more true zero e lt = refl
    go more true (suc m) e lt = absurd (omega (arith, e))
    go more false zero e lt = absurd (omega (arith, e))
    go more false (suc m) e lt = rw (more m (omega (arith, e)) (omega (arith, lt))) refl

pub cut_there : (c : ℕ) (text : List ℕ) (n : ℕ) → n ≡ before c text → n < length text → Some (take n text, take (length text - (n + 1)) (drop (n + 1) text)) ≡ cut c text
cut_there c text n e lt =
    let next : suc n ≡ n + 1 = omega arith in
    let all : take (length text - (n + 1)) (drop (n + 1) text) ≡ drop (n + 1) text = take_all (length text - (n + 1)) (drop (n + 1) text) (omega (arith, length-drop (n + 1) text)) in
    ap (λ (s : List ℕ). Some (take n text, s)) all ∙ ap (λ (k : ℕ). Some (take n text, drop k text)) (sym next) ∙ sym (cut_found_at c text n (sym e) lt)

pub cut_absent : (c : ℕ) (text : List ℕ) → length text ≤ before c text → cut c text ≡ None
cut_absent c [] le = refl
cut_absent c (b ∷ bs) le = go (cut_absent c bs) (eqb b c) le
  where
    go : (length bs ≤ before c bs → cut c bs ≡ None) → (t : Bool) → length (b ∷ bs) ≤ cond (not t) (1 + before c bs) 0 → cond t (Some ([], bs)) (cut_on (b ∷ []) (cut c bs)) ≡ None
    go more true le = absurd (omega (arith, le))
    go more false le = rw (more (omega (arith, le))) refl
