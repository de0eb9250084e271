-- A buffer that is filled piece by piece.
use Rattle.std.proofs.Common.{◌≡◌, ℕ, List, [], ◌∷◌, ◌++◌, ◌+◌, ◌-◌, take, drop, length, refl, sym, ap, subst, ◌∙◌, arith}
use Rattle.std.proofs.Math.Seq.{take-add}
use Rattle.std.proofs.lemmas.List.{drop-drop, drop_at, length-drop, length-take, take_all, take_at, append-nil, append_assoc}
use Rattle.std.specs.Prelude.{◌≤◌, Option, Some, None, IfSome}
use borrow.Rule.Slice.PartMut.{put_mid}
use Rattle.fsfs_folders.specs.System.CallRecord.{CallRecord, contents_now}

none_left : (xs : List ℕ) → length xs ≡ 0 → xs ≡ []
none_left [] e = refl
none_left (x ∷ xs) e = absurd (omega (arith, e))

module _ (b : List ℕ) (offset filled n : ℕ) (start now part : List ℕ) (within : filled ≤ length now) (alike : length now ≡ length start) (inside : filled ≤ length b - offset) (is : now ≡ take filled (drop offset b) ++ drop filled start) where
  front_length : length (take filled (drop offset b)) ≡ filled
  front_length = omega (arith, length-take filled (drop offset b), length-drop offset b, inside)

  front : take filled now ≡ take filled (drop offset b)
  front = ap (take filled) is ∙ take_at (take filled (drop offset b)) (drop filled start) filled front_length

  behind : drop filled now ≡ drop filled start
  behind = ap (drop filled) is ∙ drop_at (take filled (drop offset b)) (drop filled start) filled front_length

  nothing : drop (length now - filled) (drop filled now) ≡ []
  nothing = none_left (drop (length now - filled) (drop filled now)) (omega (arith, length-drop (length now - filled) (drop filled now), length-drop filled now))

  all_behind : take (length now - filled) (drop filled now) ≡ drop filled start
  all_behind = take_all (length now - filled) (drop filled now) (omega (arith, length-drop filled now)) ∙ behind

  pub fill_more : n ≤ length b - (offset + filled) → part ≡ take n (drop (offset + filled) b) ++ drop n (take (length now - filled) (drop filled now))
      → (filled + n ≤ length b - offset) × (put_mid filled (length now - filled) now part ≡ take (filled + n) (drop offset b) ++ drop (filled + n) start)
  fill_more few read = (
    omega (arith, few, inside),
    ap (λ r. take filled now ++ (part ++ r)) nothing ∙ ap (λ p. take filled now ++ p) (append-nil part) ∙ ap (λ f. f ++ part) front
        ∙ ap (λ p. take filled (drop offset b) ++ p) (read ∙ ap (λ d. take n d ++ drop n (take (length now - filled) (drop filled now))) (sym (drop-drop filled offset b)) ∙ ap (λ d. take n (drop filled (drop offset b)) ++ drop n d) all_behind
        ∙ ap (λ d. take n (drop filled (drop offset b)) ++ d) (drop-drop n filled start))
        ∙ sym (append_assoc (take filled (drop offset b)) (take n (drop filled (drop offset b))) (drop (filled + n) start))
        ∙ ap (λ f. f ++ drop (filled + n) start) (sym (take-add filled n (drop offset b))),
  )

-- the same of what calls tell
pub filled_more : (number offset filled n from : ℕ) (start now part : List ℕ) (old mid : Option CallRecord) → mid ≡ old → from ≡ offset + filled → filled ≤ length now → length now ≡ length start
    → IfSome old (λ r. (filled ≤ length (contents_now r number).bytes - offset) × (now ≡ take filled (drop offset (contents_now r number).bytes) ++ drop filled start))
    → IfSome mid (λ r. part ≡ take n (drop from (contents_now r number).bytes) ++ drop n (take (length now - filled) (drop filled now)))
    → IfSome mid (λ r. n ≤ length (contents_now r number).bytes - from)
    → IfSome old (λ r. (filled + n ≤ length (contents_now r number).bytes - offset) × (put_mid filled (length now - filled) now part ≡ take (filled + n) (drop offset (contents_now r number).bytes) ++ drop (filled + n) start))
filled_more number offset filled n from start now part None mid same at within alike so read few = tt
filled_more number offset filled n from start now part (Some r) mid same at within alike so read few =
    let b : List ℕ = (contents_now r number).bytes in
    fill_more b offset filled n start now part within alike so.0 so.1
    (subst (λ k. n ≤ length b - k) at (subst (λ o. IfSome o (λ r. n ≤ length (contents_now r number).bytes - from)) same few))
    (subst (λ k. part ≡ take n (drop k b) ++ drop n (take (length now - filled) (drop filled now))) at (subst (λ o. IfSome o (λ r. part ≡ take n (drop from (contents_now r number).bytes) ++ drop n (take (length now - filled) (drop filled now)))) same read))
