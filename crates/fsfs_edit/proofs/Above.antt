-- Something above a path is deleted exactly where a path above it is among those that are deleted.
use Rattle.std.proofs.Common.{◌≡◌, ℕ, suc, ◌+◌, ◌<◌, Bool, true, false, ◌&&◌, ◌||◌, not, List, [], ◌∷◌, ◌++◌, take, drop, length, get_or, refl, sym, ap, ◌∙◌, append_assoc}
use Rattle.std.proofs.lemmas.Bool.{true≢false}
use Rattle.std.proofs.lemmas.List.{drop_more, take_more}
use Rattle.std.specs.Cmp.Lexicographic.{nat_list_eq_equiv}
use Rattle.fsfs_base.specs.Paths.{Path, same_name, same_path, covers, is_above}
use Rattle.fsfs_noderev.specs.declared.changes.item.ChangeItem.{ChangeItem}
use Rattle.fsfs_edit.specs.Folds.Lasting.{any_above, is_deleted_at, is_deleted_above}
use Rattle.fsfs_model.specs.Flat.Folding.{deletes}

-- ---- any test

-- tests that agree at each path above
pub any_above_agree : (f g : Path → Bool) (p : Path) → ((k : ℕ) → f (take k p) ≡ g (take k p)) → any_above f p ≡ any_above g p
any_above_agree f g [] same = refl
any_above_agree f g (x ∷ p) same = λ i. same 0 i || any_above_agree (λ q. f (x ∷ q)) (λ q. g (x ∷ q)) p (λ k. same (suc k)) i

same_tests : (f g : Path → Bool) (p : Path) → ((q : Path) → f q ≡ g q) → any_above f p ≡ any_above g p
same_tests f g p same = any_above_agree f g p (λ k. same (take k p))

or_swap : (a b c d : Bool) → ((a || b) || (c || d)) ≡ ((a || c) || (b || d))
or_swap true b c d = refl
or_swap false true true d = refl
or_swap false true false d = refl
or_swap false false true d = refl
or_swap false false false d = refl

any_above_or : (f g : Path → Bool) (p : Path) → any_above (λ q. f q || g q) p ≡ (any_above f p || any_above g p)
any_above_or f g [] = refl
any_above_or f g (x ∷ p) =
    ap (λ (b : Bool). (f [] || g []) || b) (any_above_or (λ q. f (x ∷ q)) (λ q. g (x ∷ q)) p)
    ∙ or_swap (f []) (g []) (any_above (λ q. f (x ∷ q)) p) (any_above (λ q. g (x ∷ q)) p)

never_above : (p : Path) → any_above (λ q. false) p ≡ false
never_above [] = refl
never_above (x ∷ p) = never_above p

-- ---- one path, and one item

-- the names are one or not, whichever comes first
past_name : (b c : Bool) (q p : Path) → b ≡ c → any_above (λ r. same_path q r) p ≡ is_above q p → any_above (λ r. b && same_path q r) p ≡ ((b && covers q p) && not (c && covers p q))
past_name true true q p e one = one
past_name false c q p e one = never_above p
past_name true false q p e one = absurd (true≢false e)

above_one : (q p : Path) → any_above (λ r. same_path q r) p ≡ is_above q p
above_one [] [] = refl
above_one [] (y ∷ p) = refl
above_one (x ∷ q) [] = refl
above_one (x ∷ q) (y ∷ p) = past_name (same_name x y) (same_name y x) q p (nat_list_eq_equiv.symm x y) (above_one q p)

above_if : (d : Bool) (q p : Path) → any_above (λ r. d && same_path q r) p ≡ (d && is_above q p)
above_if false q p = never_above p
above_if true q p = above_one q p

pub deleted_above : (p : Path) (items : List ChangeItem) → any_above (λ q. is_deleted_at q items) p ≡ is_deleted_above p items
deleted_above p [] = never_above p
deleted_above p (item ∷ items) =
    any_above_or (λ q. deletes item.action && same_path item.path q) (λ q. is_deleted_at q items) p
    ∙ (λ i. above_if (deletes item.action) item.path p i || deleted_above p items i)

-- ---- a walk down the names

-- the paths that are left above p, once those of the first k names were looked at
abbrev pub left_above : (Path → Bool) → Path → ℕ → Bool
left_above f p k = any_above (λ q. f (take k p ++ q)) (drop k p)

taken_more : (p q : Path) (k : ℕ) → k < length p → take k p ++ get_or p k [] ∷ q ≡ take (k + 1) p ++ q
taken_more p q k lt = sym (append_assoc (take k p) (get_or p k [] ∷ []) q) ∙ ap (λ (r : Path). r ++ q) (sym (take_more p k [] lt))

pub left_more : (f : Path → Bool) (p : Path) (k : ℕ) → k < length p → left_above f p k ≡ (f (take k p ++ []) || left_above f p (k + 1))
left_more f p k lt =
    ap (any_above (λ q. f (take k p ++ q))) (drop_more p k [] lt)
    ∙ ap (λ (b : Bool). f (take k p ++ []) || b) (same_tests (λ q. f (take k p ++ get_or p k [] ∷ q)) (λ q. f (take (k + 1) p ++ q)) (drop (k + 1) p) (λ q. ap f (taken_more p q k lt)))
