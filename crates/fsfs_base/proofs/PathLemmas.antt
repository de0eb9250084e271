-- Prefixes of paths.
use Rattle.std.proofs.Common.{◌≡◌, ◌≤◌, true, [], ◌∷◌, ◌++◌, length, drop, refl, sym, ◌∙◌, ap, subst, inl, inr, ◌⊎◌, arith}
use Rattle.std.proofs.lemmas.Bool.{and_from, and_parts, false≢true}
use Rattle.std.specs.Cmp.Lexicographic.{nat_list_eq_equiv, bytes_decides}
use Rattle.fsfs_base.specs.Paths.{Path, PathName, same_name, same_path, covers}

pub same_name-refl : (x : PathName) → same_name x x ≡ true
same_name-refl x = nat_list_eq_equiv.refl x

pub same_name-is : (x y : PathName) → same_name x y ≡ true → x ≡ y
same_name-is x y h = (bytes_decides x y).0 h

pub same_name-symm : (x y : PathName) → same_name x y ≡ same_name y x
same_name-symm x y = nat_list_eq_equiv.symm x y

pub same_path-is : (q p : Path) → same_path q p ≡ true → q ≡ p
same_path-is [] [] h = refl
same_path-is [] (y ∷ p) h = absurd (false≢true h)
same_path-is (x ∷ q) [] h = absurd (false≢true h)
same_path-is (x ∷ q) (y ∷ p) h = λ i. same_name-is x y (and_parts _ _ h).0 i ∷ same_path-is q p (and_parts _ _ h).1 i

pub same_path-refl : (p : Path) → same_path p p ≡ true
same_path-refl [] = refl
same_path-refl (x ∷ p) = and_from _ _ (same_name-refl x) (same_path-refl p)

pub covers-refl : (p : Path) → covers p p ≡ true
covers-refl [] = refl
covers-refl (x ∷ p) = and_from _ _ (same_name-refl x) (covers-refl p)

pub covers-trans : (q p r : Path) → covers q p ≡ true → covers p r ≡ true → covers q r ≡ true
covers-trans [] p r h g = refl
covers-trans (x ∷ q) [] r h g = absurd (false≢true h)
covers-trans (x ∷ q) (y ∷ p) [] h g = absurd (false≢true g)
covers-trans (x ∷ q) (y ∷ p) (z ∷ r) h g =
    and_from _ _ (subst (λ v. same_name x v ≡ true) (same_name-is y z (and_parts _ _ g).0) (and_parts _ _ h).0) (covers-trans q p r (and_parts _ _ h).1 (and_parts _ _ g).1)

-- of two paths at or above one path, one is at or above the other
pub covers-either : (q g p : Path) → covers q p ≡ true → covers g p ≡ true → (covers q g ≡ true) ⊎ (covers g q ≡ true)
covers-either [] g p h k = inl refl
covers-either (x ∷ q) [] p h k = inr refl
covers-either (x ∷ q) (y ∷ g) [] h k = absurd (false≢true h)
covers-either (x ∷ q) (y ∷ g) (z ∷ p) h k =
    let xz : x ≡ z = same_name-is x z (and_parts _ _ h).0 in
    let yz : y ≡ z = same_name-is y z (and_parts _ _ k).0 in
    elim (covers-either q g p (and_parts _ _ h).1 (and_parts _ _ k).1) [
      | inl w ↦ inl (and_from _ _ (subst (λ v. same_name x v ≡ true) (xz ∙ sym yz) (same_name-refl x)) w)
      | inr w ↦ inr (and_from _ _ (subst (λ v. same_name y v ≡ true) (yz ∙ sym xz) (same_name-refl y)) w)
    ]

pub covers-antisym : (q p : Path) → covers q p ≡ true → covers p q ≡ true → q ≡ p
covers-antisym [] [] h g = refl
covers-antisym [] (y ∷ p) h g = absurd (false≢true g)
covers-antisym (x ∷ q) [] h g = absurd (false≢true h)
covers-antisym (x ∷ q) (y ∷ p) h g =
    ap (λ v. v ∷ q) (same_name-is x y (and_parts _ _ h).0) ∙ ap (λ v. y ∷ v) (covers-antisym q p (and_parts _ _ h).1 (and_parts _ _ g).1)

-- what is at or above a path has no more names
pub covers-length : (q p : Path) → covers q p ≡ true → length q ≤ length p
covers-length [] p h = omega arith
covers-length (x ∷ q) [] h = absurd (false≢true h)
covers-length (x ∷ q) (y ∷ p) h = let r = covers-length q p (and_parts (same_name x y) (covers q p) h).1 in omega (arith, r)

pub covers-longer : (q x : Path) → covers q (q ++ x) ≡ true
covers-longer [] x = refl
covers-longer (y ∷ q) x = and_from _ _ (same_name-refl y) (covers-longer q x)

-- a path is what covers it, and the names after that
pub split_at : (q p : Path) → covers q p ≡ true → q ++ drop (length q) p ≡ p
split_at [] p h = refl
split_at (x ∷ q) [] h = absurd (false≢true h)
split_at (x ∷ q) (y ∷ p) h = λ i. same_name-is x y (and_parts _ _ h).0 i ∷ split_at q p (and_parts _ _ h).1 i

pub covers_front : (q p : Path) (name : PathName) → covers q (p ++ name ∷ []) ≡ true → (covers q p ≡ true) ⊎ (q ≡ p ++ name ∷ [])
covers_front [] p name c = inl refl
covers_front (x ∷ q) [] name c = inr (by q (same_name-is x name (and_parts _ _ c).0) (and_parts _ _ c).1)
  where
    by : (q : Path) → x ≡ name → covers q [] ≡ true → x ∷ q ≡ name ∷ []
    by [] e c = ap (λ (y : PathName). y ∷ []) e
    by (z ∷ q) e c = absurd (false≢true c)
covers_front (x ∷ q) (y ∷ p) name c = elim (covers_front q p name (and_parts _ _ c).1) [
  | inl w ↦ inl (and_from _ _ (and_parts _ _ c).0 w)
  | inr e ↦ inr (λ i. same_name-is x y (and_parts _ _ c).0 i ∷ e i)
]
