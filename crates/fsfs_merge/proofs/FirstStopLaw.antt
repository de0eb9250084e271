-- The first stop of the walk, directory by directory.
use Rattle.std.proofs.Common.{◌≡◌, Bool, true, false, ◌||◌, List, [], ◌∷◌, ◌++◌, refl, sym, ◌∙◌, ap, subst, inl, inr, Option, Some, None, append_assoc}
use Rattle.std.specs.List.{list_any}
use Rattle.std.specs.Ordering.{is_eq, ordering_then, ordering_reverse}
use Rattle.std.specs.declared.cmp.Ordering.{Ordering}
use Rattle.std.specs.declared.cmp.Ordering.TheVariants.{Less, Equal, Greater}
use Rattle.std.specs.Cmp.Lexicographic.{texts_ties, nat_list_cmp_total}
use mathlib.Core.Bool.{false≢true}
use Rattle.fsfs_base.specs.Paths.{PathName, Path, name_cmp, path_cmp, same_name, path_cmp_total}
use Rattle.fsfs_model.specs.Flat.Landing.{reached}
use Rattle.fsfs_base.proofs.PathLemmas.{same_name-is, same_name-refl}
use Rattle.fsfs_merge.specs.Walks.{Sight, merges, is_stopped, down, clashes_by_ids}
use Rattle.fsfs_merge.specs.FirstStops.{NoStop, FirstStop, Rise, Entries, End, Clear, Found, AreAllNames, WalksFindTheFirst}
use Rattle.std.proofs.lemmas.Bool.{and_from, and_parts, both_ways, cases_Bool, false_from_ne_true, or_cases}

-- ---- orders

less_greater : {A : Type 0} → Less ≡ Greater → A
less_greater e = absurd cc

same_cmp : (x : PathName) → name_cmp x x ≡ Less → ⊥
same_cmp x e = less_greater (sym e ∙ nat_list_cmp_total.antisymm x x ∙ ap ordering_reverse e)

same_path_cmp : (p : Path) → path_cmp p p ≡ Less → ⊥
same_path_cmp p e = less_greater (sym e ∙ path_cmp_total.antisymm p p ∙ ap ordering_reverse e)

both_less : (x y : PathName) → name_cmp x y ≡ Less → name_cmp y x ≡ Less → ⊥
both_less x y e f = less_greater (sym e ∙ nat_list_cmp_total.antisymm x y ∙ ap ordering_reverse f)

equal_is : (x y : PathName) → name_cmp x y ≡ Equal → x ≡ y
equal_is x y e = same_name-is x y (texts_ties x y ∙ ap is_eq e)

refl_cmp : (x : PathName) → name_cmp x x ≡ Equal
refl_cmp x = by (name_cmp x x) refl (sym (texts_ties x x) ∙ same_name-refl x)
  where
    by : (o : Ordering) → name_cmp x x ≡ o → is_eq (name_cmp x x) ≡ true → name_cmp x x ≡ Equal
    by Equal e t = e
    by Less e t = absurd (false≢true (sym (ap is_eq e) ∙ t))
    by Greater e t = absurd (false≢true (sym (ap is_eq e) ∙ t))

-- a common front does not matter
front_cmp : (p a b : Path) → path_cmp (p ++ a) (p ++ b) ≡ path_cmp a b
front_cmp [] a b = refl
front_cmp (x ∷ p) a b = ap (λ (o : Ordering). ordering_then o (path_cmp (p ++ a) (p ++ b))) (refl_cmp x) ∙ front_cmp p a b

-- ---- reaching

reached_front : (f : Path → Bool) (p : Path) (x : PathName) (q : Path) → reached f (p ++ x ∷ q) ≡ true → f p ≡ true
reached_front f [] x q r = (and_parts _ _ r).0
reached_front f (y ∷ p) x q r = reached_front (λ z. f (y ∷ z)) p x q ((and_parts _ _ r).1)

end : (p : Path) → p ++ [] ≡ p
end [] = refl
end (x ∷ p) = ap (λ (t : Path). x ∷ t) (end p)

module _ (see : Path → Sight) where
  left : (p : Path) → merges (see p) ≡ false → is_stopped (see p) ≡ false → NoStop see p
  left p m s [] = false_from_ne_true _ (λ w. both_ways _ (ap (λ (x : Path). is_stopped (see x)) (end p) ∙ s) ((and_parts _ _ w).1))
  left p m s (x ∷ q) = false_from_ne_true _ (λ w. both_ways _ m (reached_front (down see) p x q ((and_parts _ _ w).0)))

  itself : (p : Path) → is_stopped (see p) ≡ false → clashes_by_ids see (p ++ []) ≡ false
  itself p s = false_from_ne_true _ (λ w. both_ways _ (ap (λ (x : Path). is_stopped (see x)) (end p) ∙ s) ((and_parts _ _ w).1))

  clash : (p : Path) → reached (down see) p ≡ true → is_stopped (see p) ≡ true → FirstStop see p p
  clash p r s = record {
    rest = [];
    below = sym (end p);
    stops = and_from _ _ r s;
    least = λ q less. absurd (never q (ap (path_cmp (p ++ q)) (end p) ∙ less));
  }
    where
      never : (q : Path) → path_cmp (p ++ q) (p ++ []) ≡ Less → ⊥
      never [] less = same_path_cmp [] (sym (front_cmp p [] []) ∙ less)
      never (x ∷ q) less = after (sym (front_cmp p (x ∷ q) []) ∙ less)
        where
          after : Greater ≡ Less → ⊥
          after e = less_greater (sym e)

  -- what is below a name
  named : (p : Path) (y : PathName) (q : Path) → NoStop see (p ++ y ∷ []) → clashes_by_ids see (p ++ y ∷ q) ≡ false
  named p y q none = subst (λ (x : Path). clashes_by_ids see x ≡ false) (append_assoc p (y ∷ []) q) (none q)

  -- the names before the end are all clear
  all_clear : (p : Path) (names : List PathName) (y : PathName) (r : Option Path) → Entries see p names r → r ≡ None → list_any (same_name y) names ≡ true → NoStop see (p ++ y ∷ [])
  all_clear p _ y _ End e h = absurd (false≢true h)
  all_clear p _ y r (Clear x xs s none more) e h = elim (or_cases _ _ h) [
    | inl w ↦ subst (λ (z : PathName). NoStop see (p ++ z ∷ [])) (sym (same_name-is y x w)) none
    | inr w ↦ all_clear p xs y r more e w
  ]
  all_clear p _ y _ (Found x xs c f) e h = absurd (let g = e in cc)

  clear : (p : Path) (names : List PathName) → is_stopped (see p) ≡ false → AreAllNames see p names → Entries see p names None → NoStop see p
  clear p names s all entries [] = itself p s
  clear p names s all entries (y ∷ q) = elim (cases_Bool (list_any (same_name y) names)) [
    | inl w ↦ named p y q (all_clear p names y None entries refl w)
    | inr w ↦ (let a = all y w in named p y q (left (p ++ y ∷ []) a.0 a.1))
  ]

  -- where the first stop was found
  record FoundAt (p : Path) (names : List PathName) (c : Path) : Type 0 where
    name : PathName
    is : FirstStop see (p ++ name ∷ []) c
    before : (y : PathName) → name_cmp y name ≡ Less → list_any (same_name y) names ≡ true → NoStop see (p ++ y ∷ [])
    -- it is one of the names
    among : list_any (same_name name) names ≡ true

  found : (p : Path) (names : List PathName) (r : Option Path) (c : Path) → Entries see p names r → r ≡ Some c → Rise names → FoundAt p names c
  found p _ _ c End e rise = absurd cc
  found p _ r c (Clear x xs s none more) e rise =
      let f = found p xs r c more e rise.1 in
      record {
        name = f.name;
        is = f.is;
        before = λ y less h. elim (or_cases _ _ h) [
          | inl w ↦ subst (λ (z : PathName). NoStop see (p ++ z ∷ [])) (sym (same_name-is y x w)) none
          | inr w ↦ f.before y less w
        ];
        among = later (same_name f.name x) (list_any (same_name f.name) xs) f.among;
      }
    where
      later : (b d : Bool) → d ≡ true → (b || d) ≡ true
      later true d e = refl
      later false d e = e
  found p _ _ c (Found x xs d f) e rise =
      let same : d ≡ c = (let g = e in cc) in
      record {
        name = x;
        is = subst (λ (z : Path). FirstStop see (p ++ x ∷ []) z) same f;
        before = λ y less h. elim (or_cases _ _ h) [
          | inl w ↦ absurd (same_cmp x (subst (λ (z : PathName). name_cmp z x ≡ Less) (same_name-is y x w) less))
          | inr w ↦ absurd (both_less x y (rise.0 y w) less)
        ];
        among = here (same_name x x) (list_any (same_name x) xs) (same_name-refl x);
      }
    where
      here : (b d : Bool) → b ≡ true → (b || d) ≡ true
      here true d e = refl
      here false d e = absurd (false≢true e)

  first : (p : Path) (names : List PathName) (c : Path) → is_stopped (see p) ≡ false → Rise names → AreAllNames see p names → Entries see p names (Some c) → FirstStop see p c
  first p names c s rise all entries =
      let f = found p names (Some c) c entries refl rise in
      record {
        rest = f.name ∷ f.is.rest;
        below = f.is.below ∙ append_assoc p (f.name ∷ []) f.is.rest;
        stops = f.is.stops;
        least = λ q less. by f q (sym (front_cmp p q (f.name ∷ f.is.rest)) ∙ sym (ap (path_cmp (p ++ q)) (f.is.below ∙ append_assoc p (f.name ∷ []) f.is.rest)) ∙ less) less;
      }
    where
      by : (f : FoundAt p names c) (q : Path) → path_cmp q (f.name ∷ f.is.rest) ≡ Less → path_cmp (p ++ q) c ≡ Less → clashes_by_ids see (p ++ q) ≡ false
      by f [] e less = itself p s
      by f (y ∷ q) e less = at (name_cmp y f.name) refl e
        where
          other : name_cmp y f.name ≡ Less → clashes_by_ids see (p ++ y ∷ q) ≡ false
          other lower = elim (cases_Bool (list_any (same_name y) names)) [
            | inl w ↦ named p y q (f.before y lower w)
            | inr w ↦ (let a = all y w in named p y q (left (p ++ y ∷ []) a.0 a.1))
          ]

          same : y ≡ f.name → clashes_by_ids see (p ++ y ∷ q) ≡ false
          same g =
              let here : (p ++ f.name ∷ []) ++ q ≡ p ++ y ∷ q = append_assoc p (f.name ∷ []) q ∙ ap (λ (z : PathName). p ++ z ∷ q) (sym g) in
              subst (λ (x : Path). clashes_by_ids see x ≡ false) here (f.is.least q (subst (λ (x : Path). path_cmp x c ≡ Less) (sym here) less))

          at : (o : Ordering) → name_cmp y f.name ≡ o → ordering_then (name_cmp y f.name) (path_cmp q f.is.rest) ≡ Less → clashes_by_ids see (p ++ y ∷ q) ≡ false
          at Less g e = other g
          at Equal g e = same (equal_is y f.name g)
          at Greater g e = absurd (less_greater (sym (sym (ap (λ (o : Ordering). ordering_then o (path_cmp q f.is.rest)) g) ∙ e)))

pub walks_find_the_first : WalksFindTheFirst
walks_find_the_first = record { left = left; clash = clash; clear = clear; first = first }
