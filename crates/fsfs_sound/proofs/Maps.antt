-- Functions of paths that are maps of finitely many paths.
use Rattle.std.proofs.Common.{◌≡◌, ◌∙◌, List, [], ◌∷◌, Bool, true, false, cond, ◌||◌, refl, sym, ap, Option, Some, None}
use Rattle.std.specs.List.{list_any}
use Rattle.std.specs.Ordering.{eq_by_cmp}
use Rattle.std.specs.Cmp.{Equal-is, eq_by_cmp_equiv}
use Rattle.std.specs.FinMap.{FinMap, get, insert, empty, get-empty, get-insert}
use Rattle.fsfs_base.specs.Paths.{Path, path_cmp, path_cmp_total}
use Rattle.fsfs_tree.proofs.TreeLemmas.{exact_paths}

-- the path is among these
abbrev pub among : List Path → Path → Bool
among ks q = list_any (eq_by_cmp path_cmp q) ks

pub same_path_is : (q p : Path) → eq_by_cmp path_cmp q p ≡ true → q ≡ p
same_path_is q p h = exact_paths q p ((Equal-is (path_cmp q p)).0 h)

pub same_self : (p : Path) → eq_by_cmp path_cmp p p ≡ true
same_self p = (eq_by_cmp_equiv path_cmp_total).refl p

-- there is nothing at other paths than these
abbrev pub IsWithin : {X : Type 0} → List Path → (Path → Option X) → Type 0
IsWithin ks t = (q : Path) → among ks q ≡ false → t q ≡ None

module _ {X : Type 0} where
  abbrev with_at : Path → Option X → FinMap path_cmp X → FinMap path_cmp X
  with_at k None m = m
  with_at k (Some n) m = insert m k n

  abbrev filled : List Path → (Path → Option X) → FinMap path_cmp X
  filled [] t = empty
  filled (k ∷ ks) t = with_at k (t k) (filled ks t)

  none_either : (b : Bool) (o : Option X) → o ≡ None → cond b o None ≡ None
  none_either true o e = e
  none_either false o e = refl

  got_filled : (t : Path → Option X) (ks : List Path) (q : Path) → get (filled ks t) q ≡ cond (among ks q) (t q) None
  got_filled t [] q = get-empty path_cmp q
  got_filled t (k ∷ ks) q = step (got_filled t ks q) (t k) refl (eq_by_cmp path_cmp q k) refl
    where
      step : get (filled ks t) q ≡ cond (among ks q) (t q) None → (o : Option X) → t k ≡ o → (b : Bool) → eq_by_cmp path_cmp q k ≡ b → get (with_at k o (filled ks t)) q ≡ cond (b || among ks q) (t q) None
      step rest None e false at = rest
      step rest None e true at = let nothing = ap t (same_path_is q k at) ∙ e in rest ∙ none_either (among ks q) (t q) nothing ∙ sym nothing
      step rest (Some n) e false at = get-insert path_cmp_total (filled ks t) k n q ∙ ap (λ b. cond b (Some n) (get (filled ks t) q)) at ∙ rest
      step rest (Some n) e true at = get-insert path_cmp_total (filled ks t) k n q ∙ ap (λ b. cond b (Some n) (get (filled ks t) q)) at ∙ sym e ∙ ap t (sym (same_path_is q k at))

  -- what there is at finitely many paths is a map
  pub map_of : (t : Path → Option X) (ks : List Path) → IsWithin ks t → (m : FinMap path_cmp X) × ((q : Path) → get m q ≡ t q)
  map_of t ks within = (filled ks t, λ q. got_filled t ks q ∙ whole q (among ks q) refl)
    where
      whole : (q : Path) (b : Bool) → among ks q ≡ b → cond b (t q) None ≡ t q
      whole q true e = refl
      whole q false e = sym (within q e)
