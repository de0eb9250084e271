-- A walk that goes no further below a path at which it stops finds the same first stop.
use Rattle.std.proofs.Common.{◌≡◌, ◌∙◌, Bool, true, false, ◌&&◌, [], ◌∷◌, ◌++◌, refl, sym, ap, subst}
use Rattle.std.specs.declared.cmp.Ordering.{Ordering}
use Rattle.std.specs.declared.cmp.Ordering.TheVariants.{Less, Equal, Greater}
use Rattle.std.proofs.lemmas.Bool.{and_from, and_parts, both_ways}
use Rattle.fsfs_base.specs.Paths.{PathName, Path, path_cmp}
use Rattle.fsfs_model.specs.Flat.Landing.{reached}
use Rattle.fsfs_merge.specs.declared.sight.Sight.{Sight}
use Rattle.fsfs_merge.specs.Walks.{merges, is_stopped, down, clashes_by_ids}
use Rattle.fsfs_merge.specs.FirstStops.{NoStop, FirstStop}
use Rattle.fsfs_merge.proofs.FirstStopLaw.{walks_find_the_first}
use Rattle.fsfs_merge.specs.Clash.UnderWay.{NotAfter}
use Rattle.fsfs_merge.proofs.Orders.{not_after}

-- s stops where r does, and goes down where r does and doesn't stop
pub record IsShorter (s r : Path → Sight) : Type 0 where
  pub down : (p : Path) → merges (s p) ≡ true → merges (r p) ≡ true
  pub stops : (p : Path) → is_stopped (s p) ≡ is_stopped (r p)
  pub goes : (p : Path) → merges (r p) ≡ true → is_stopped (r p) ≡ false → merges (s p) ≡ true

shorter_below : (s r : Path → Sight) (x : PathName) → IsShorter s r → IsShorter (λ p. s (x ∷ p)) (λ p. r (x ∷ p))
shorter_below s r x is = record { down = λ p h. is.down (x ∷ p) h; stops = λ p. is.stops (x ∷ p); goes = λ p m h. is.goes (x ∷ p) m h }

pub reached_too : (q : Path) (s r : Path → Sight) → IsShorter s r → reached (down s) q ≡ true → reached (down r) q ≡ true
reached_too [] s r is h = refl
reached_too (x ∷ q) s r is h =
    let w = and_parts (merges (s [])) (reached (down (λ (p : Path). s (x ∷ p))) q) h in
    and_from _ _ (is.down [] w.0) (reached_too q (λ p. s (x ∷ p)) (λ p. r (x ∷ p)) (shorter_below s r x is) w.1)

stops_too : (q : Path) (s r : Path → Sight) → IsShorter s r → clashes_by_ids s q ≡ true → clashes_by_ids r q ≡ true
stops_too q s r is h =
    let w = and_parts (reached (down s) q) (is_stopped (s q)) h in
    and_from _ _ (reached_too q s r is w.0) (sym (is.stops q) ∙ w.1)

-- a path that stops r is at or below one that stops s
record StopsAbove (s : Path → Sight) (q : Path) : Type 0 where
  front : Path
  rest : Path
  whole : front ++ rest ≡ q
  stops : clashes_by_ids s front ≡ true

stops_above : (q : Path) (s r : Path → Sight) → IsShorter s r → clashes_by_ids r q ≡ true → StopsAbove s q
stops_above [] s r is h = record { front = []; rest = []; whole = refl; stops = is.stops [] ∙ h }
stops_above (x ∷ q) s r is h = by (is_stopped (r [])) refl (λ m g. stops_above q (λ p. s (x ∷ p)) (λ p. r (x ∷ p)) (shorter_below s r x is) (and_from _ _ m g))
  where
    by : (b : Bool) → is_stopped (r []) ≡ b → (reached (down (λ (p : Path). r (x ∷ p))) q ≡ true → is_stopped (r (x ∷ q)) ≡ true → StopsAbove (λ p. s (x ∷ p)) q) → StopsAbove s (x ∷ q)
    by true e further = record { front = []; rest = x ∷ q; whole = refl; stops = is.stops [] ∙ e }
    by false e further =
        let w = and_parts (merges (r []) && reached (down (λ (p : Path). r (x ∷ p))) q) (is_stopped (r (x ∷ q))) h in
        let u = and_parts (merges (r [])) (reached (down (λ (p : Path). r (x ∷ p))) q) w.0 in
        let k = further u.1 w.1 in
        let m = and_parts (reached (down (λ (p : Path). s (x ∷ p))) k.front) (is_stopped (s (x ∷ k.front))) k.stops in
        record {
          front = x ∷ k.front;
          rest = k.rest;
          whole = ap (λ (p : Path). x ∷ p) k.whole;
          stops = and_from _ _ (and_from _ _ (is.goes [] u.0 e) m.0) m.1;
        }

module _ (s r : Path → Sight) (is : IsShorter s r) where
  never : (q : Path) → ((p : Path) (rest : Path) → p ++ rest ≡ q → clashes_by_ids s p ≡ true → ⊥) → clashes_by_ids r q ≡ false
  never q none = by (clashes_by_ids r q) refl
    where
      by : (b : Bool) → clashes_by_ids r q ≡ b → clashes_by_ids r q ≡ false
      by false e = e
      by true e = let w = stops_above q s r is e in absurd (none w.front w.rest w.whole w.stops)

  pub no_stop : NoStop s [] → NoStop r []
  no_stop clear = λ q. never q (λ p rest whole h. both_ways _ (clear p) h)

  -- a path that stops is not after what is below it
  not_below : (p rest q : Path) → p ++ rest ≡ q → clashes_by_ids s p ≡ true → clashes_by_ids r q ≡ true → NotAfter p q
  not_below p rest q whole h stopped less =
      let w = and_parts (reached (down r) p) (is_stopped (r p)) (stops_too p s r is h) in
      let here = walks_find_the_first.clash r p w.0 w.1 in
      both_ways _ (here.least rest (subst (λ (z : Path). path_cmp z p ≡ Less) (sym whole) less)) (subst (λ (z : Path). clashes_by_ids r z ≡ true) (sym whole) stopped)

  pub first_stop : (c : Path) → FirstStop s [] c → FirstStop r [] c
  first_stop c first = record {
    rest = first.rest;
    below = first.below;
    stops = stops_too c s r is first.stops;
    least = λ q less. by q less (clashes_by_ids r q) refl;
  }
    where
      above : (q p : Path) → path_cmp q c ≡ Less → NotAfter p q → clashes_by_ids s p ≡ true → (o : Ordering) → path_cmp p c ≡ o → ⊥
      above q p less n h Less e = both_ways _ (first.least p e) h
      above q p less n h Equal e = not_after p c q Equal e (λ f. absurd (let g : Equal ≡ Less = f in cc)) n less
      above q p less n h Greater e = not_after p c q Greater e (λ f. absurd (let g : Greater ≡ Less = f in cc)) n less

      by : (q : Path) → path_cmp q c ≡ Less → (b : Bool) → clashes_by_ids r q ≡ b → clashes_by_ids r q ≡ false
      by q less false e = e
      by q less true e =
          let w = stops_above q s r is e in
          absurd (above q w.front less (not_below w.front w.rest q w.whole w.stops e) w.stops (path_cmp w.front c) refl)
