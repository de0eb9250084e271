-- Steps of one seat leave it true why the lock is as it is.
use Rattle.std.proofs.Common.{◌≡◌, ◌≢◌, ◌⊎◌, inl, inr, ◌≤◌, ℕ, List, [], ◌∷◌, ◌++◌, true, false, cond, ⊎_elim, refl, sym, ap, subst, ◌∙◌}
use Rattle.std.specs.Prelude.{Bool, Option, Some, None, is_some, slice_set}
use mathlib.Core.Option.{some, some-injective}
use mathlib.Core.Logic.{dite}
use native.Mathlib.Decide.{ℕ_discrete}
use lib.ListN.{get_elem?}
use Rattle.atomic_table.proofs.Lists.{at_set, set_else}
use Rattle.fsfs_base.specs.declared.places.place.DiskPlace.{DiskPlace}
use Rattle.fsfs_machine.specs.declared.machine.Coming.{Coming}
use Rattle.fsfs_turn.specs.Alone.{are_harmless, leaves_stuck, is_doubtful_at}
use Rattle.fsfs_turn.specs.Views.{is_held}
use Rattle.fsfs_pass.specs.declared.seats.seat_view.SeatView.{SeatView}
use Rattle.fsfs_pass.specs.Seats.{is_left}
use Rattle.fsfs_pass.specs.Causes.{IsSound, HasLock, Causes, Doubts}
use Rattle.fsfs_pass.proofs.Kinships.{set_there}

-- ---- faults

-- those of two are harmless where both are
pub harmless_both : (a b : List DiskPlace) → are_harmless (a ++ b) ≡ true → (are_harmless a ≡ true) × (are_harmless b ≡ true)
harmless_both [] b e = (refl, e)
harmless_both (x ∷ a) b e = by_test (leaves_stuck x) e (harmless_both a b)
  where
    by_test : (c : Bool) → cond c false (are_harmless (a ++ b)) ≡ true → (are_harmless (a ++ b) ≡ true → (are_harmless a ≡ true) × (are_harmless b ≡ true)) → (cond c false (are_harmless a) ≡ true) × (are_harmless b ≡ true)
    by_test true e rest = absurd cc
    by_test false e rest = rest e

-- what holds of more faults than are harmless
pub harmful_more : (a b : Bool) → (b ≡ true → a ≡ true) → a ≡ false → b ≡ false
harmful_more a true less e = let no : true ≡ false = sym (less refl) ∙ e in absurd cc
harmful_more a false less e = refl

-- a pass whose section is to leave the lock stuck met such a fault
pub harmful_so : (a : Bool) → (a ≡ true → true ≡ false) → a ≡ false
harmful_so true never = let e : true ≡ false = never refl in absurd cc
harmful_so false never = refl

-- ---- a step

-- what a step of one seat leaves in doubt: what there was; or the revision that it left, where there was none
abbrev pub LeavesSo : SeatView → SeatView → Option Coming → Option Coming → Type 0
LeavesSo me u was now = ((now ≡ was) × (u.left ≡ me.left)) ⊎ ((x : Coming) × (was ≡ None) × (now ≡ Some x) × (u.left ≡ Some x))

not_both : {P : Type 0} (x : Coming) (o : Option Coming) → o ≡ None → o ≡ Some x → P
not_both x o nothing it = let no : None ≡ Some x = sym nothing ∙ it in absurd cc

pub doubts_set : (views : List SeatView) (id : ℕ) (me u : SeatView) (was now : Option Coming) → get_elem? views id ≡ some me → is_left me.kin.stage ≡ false → is_left u.kin.stage ≡ false → LeavesSo me u was now → Doubts views was → Doubts (slice_set views id u) now
doubts_set views id me u was now at stays left (inl (same, kept)) c = record {
  tied = λ j z e there x is. same ∙ ⊎_elim
      (λ (here : (j ≡ id) × (u ≡ z)). c.tied id me at stays x (sym kept ∙ ap (λ (y : SeatView). y.left) here.1 ∙ is))
      (λ (other : (j ≢ id) × (get_elem? views j ≡ some z)). c.tied j z other.1 there x is) (at_set views id j u z e);
  whose = λ x is.
      let k = c.whose x (sym same ∙ is) in
      dite (ℕ_discrete k.0 id)
      (λ here.
      let mine : k.1 ≡ me = some-injective k.1 me (sym k.2 ∙ ap (λ j. get_elem? views j) here ∙ at) in
      (id, u, set_there views id u me at, left, kept ∙ ap (λ (y : SeatView). y.left) (sym mine) ∙ k.4))
      (λ apart. (k.0, k.1, set_else views id k.0 u apart ∙ k.2, k.3, k.4));
}
doubts_set views id me u was now at stays left (inr (x, before, after, its)) c = record {
  tied = λ j z e there y is. ⊎_elim
      (λ (here : (j ≡ id) × (u ≡ z)). after ∙ sym its ∙ ap (λ (v : SeatView). v.left) here.1 ∙ is)
      (λ (other : (j ≢ id) × (get_elem? views j ≡ some z)). not_both y was before (c.tied j z other.1 there y is)) (at_set views id j u z e);
  whose = λ y is. (id, u, set_there views id u me at, left, its ∙ sym after ∙ is);
}

-- what a step of one seat does to the lock, and to what its pass knows of it
pub record Turns (me u : SeatView) (lock lock2 : ℕ) : Type 0 where
  pub sound : IsSound me → IsSound u
  pub found : (is_some me.pass.stuck ≡ true → 2 ≤ lock) → is_some u.pass.stuck ≡ true → 2 ≤ lock2
  -- what is stuck stays so
  pub stuck : 2 ≤ lock → 2 ≤ lock2
  pub cause : (lock2 ≡ 0) ⊎ (HasLock lock2 u ⊎ ((lock2 ≡ lock) × (HasLock lock me → HasLock lock u)))

-- one that leaves all this
pub quiet_turn : (me u : SeatView) (lock : ℕ) → u.pass.faults ≡ me.pass.faults → u.pass.stuck ≡ me.pass.stuck → u.section ≡ me.section → Turns me u lock lock
quiet_turn me u lock faults stuck section = record {
  sound = λ s few. ap (λ o. is_doubtful_at o) section ∙ s (sym (ap (λ l. are_harmless l) faults) ∙ few);
  found = λ f is. f (sym (ap (λ o. is_some o) stuck) ∙ is);
  stuck = λ le. le;
  cause = inr (inr (refl, λ has. ⊎_elim (λ h. inl (h.0, ap (λ o. is_held o) section ∙ h.1)) (λ h. inr (ap (λ l. are_harmless l) faults ∙ h)) has));
}

pub causes_set : (views : List SeatView) (id : ℕ) (me u : SeatView) (lock lock2 : ℕ) → get_elem? views id ≡ some me → is_left me.kin.stage ≡ false → is_left u.kin.stage ≡ false → Turns me u lock lock2 → Causes views lock → Causes (slice_set views id u) lock2
causes_set views id me u lock lock2 at was left turns c = record {
  sound = λ j z e stays. ⊎_elim
      (λ (here : (j ≡ id) × (u ≡ z)). subst (λ (y : SeatView). IsSound y) here.1 (turns.sound (c.sound id me at was)))
      (λ (there : (j ≢ id) × (get_elem? views j ≡ some z)). c.sound j z there.1 stays) (at_set views id j u z e);
  found = λ j z e stays. ⊎_elim
      (λ (here : (j ≡ id) × (u ≡ z)). subst (λ (y : SeatView). is_some y.pass.stuck ≡ true → 2 ≤ lock2) here.1 (turns.found (c.found id me at was)))
      (λ (there : (j ≢ id) × (get_elem? views j ≡ some z)). λ is. turns.stuck (c.found j z there.1 stays is)) (at_set views id j u z e);
  cause = ⊎_elim (λ free. inl free)
      (λ more. ⊎_elim (λ (has : HasLock lock2 u). inr (id, u, set_there views id u me at, left, has))
      (λ (still : (lock2 ≡ lock) × (HasLock lock me → HasLock lock u)). ⊎_elim (λ free. inl (still.0 ∙ free))
      (λ (k : (j : ℕ) × (v : SeatView) × (get_elem? views j ≡ some v) × (is_left v.kin.stage ≡ false) × HasLock lock v).
      inr (subst (λ n. (j : ℕ) × (v : SeatView) × (get_elem? (slice_set views id u) j ≡ some v) × (is_left v.kin.stage ≡ false) × HasLock n v) (sym still.0) (who still.1 k))) c.cause) more) turns.cause;
}
  where
    who : (HasLock lock me → HasLock lock u) → (j : ℕ) × (v : SeatView) × (get_elem? views j ≡ some v) × (is_left v.kin.stage ≡ false) × HasLock lock v
        → (j : ℕ) × (v : SeatView) × (get_elem? (slice_set views id u) j ≡ some v) × (is_left v.kin.stage ≡ false) × HasLock lock v
    who goes k = dite (ℕ_discrete k.0 id)
        (λ here.
        let same : k.1 ≡ me = some-injective k.1 me (sym k.2 ∙ ap (λ j. get_elem? views j) here ∙ at) in
        (id, u, set_there views id u me at, left, goes (subst (λ (v : SeatView). HasLock lock v) same k.4)))
        (λ there. (k.0, k.1, set_else views id k.0 u there ∙ k.2, k.3, k.4))
