-- The labels and files that a pass met.
use Rattle.std.proofs.Common.{◌≡◌, List, true, false, refl, sym, ap, subst, ◌∙◌, inl, inr, ⊎_elim}
use Rattle.std.specs.Prelude.{Option, Some, None, Bool, Result, Ok, Err, OnOk, OnErr, IfOk, IfSome, is_some, not, option_map}
use Rattle.std.specs.FinMap as finmap
use Rattle.fsfs_base.specs.Files.{Files}
use Rattle.fsfs_base.proofs.ResultLemmas.{none_of}
use Rattle.fsfs_disk.specs.Labels.{Label}
use Rattle.fsfs_disk.specs.Trace.{Trace, files_now, labels_now}
use Rattle.fsfs_machine.specs.declared.machine.Went.{Went}
use Rattle.fsfs_machine.specs.Machine.{is_fine_in}
use Rattle.fsfs_turn.specs.Labels.{Relabels, MayRelabel, Drops}
use Rattle.fsfs_turn.specs.Learning.{Listed}
use Rattle.fsfs_pass.specs.declared.seats.seat_view.Hand.{Hand}
use Rattle.fsfs_pass.specs.declared.seats.seat_view.SeatView.{SeatView}
use Rattle.fsfs_pass.specs.Seats.{view_of}
use Rattle.fsfs_pass.specs.Met.{seat_store, seat_labels}
use Rattle.fsfs_pass.specs.SeatCalls.Made.{went_of}
use Rattle.fsfs_pass.specs.SeatCalls.Tells.{GivenBack}

-- ---- what is told of the files

some_files : (P : Files → Type 0) (o : Option Trace) → IfSome o (λ t. P (files_now t)) → IfSome (option_map files_now o) P
some_files P None k = tt
some_files P (Some t) k = k

-- what holds of the files that were taken holds of those that are met, where the call changed none
pub of_files : (u : SeatView) (taken left : Option Trace) (P : Files → Type 0) → u.met ≡ left → left ≡ taken → IfSome taken (λ t. P (files_now t)) → IfSome (seat_store u).files P
of_files u taken left P is same k = subst (λ o. IfSome (option_map files_now o) P) (sym (is ∙ same)) (some_files P taken k)

-- ---- labels by the answer of a call

-- where the disk tells nothing no labels are met
unmet : (v : SeatView) (taken : Option Trace) → v.told ≡ is_some taken → is_some v.met ≡ v.told → v.told ≡ false → option_map labels_now taken ≡ seat_labels v
unmet v None told was free = sym (ap (λ o. option_map labels_now o) (none_of v.met (was ∙ free)))
unmet v (Some t) told was free = let e : true ≡ false = sym told ∙ free in absurd cc

module _ (v u : SeatView) (taken left : Option Trace) (told : v.told ≡ is_some taken) (was : is_some v.met ≡ v.told) (is : u.met ≡ left) where
  labels_left : seat_labels u ≡ option_map labels_now left
  labels_left = ap (λ o. option_map labels_now o) is

  pub relabels_on : {X E : Type 0} (f : List Label → List Label) (result : Result X E) → OnOk result (Relabels false f (option_map labels_now taken) (option_map labels_now left)) → OnOk result (Relabels v.told f (seat_labels v) (seat_labels u))
  relabels_on f (Ok x) r = record { met = r.met; is_met = λ free. r.is_met refl ∙ unmet v taken told was free; made = labels_left ∙ r.made }
  relabels_on f (Err e) r = tt

  pub may_relabel_on : {X E : Type 0} (f : List Label → List Label) (result : Result X E) → OnErr result (MayRelabel false f (option_map labels_now taken) (option_map labels_now left)) → OnErr result (MayRelabel v.told f (seat_labels v) (seat_labels u))
  may_relabel_on f (Ok x) r = tt
  may_relabel_on f (Err e) r = record {
    met = r.met;
    is_met = λ free. r.is_met refl ∙ unmet v taken told was free;
    either = ⊎_elim (λ same. inl (labels_left ∙ same)) (λ made. inr (labels_left ∙ made)) r.either;
  }

  pub drops_on : {E : Type 0} (l : Label) (result : Result Bool E) → IfOk result (λ there. Drops false l there (option_map labels_now taken) (option_map labels_now left)) → IfOk result (λ there. Drops v.told l there (seat_labels v) (seat_labels u))
  drops_on l (Ok there) r = record { met = r.met; is_met = λ free. r.is_met refl ∙ unmet v taken told was free; made = labels_left ∙ r.made; said = r.said }
  drops_on l (Err e) r = tt

-- a new bench is empty
pub empty_on : {X E : Type 0} (u : SeatView) (left : Option Trace) (contents : X → Option Files) (result : Result X E) → u.met ≡ left → IfOk result (λ b. contents b ≡ option_map (λ _. finmap.empty) (option_map labels_now left))
    → IfOk result (λ b. contents b ≡ option_map (λ _. finmap.empty) (seat_labels u))
empty_on u left contents result is e = subst (λ o. IfOk result (λ b. contents b ≡ option_map (λ _. finmap.empty) (option_map labels_now o))) (sym is) e

-- ---- a listing

some_met : (o : Option Trace) → is_some o ≡ true → (t : Trace) × (o ≡ Some t)
some_met None e = absurd cc
some_met (Some t) e = (t, refl)

-- these were listed
pub listed_so : (failed : Bool) (left : Option Trace) (went : Went) (v m u : SeatView) (h : Hand) → m ≡ record v { hand = h } → failed ≡ not (is_fine_in went) → (went_of (not (is_fine_in went)) ≡ went)
    → GivenBack (λ x. (ls : List Label) → Listed ls (went_of failed) (view_of m) x) failed left m u → v.told ≡ true → (ls : List Label) × (seat_labels u ≡ Some ls) × Listed ls went (view_of v) (view_of u)
listed_so failed left went v m u h took is same given told =
    let here : m.told ≡ true = ap (λ (x : SeatView). x.told) took ∙ told in
    let t = some_met u.met (given.tells.0 ∙ ap (λ (x : SeatView). x.told) given.back ∙ here) in
    (labels_now t.0, ap (λ o. option_map labels_now o) t.1, subst (λ k. Listed (labels_now t.0) k (view_of v) (view_of u)) (ap (λ f. went_of f) is ∙ same) (subst (λ (z : SeatView). Listed (labels_now t.0) (went_of failed) (view_of z) (view_of u)) took (given.step here (labels_now t.0))))
