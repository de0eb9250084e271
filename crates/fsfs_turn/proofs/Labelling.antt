-- Labels: they are listed, the bench of a transaction is made, and one is dropped.
use Rattle.std.proofs.Common.{◌≡◌, ◌⊎◌, ◌==◌, ◌<◌, ◌≤◌, ◌+◌, ℕ, List, [], ◌∷◌, ◌++◌, length, true, false, not, cond, inl, inr, ⊎_elim, refl, sym, ap, subst, ◌∙◌, arith, take, drop}
use Rattle.std.specs.Prelude.{Option, Some, None, Bool, Result, Ok, Err, OnOk, OnErr, IfOk, nat_lt, ◌&&◌, if◌then◌else◌}
use Rattle.std.proofs.lemmas.List.{length-take}
use Rattle.fsfs_base.specs.Files.{Files}
use Rattle.fsfs_layout.specs.declared.layout.Layout.{Layout}
use Rattle.fsfs_disk.specs.Labels.{Label}
use Rattle.fsfs_disk.specs.Trace.{Trace, Operation, Done, Attempted, KeepLabel, DropLabel, add_operation, change_of, files_after, ImageAfter, TornBy, IsImage, Performs, PerformsIfThere, FailsAt}
use Rattle.fsfs_disk.specs.Trace as real
use Rattle.fsfs_disk.proofs.CrashLemmas.{image_now}
use Rattle.fsfs_machine.specs.declared.machine.Recorded.{Recorded}
use Rattle.fsfs_machine.specs.declared.machine.Coming.{Coming}
use Rattle.fsfs_machine.specs.declared.machine.Drawn.{Drawn}
use Rattle.fsfs_machine.specs.declared.machine.Txn.{Txn}
use Rattle.fsfs_base.specs.declared.places.place.DiskPlace.{DiskPlace}
use Rattle.fsfs_base.specs.declared.places.place.DiskPlace.TheVariants as place
use Rattle.fsfs_machine.specs.declared.machine.Lock.{Lock}
use Rattle.fsfs_machine.specs.declared.machine.Lock.TheVariants.{Free, Held, Stuck, Down, DownDoubtful, StuckFloor, DownFloor}
use Rattle.fsfs_machine.specs.declared.machine.Went.{Went}
use Rattle.fsfs_machine.specs.declared.machine.Went.TheVariants.{Fine, Before, After}
use Rattle.fsfs_machine.specs.declared.machine.Outcome.TheVariants as outcome
use Rattle.fsfs_machine.specs.declared.machine.Step.TheVariants as step
use Rattle.fsfs_machine.specs.Machine.{World, did, barred, either, answer, learns, held_by, is_there, is_outside, labelled, unlabelled, begun_txn, made, purged, purged_spent, listed, turned}
use Rattle.fsfs_machine.specs.Kept.{Kept, IsIn, AllGiven, one}
use Rattle.fsfs_images.specs.Shown.{IsTraceOf, Attempting, KeepingLabel, DroppingLabel}
use Rattle.fsfs_turn.specs.declared.since.Since.{Since}
use Rattle.fsfs_turn.specs.Past.{doubt, Safe}
use Rattle.fsfs_turn.specs.Views.{View, Sees, with_txns, IsTxnOver}
use Rattle.fsfs_turn.specs.Learning.{has_number, kept_names, with_labels, with_named, with_spent, Listed, MayMake, BenchMade, MayPurge, Purged, SpentPurged}
use Rattle.fsfs_turn.specs.Standing.{no_others, IsStore}
use Rattle.fsfs_turn.proofs.TurnEnds.{IsAfter, Comes}
use Rattle.fsfs_turn.proofs.Stepping.{take_drop}
use Rattle.fsfs_turn.proofs.Longer.{txn_later}
use Rattle.fsfs_turn.proofs.Locking.{there_in}
use Rattle.fsfs_turn.proofs.Adopting.{kept_one}
use Rattle.fsfs_turn.proofs.Telling.{told_world, tells}

-- ---- what is laid in is kept

-- labels of names that were given
pub kept_labels : (w : World) (ks : List ℕ) → Kept (with_txns [] w) → AllGiven w.given ks → Kept (with_labels ks w)
kept_labels w ks k given = record { young = k.young; seen = k.seen; history = k.history; transactions = tt; stands = k.stands; floor = k.floor; floors = k.floors; left = k.left; low = k.low; counts = k.counts; once = k.once; labels = given; named = tt; apart = k.apart; benches = λ _. tt; knows = k.knows; next = k.next; whose = k.whose; holder = k.holder }

use_of_named : (given : List ℕ) (name k : ℕ) → IsIn name given → (one name k + 0 + 0 + 0 ≤ 1) × (0 < one name k + 0 + 0 + 0 → IsIn k given)
use_of_named given name k in_it = elim (name == k) as (λ b. (name == k) ≡ b → (cond b 1 0 + 0 + 0 + 0 ≤ 1) × (0 < cond b 1 0 + 0 + 0 + 0 → IsIn k given)) [
  | true ↦ λ e. let same : name ≡ k = grind (arith, e) in (omega arith, λ less. subst (λ n. IsIn n given) same in_it)
  | false ↦ λ e. (omega arith, λ less. absurd (omega (arith, less)))
] refl

-- a name that was given, without a bench
pub kept_named : (w : World) (x : Drawn) → Kept (with_txns [] w) → x.base < length w.history → IsIn x.name w.given → Kept (with_named (x ∷ []) w)
kept_named w x k base given = record { young = k.young; seen = k.seen; history = k.history; transactions = tt; stands = k.stands; floor = k.floor; floors = k.floors; left = k.left; low = k.low; counts = k.counts; once = k.once; labels = tt; named = ((base, given), tt); apart = λ n. use_of_named w.given x.name n given; benches = λ _. tt; knows = k.knows; next = k.next; whose = k.whose; holder = k.holder }

use_of_spent : (given : List ℕ) (name k : ℕ) → IsIn name given → (0 + 0 + (one name k + 0) ≤ 1) × (0 < 0 + 0 + (one name k + 0) → IsIn k given)
use_of_spent given name k in_it = elim (name == k) as (λ b. (name == k) ≡ b → (0 + 0 + (cond b 1 0 + 0) ≤ 1) × (0 < 0 + 0 + (cond b 1 0 + 0) → IsIn k given)) [
  | true ↦ λ e. let same : name ≡ k = grind (arith, e) in (omega arith, λ less. subst (λ n. IsIn n given) same in_it)
  | false ↦ λ e. (omega arith, λ less. absurd (omega (arith, less)))
] refl

-- a name that was given, of a transaction that is no more
pub kept_spent : (w : World) (name : ℕ) → Kept (with_txns [] w) → IsIn name w.given → Kept (with_spent name w)
kept_spent w name k given = record { young = k.young; seen = k.seen; history = k.history; transactions = tt; stands = k.stands; floor = k.floor; floors = k.floors; left = k.left; low = k.low; counts = k.counts; once = k.once; labels = (given, tt); named = tt; apart = λ n. use_of_spent w.given name n given; benches = λ _. tt; knows = k.knows; next = k.next; whose = k.whose; holder = k.holder }

kept_given : (ls : List Label) (ks given : List ℕ) → ((k : ℕ) → IsIn k ks → IsIn k given) → AllGiven given (kept_names ls ks)
kept_given ls [] given all = tt
kept_given ls (k ∷ ks) given all = elim (has_number k ls) as (λ b. AllGiven given (cond b (k ∷ kept_names ls ks) (kept_names ls ks))) [
  | true ↦ (all k (inl refl), kept_given ls ks given (λ n i. all n (inr i)))
  | false ↦ kept_given ls ks given (λ n i. all n (inr i))
]

-- ---- a call on a label changes no file

pub safe_label : (layout : Layout) (since : Since) (n : ℕ) (h : List Recorded) (d : Option Coming) (old : Trace) (op : Operation)
    → ((m : Files) → IsImage old.first (op ∷ old.operations) m → IsImage old.first old.operations m)
    → ((m : Files) → (ImageAfter (change_of op) (files_after old.first old.operations) (IsImage old.first old.operations) m) ⊎ (TornBy (change_of op) (IsImage old.first old.operations) m) → IsImage old.first old.operations m)
    → Safe layout since old n h d → Safe layout since (add_operation op old) n h d
safe_label layout since n h d old op images middle safe m i =
    safe m (⊎_elim (λ a. image_now since.operations old.first old.operations m (images m a))
    (λ b. ⊎_elim (λ a. image_now since.operations old.first old.operations m (middle m (inl a)))
    (λ t. ⊎_elim (λ c. image_now since.operations old.first old.operations m (middle m (inr c))) (λ before. before) t) b.1) i)

-- outside of each section
outside_is : (p : ℕ) (lock : Lock) → held_by p lock ≡ None → is_outside p lock ≡ true
outside_is p Free e = refl
outside_is p (Stuck place x) e = refl
outside_is p Down e = refl
outside_is p (DownDoubtful x) e = refl
outside_is p (StuckFloor at) e = refl
outside_is p DownFloor e = refl
outside_is p (Held q s) e = elim (q == p) as (λ b. cond b (Some s) None ≡ None → not b ≡ true) [
  | true ↦ λ e. let f : Some s ≡ None = e in absurd cc
  | false ↦ λ e. refl
] e

module _ (layout : Layout) (low young : ℕ) (stuck : Option DiskPlace) (old : Trace) (w : World) (v : View) (store : IsStore layout low young stuck old w) (sees : Sees w v) (safe : Safe layout v.since old v.opened w.history (doubt w.lock)) where
  there : nat_lt v.number (length w.passes) ≡ true
  there = there_in w.passes v.number v.pass sees.pass

  both : (outside : v.section ≡ None) → (nat_lt v.number (length w.passes) && is_outside v.number w.lock) ≡ true
  both outside = ap (λ b. b && is_outside v.number w.lock) there ∙ outside_is v.number w.lock (sees.section ∙ outside)

  seen_in : (r : ℕ) → r < length v.seen → r < length w.history
  seen_in r less = let e : length v.seen ≡ length (take v.pass.seen w.history) = ap length sees.seen in omega (arith, less, e, length-take v.pass.seen w.history)

  -- ---- the listing

  list_given : (ls : List Label) → AllGiven w.given (kept_names ls v.given)
  list_given ls = kept_given ls v.given w.given sees.given

  list_happens : (ls : List Label) (went : Went) → did (told_world w v.number (learns (length w.history) place.List went) (kept_names ls v.given) [] [] []) (either went (outcome.Names (kept_names ls v.given)) outcome.Failed)
      ≡ (if is_there (with_labels (kept_names ls v.given) w) v.number then did (turned (with_labels (kept_names ls v.given) w) v.number place.List went) (listed (with_labels (kept_names ls v.given) w) went) else barred (with_labels (kept_names ls v.given) w))
  list_happens ls went = sym (ap (λ b. cond b (did (turned (with_labels (kept_names ls v.given) w) v.number place.List went) (listed (with_labels (kept_names ls v.given) w) went)) (barred (with_labels (kept_names ls v.given) w))) there)

  pub list_turns : (ls : List Label) (went : Went) → IsAfter layout low young stuck old w v (λ u. Listed ls went v u)
  list_turns ls went = tells layout low young stuck old w v store sees (with_labels (kept_names ls v.given)) (step.ListTxns v.number went) (either went (outcome.Names (kept_names ls v.given)) outcome.Failed)
      (λ n. learns n place.List went) (kept_names ls v.given) [] [] [] (kept_labels w (kept_names ls v.given) store.kept (list_given ls)) (list_happens ls went) refl refl old store.trace safe

  -- ---- a call on a label, however it went

  -- a change that no image shows
  pub record IsUnshown (change : real.NameChange) : Type 0 where
    pub done : IsTraceOf layout no_others old.first (Done change ∷ old.operations) w.disk
    pub images : (m : Files) → IsImage old.first (Done change ∷ old.operations) m → IsImage old.first old.operations m
    pub middle : (m : Files) → (ImageAfter change (files_after old.first old.operations) (IsImage old.first old.operations) m) ⊎ (TornBy change (IsImage old.first old.operations) m) → IsImage old.first old.operations m

  pub unshown_keep : (l : Label) → IsUnshown (KeepLabel l)
  unshown_keep l = record { done = KeepingLabel old.operations w.disk l store.trace; images = λ m i. i; middle = λ m c. ⊎_elim (λ i. i) (λ t. absurd t) c }

  pub unshown_drop : (l : Label) → IsUnshown (DropLabel l)
  unshown_drop l = record { done = DroppingLabel old.operations w.disk l store.trace; images = λ m i. i; middle = λ m c. ⊎_elim (λ i. i) (λ t. absurd t) c }

  -- what a turn comes to that leaves the machine's disk
  abbrev pub Turn : (Went → View → Type 0) → Type 0
  Turn P = (new : Trace) → IsTraceOf layout no_others new.first new.operations w.disk → Safe layout v.since new v.opened w.history (doubt w.lock) → (went : Went) → IsAfter layout low young stuck new w v (P went)

  pub label_call : {X E : Type 0} (change : real.NameChange) → IsUnshown change → (P : Went → View → Type 0) (told : Option Trace) (result : Result X E)
      → OnOk result ((told ≡ Some old) ⊎ Performs change (Some old) told) → OnErr result (FailsAt change (Some old) told) → Turn P
      → Comes layout low young stuck told w v result P
  label_call change unshown P told result ok err turn = by_result result ok err
    where
      untouched : (went : Went) → IsAfter layout low young stuck old w v (P went)
      untouched went = turn old store.trace safe went

      attempt : (went : Went) → IsAfter layout low young stuck (add_operation (Attempted change) old) w v (P went)
      attempt went = turn (add_operation (Attempted change) old) (Attempting old.operations w.disk change store.trace)
          (safe_label layout v.since v.opened w.history (doubt w.lock) old (Attempted change) (λ m i. i) unshown.middle safe) went

      performed : (went : Went) → IsAfter layout low young stuck (add_operation (Done change) old) w v (P went)
      performed went = turn (add_operation (Done change) old) unshown.done
          (safe_label layout v.since v.opened w.history (doubt w.lock) old (Done change) unshown.images unshown.middle safe) went

      by_result : {X E : Type 0} (result : Result X E) → OnOk result ((told ≡ Some old) ⊎ Performs change (Some old) told) → OnErr result (FailsAt change (Some old) told) → Comes layout low young stuck told w v result P
      by_result (Ok x) ok err = ⊎_elim (λ same. (old, Fine, same, refl, untouched Fine)) (λ same. (add_operation (Done change) old, Fine, same, refl, performed Fine)) ok
      by_result (Err e) ok err =
          ⊎_elim (λ same. (old, Before, same, refl, untouched Before))
          (λ more. ⊎_elim (λ same. (add_operation (Attempted change) old, Before, same, refl, attempt Before)) (λ same. (add_operation (Done change) old, After, same, refl, performed After)) more) err

  -- ---- a bench is made

  module _ (x : Drawn) (may : MayMake v x) where
    base_in : x.base < length w.history
    base_in = seen_in x.base may.base

    given_in : IsIn x.name w.given
    given_in = sees.given x.name may.given

    make_happens : (went : Went) → did (told_world w v.number (learns (length w.history) place.MakeBench went) (labelled went x.name []) [] (either went (begun_txn w.history x ∷ []) []) (either went [] (x.name ∷ []))) (answer went)
        ≡ (if nat_lt v.number (length w.passes) && is_outside v.number w.lock then made (with_named (x ∷ []) w) v.number 0 went (Some x) else barred (with_named (x ∷ []) w))
    make_happens went = sym (ap (λ b. cond b (made (with_named (x ∷ []) w) v.number 0 went (Some x)) (barred (with_named (x ∷ []) w))) (both may.outside))

    make_turn : Turn (λ went u. BenchMade x went v u)
    make_turn new trace safe_then went = tells layout low young stuck old w v store sees (with_named (x ∷ [])) (step.MakeBench v.number 0 went) (answer went) (λ n. learns n place.MakeBench went)
        (labelled went x.name []) [] (either went (begun_txn w.history x ∷ []) []) (either went [] (x.name ∷ [])) (kept_named w x store.kept base_in given_in) (make_happens went) refl refl new trace safe_then

    pub make_comes : {X E : Type 0} (told : Option Trace) (l : Label) (result : Result X E) → OnOk result (Performs (KeepLabel l) (Some old) told) → OnErr result (FailsAt (KeepLabel l) (Some old) told)
        → Comes layout low young stuck told w v result (λ went u. BenchMade x went v u)
    make_comes told l result ok err = label_call (KeepLabel l) (unshown_keep l) (λ went u. BenchMade x went v u) told result (done_so result ok) err make_turn
      where
        done_so : {X E : Type 0} (result : Result X E) → OnOk result (Performs (KeepLabel l) (Some old) told) → OnOk result ((told ≡ Some old) ⊎ Performs (KeepLabel l) (Some old) told)
        done_so (Ok x) done = inr done
        done_so (Err e) done = tt

  -- ---- a label is dropped

  pub dropped_so : {E : Type 0} (told : Option Trace) (l : Label) (result : Result Bool E) → IfOk result (λ there. PerformsIfThere there (DropLabel l) (Some old) told) → OnOk result ((told ≡ Some old) ⊎ Performs (DropLabel l) (Some old) told)
  dropped_so told l (Ok true) done = inr done
  dropped_so told l (Ok false) done = inl done
  dropped_so told l (Err e) done = tt

  pub purge_comes : {E : Type 0} (told : Option Trace) (l : Label) (txn : Txn) → MayPurge v txn → (result : Result Bool E) → IfOk result (λ there. PerformsIfThere there (DropLabel l) (Some old) told) → OnErr result (FailsAt (DropLabel l) (Some old) told)
      → Comes layout low young stuck told w v result (λ went u. Purged txn went v u)
  purge_comes told l txn may result ok err = label_call (DropLabel l) (unshown_drop l) (λ went u. Purged txn went v u) told result (dropped_so told l result ok) err turn
    where
      over : IsTxnOver w.history txn
      over = txn_later v.seen w.history txn (drop v.pass.seen w.history, take_drop v.pass.seen w.history ∙ ap (λ l. l ++ drop v.pass.seen w.history) (sym sees.seen)) (let b = may.base in omega (arith, b)) may.over

      happens : (went : Went) → did (told_world w v.number (learns (length w.history) place.Remove went) (unlabelled went txn.name (txn.name ∷ [])) [] [] []) (answer went)
          ≡ (if nat_lt v.number (length w.passes) && is_outside v.number w.lock then purged (with_txns (txn ∷ []) w) v.number 0 went (Some txn) else barred (with_txns (txn ∷ []) w))
      happens went = sym (ap (λ b. cond b (purged (with_txns (txn ∷ []) w) v.number 0 went (Some txn)) (barred (with_txns (txn ∷ []) w))) (both may.outside))

      turn : Turn (λ went u. Purged txn went v u)
      turn new trace safe_then went = tells layout low young stuck old w v store sees (with_txns (txn ∷ [])) (step.Purge v.number 0 went) (answer went) (λ n. learns n place.Remove went)
          (unlabelled went txn.name (txn.name ∷ [])) [] [] [] (kept_one w txn store.kept over (sees.given txn.name may.given)) (happens went) refl refl new trace safe_then

  pub spent_comes : {E : Type 0} (told : Option Trace) (l : Label) (name : ℕ) → v.section ≡ None → IsIn name v.given → (result : Result Bool E) → IfOk result (λ there. PerformsIfThere there (DropLabel l) (Some old) told) → OnErr result (FailsAt (DropLabel l) (Some old) told)
      → Comes layout low young stuck told w v result (λ went u. SpentPurged name went v u)
  spent_comes told l name outside given result ok err = label_call (DropLabel l) (unshown_drop l) (λ went u. SpentPurged name went v u) told result (dropped_so told l result ok) err turn
    where
      happens : (went : Went) → did (told_world w v.number (learns (length w.history) place.Remove went) (unlabelled went name (name ∷ [])) [] [] []) (answer went)
          ≡ (if nat_lt v.number (length w.passes) && is_outside v.number w.lock then purged_spent (with_spent name w) v.number 0 went (Some name) else barred (with_spent name w))
      happens went = sym (ap (λ b. cond b (purged_spent (with_spent name w) v.number 0 went (Some name)) (barred (with_spent name w))) (both outside))

      turn : Turn (λ went u. SpentPurged name went v u)
      turn new trace safe_then went = tells layout low young stuck old w v store sees (with_spent name) (step.PurgeSpent v.number 0 went) (answer went) (λ n. learns n place.Remove went)
          (unlabelled went name (name ∷ [])) [] [] [] (kept_spent w name store.kept (sees.given name given)) (happens went) refl refl new trace safe_then
