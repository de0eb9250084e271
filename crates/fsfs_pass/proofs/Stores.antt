-- The steps that leave the disk as it is, at the table.
use Rattle.std.proofs.Common.{◌≡◌, ◌≤◌, ◌+◌, ◌-◌, ℕ, List, [], ◌∷◌, ◌++◌, length, true, inl, inr, ⊎_elim, sym, ap, subst, ◌∙◌, refl, arith, length-append}
use Rattle.std.specs.Prelude.{None, Some, slice_set, if◌then◌else◌}
use Rattle.fsfs_fetch.specs.Views.{Later}
use Rattle.fsfs_disk.specs.Trace.{Trace, files_now}
use Rattle.fsfs_base.specs.declared.places.place.DiskPlace.{DiskPlace}
use Rattle.fsfs_machine.specs.declared.machine.Coming.{Coming}
use Rattle.fsfs_machine.specs.declared.machine.Section.{Section}
use Rattle.fsfs_machine.specs.declared.machine.Section.TheVariants.{Begun, CurrentFirm, Doubtful, FloorDoubtful, Over}
use Rattle.fsfs_machine.specs.declared.machine.Lock.{Lock}
use Rattle.fsfs_machine.specs.declared.machine.Lock.TheVariants.{Free, Held, Stuck, StuckFloor}
use Rattle.fsfs_machine.specs.declared.machine.Step.TheVariants as step
use Rattle.fsfs_machine.specs.Machine.{stuck_place, recorded}
use Rattle.fsfs_turn.specs.Alone.{are_harmless, is_doubtful_at}
use Rattle.fsfs_turn.specs.Past.{doubt, stuck_with, Safe}
use Rattle.fsfs_turn.specs.Standing.{IsStore}
use Rattle.fsfs_turn.specs.Views.{View, Sees, is_held, left_by, coming_at, Looked, LockTaken, FoundStuck, MayGive, MustStick, LockGiven, Revealed}
use Rattle.fsfs_turn.specs.Telling.{TellsSeen}
use Rattle.fsfs_turn.proofs.Moves.{Moved}
use Rattle.fsfs_turn.proofs.Locking.{quiet_left, look_comes, take_comes, find_comes, held_in, give_comes, stick_comes, stick_floor_comes, reveal_comes}
use Rattle.fsfs_pass.specs.declared.seats.seat_view.SeatView.{SeatView}
use Rattle.fsfs_pass.specs.LockWords.{lock_word, place_number}
use Rattle.fsfs_pass.specs.Seats.{is_left, view_of, look_view, lock_view, stuck_view, outside_view, reveal_view, Sits}
use Rattle.fsfs_pass.specs.Met.{Lasts, Met, known_last, seat_store}
use Rattle.fsfs_pass.specs.Rule.{Store}
use Rattle.fsfs_pass.proofs.Following.{lasts_same, tells_seen, later_now}
use Rattle.fsfs_pass.proofs.Accounts.{Turns, LeavesSo, quiet_turn, harmful_so}
use Rattle.fsfs_pass.proofs.Locks.{place_above, stuck_word}
use Rattle.fsfs_pass.proofs.Others.{Adds, seated, seat_sees, seat_safe, meets, still_met, goes_on}

module _ (first : SeatView) (views : List SeatView) (lock young : ℕ) (t : Trace) (s : Store first views lock young t) (id : ℕ) (me : SeatView) (at : Sits views id me) where
  sees : Sees s.world (view_of me)
  sees = seat_sees first views lock young t s id me at

  safe : Safe first.layout me.since t me.opened s.world.history (doubt s.world.lock)
  safe = seat_safe first views lock young t s id me at

  unchanged : Lasts first.layout (length s.world.history) (files_now t) (files_now t)
  unchanged = lasts_same first.layout (length s.world.history) (files_now t)

  -- what the step tells, and that the table holds the state after it
  abbrev Comes : SeatView → ℕ → ℕ → (View → View → Type 0) → Type 0
  Comes u lock2 young2 Tells = Tells (view_of me) (view_of u) × Store first (slice_set views id u) lock2 young2 t

  -- where the seat meets the trace as it is
  meeting : (u : SeatView) (l : Lock) (lock2 young2 : ℕ) (Tells : View → View → Type 0) → u.kin ≡ me.kin → u.low ≡ me.low → u.met ≡ Some t → lock2 ≡ lock_word l → (u.sure ≡ true → is_held u.section ≡ true) → Adds me u young young2 → Turns me u lock lock2 → LeavesSo me u (stuck_with s.world.lock) (stuck_with l)
      → Tells (view_of me) (view_of u) × Moved first.layout first.low young2 t s.world (view_of me) (view_of u) l → Comes u lock2 young2 Tells
  meeting u l lock2 young2 Tells kin low met lock_is sure adds turns leaves step =
      (step.0, goes_on first views lock young t s id me at u l lock2 young2 t step.1 kin low lock_is sure unchanged s.own s.short (meets first views lock young t s id me at u l young2 t step.1 met) adds turns (subst (λ o. LeavesSo me u (stuck_with s.world.lock) o) (sym (ap (λ k. stuck_with k) step.1.lock_is)) leaves))

  -- where it doesn't
  aside : (u : SeatView) (l : Lock) (lock2 : ℕ) (Tells : View → View → Type 0) → u.kin ≡ me.kin → u.low ≡ me.low → u.met ≡ me.met → length u.seen ≡ length me.seen → u.pass.least ≤ me.pass.least → length u.pass.mine ≡ length me.pass.mine → lock2 ≡ lock_word l → (u.sure ≡ true → is_held u.section ≡ true) → Turns me u lock lock2 → LeavesSo me u (stuck_with s.world.lock) (stuck_with l)
      → Tells (view_of me) (view_of u) × Moved first.layout first.low young t s.world (view_of me) (view_of u) l → Comes u lock2 young Tells
  aside u l lock2 Tells kin low met seen least mine lock_is sure turns leaves step = (
    step.0,
    goes_on first views lock young t s id me at u l lock2 young t step.1 kin low lock_is sure unchanged s.own s.short (still_met first views lock young t s id me at u l young t step.1 unchanged met (omega (arith, seen)) least)
        record { seen = omega (arith, seen); own = omega (arith, mine); known = inl refl } turns (subst (λ o. LeavesSo me u (stuck_with s.world.lock) o) (sym (ap (λ k. stuck_with k) step.1.lock_is)) leaves),
  )

  -- ---- the lock

  -- it is held where the pass is in a section
  held_word : (inside : Section) → me.section ≡ Some inside → lock ≡ 1
  held_word inside is = s.lock_is ∙ ap (λ l. lock_word l) (held_in first.layout first.low young (stuck_place s.world.lock) t s.world (view_of me) s.store sees safe inside is)

  -- nor is the lock stuck then
  held_leaves : (inside : Section) → me.section ≡ Some inside → stuck_with s.world.lock ≡ None
  held_leaves inside is = ap (λ l. stuck_with l) (held_in first.layout first.low young (stuck_place s.world.lock) t s.world (view_of me) s.store sees safe inside is)

  takes_turn : s.world.lock ≡ Free → Turns me (lock_view me) lock 1
  takes_turn free =
      let zero : lock ≡ 0 = s.lock_is ∙ ap (λ l. lock_word l) free in
      record { sound = λ so few. refl; found = λ f is. absurd (let le = f is in omega (arith, le, zero)); stuck = λ le. absurd (omega (arith, le, zero)); cause = inr (inl (inl (refl, refl))) }

  finds_turn : (place : DiskPlace) → stuck_place s.world.lock ≡ Some place → Turns me (stuck_view place me) lock lock
  finds_turn place is =
      let word : lock ≡ place_number place = s.lock_is ∙ stuck_word s.world.lock place is in
      record { sound = λ so. so; found = λ f found. (let le = place_above place in omega (arith, le, word)); stuck = λ le. le; cause = inr (inr (refl, λ has. has)) }

  gives_turn : MayGive (view_of me) → Turns me (outside_view me) lock 0
  gives_turn may =
      let one = held_word may.inside may.is in
      record { sound = λ so few. refl; found = λ f is. absurd (let le = f is in omega (arith, le, one)); stuck = λ le. absurd (omega (arith, le, one)); cause = inl refl }

  sticks_turn : (place : DiskPlace) → is_doubtful_at me.section ≡ true → Turns me (outside_view me) lock (place_number place)
  sticks_turn place doubtful =
      let sound = s.causes.sound id me at.0 (ap (λ st. is_left st) at.1) in
      record {
        sound = λ so few. refl;
        found = λ f is. place_above place;
        stuck = λ le. place_above place;
        cause = inr (inl (inr (harmful_so (are_harmless me.pass.faults) (λ few. sym doubtful ∙ sound few))));
      }

  reveals_turn : (x : Coming) → Turns me (reveal_view x (Some t) me) lock lock
  reveals_turn x = record { sound = λ so few. refl; found = λ f. f; stuck = λ le. le; cause = inr (inr (refl, λ has. ⊎_elim (λ h. inl (h.0, refl)) (λ h. inr h) has)) }

  pub looks : Comes (look_view young (Some t) me) lock young (λ v u. Looked young v u)
  looks = meeting (look_view young (Some t) me) s.world.lock lock young (λ v u. Looked young v u) refl refl refl s.lock_is (λ e. e) record { seen = omega arith; own = refl; known = inl refl } (quiet_turn me (look_view young (Some t) me) lock refl refl refl) (inl (refl, refl))
      (look_comes first.layout first.low young (stuck_place s.world.lock) t s.world (view_of me) s.store sees safe)

  pub takes : s.world.lock ≡ Free → Comes (lock_view me) 1 young (λ v u. LockTaken v u)
  takes free = aside (lock_view me) (Held me.number Begun) 1 (λ v u. LockTaken v u) refl refl refl refl (omega arith) refl refl (λ e. refl) (takes_turn free) (inl (sym (ap (λ k. stuck_with k) free), refl))
      (take_comes first.layout first.low young (stuck_place s.world.lock) t s.world (view_of me) s.store sees safe free)

  pub finds : (place : DiskPlace) → stuck_place s.world.lock ≡ Some place → Comes (stuck_view place me) lock young (λ v u. FoundStuck place v u)
  finds place is = aside (stuck_view place me) s.world.lock lock (λ v u. FoundStuck place v u) refl refl refl refl (omega arith) refl s.lock_is (seated first views lock young t s id me at).sure (finds_turn place is) (inl (refl, refl))
      (find_comes first.layout first.low young (stuck_place s.world.lock) t s.world (view_of me) s.store sees safe place is)

  pub gives : MayGive (view_of me) → Comes (outside_view me) 0 young (λ v u. LockGiven (step.GiveLock v.number) v u)
  gives may = aside (outside_view me) Free 0 (λ v u. LockGiven (step.GiveLock v.number) v u) refl refl refl refl (omega arith) refl refl (λ e. absurd cc) (gives_turn may) (inl (sym (held_leaves may.inside may.is), ap (λ o. left_by o me.left) may.is ∙ quiet_left may.inside me.left may.quiet))
      (give_comes first.layout first.low young (stuck_place s.world.lock) t s.world (view_of me) s.store sees safe may.inside may.is may.quiet)

  -- by a fault that leaves a revision in doubt, or which of two floors a crash leaves
  sticks_doubtful : (place : DiskPlace) (x : Coming) → me.section ≡ Some (Doubtful place x) → Comes (outside_view me) (place_number place) young (λ v u. LockGiven (step.StickLock v.number) v u)
  sticks_doubtful place x inside = aside (outside_view me) (Stuck place x) (place_number place) (λ v u. LockGiven (step.StickLock v.number) v u) refl refl refl refl (omega arith) refl refl (λ e. absurd cc) (sticks_turn place (ap (λ o. is_doubtful_at o) inside)) (inr (x, held_leaves (Doubtful place x) inside, refl, ap (λ o. left_by o me.left) inside))
      (stick_comes first.layout first.low young (stuck_place s.world.lock) t s.world (view_of me) s.store sees safe place x inside)

  sticks_floor : (place : DiskPlace) → me.section ≡ Some (FloorDoubtful place) → Comes (outside_view me) (place_number place) young (λ v u. LockGiven (step.StickLock v.number) v u)
  sticks_floor place inside = aside (outside_view me) (StuckFloor place) (place_number place) (λ v u. LockGiven (step.StickLock v.number) v u) refl refl refl refl (omega arith) refl refl (λ e. absurd cc) (sticks_turn place (ap (λ o. is_doubtful_at o) inside)) (inl (sym (held_leaves (FloorDoubtful place) inside), ap (λ o. left_by o me.left) inside))
      (stick_floor_comes first.layout first.low young (stuck_place s.world.lock) t s.world (view_of me) s.store sees safe place inside)

  pub sticks : (place : DiskPlace) → MustStick place (view_of me) → Comes (outside_view me) (place_number place) young (λ v u. LockGiven (step.StickLock v.number) v u)
  sticks place must = ⊎_elim
      (λ (d : (x : Coming) × (me.section ≡ Some (Doubtful place x))). sticks_doubtful place d.0 d.1)
      (λ (inside : me.section ≡ Some (FloorDoubtful place)). sticks_floor place inside) must

  reveal_adds : (x : Coming) (rev : ℕ) → me.section ≡ Some (CurrentFirm x) → rev ≡ length me.seen → Adds me (reveal_view x (Some t) me) young rev
  reveal_adds x rev inside rev_is =
      let all : length me.seen ≡ length s.world.history = ap length (sees.whole x (ap (λ o. coming_at o) inside)) in
      let long : s.world.young + 1 ≡ length s.world.history = s.store.kept.young s.up in
      let young_is : s.world.young ≡ young = s.store.young_is in
      let seen : length (me.seen ++ recorded x ∷ []) ≡ length me.seen + 1 = length-append me.seen (recorded x ∷ []) in
      let mine : length (me.pass.mine ++ length me.seen ∷ []) ≡ length me.pass.mine + 1 = length-append me.pass.mine (length me.seen ∷ []) in
      record { seen = omega (arith, seen); own = omega (arith, mine, all, long, young_is, rev_is); known = inr (omega (arith, seen, rev_is)) }

  pub reveals : (x : Coming) (rev : ℕ) → me.section ≡ Some (CurrentFirm x) → rev ≡ length me.seen → Comes (reveal_view x (Some t) me) lock rev (λ v u. Revealed x v u)
  reveals x rev inside rev_is = meeting (reveal_view x (Some t) me) (Held me.number Over) lock rev (λ v u. Revealed x v u) refl refl refl
      (s.lock_is ∙ ap (λ l. lock_word l) (held_in first.layout first.low young (stuck_place s.world.lock) t s.world (view_of me) s.store sees safe (CurrentFirm x) inside)) (λ e. absurd cc) (reveal_adds x rev inside rev_is) (reveals_turn x) (inl (sym (held_leaves (CurrentFirm x) inside), refl))
      (reveal_comes first.layout first.low young (stuck_place s.world.lock) t s.world (view_of me) s.store sees safe x inside rev rev_is)

  -- ---- what its seat tells

  -- what the pass has seen
  pub tells : me.told ≡ true → TellsSeen me.low (seat_store me) (view_of me)
  tells told = let o = seated first views lock young t s id me at in
      tells_seen s.world t o.met.0 me (subst (λ l. Met l s.world t me o.met.0) (sym o.layout) o.met.2) (s.store.low_is ∙ sym o.low) told o.met.1 o.sees

  -- if it meets the trace as it is it tells what is later
  pub later : (u : SeatView) → me.told ≡ true → u.met ≡ Some t → u.layout ≡ me.layout → u.low ≡ me.low → known_last me ≤ known_last u → Later (seat_store me) (seat_store u)
  later u told met layout low reach = let o = seated first views lock young t s id me at in
      later_now first.low young (stuck_place s.world.lock) s.world t o.met.0 me u (subst (λ l. IsStore l first.low young (stuck_place s.world.lock) t s.world) (sym o.layout) s.store) (subst (λ l. Met l s.world t me o.met.0) (sym o.layout) o.met.2) told o.met.1 met layout low reach

  -- a look tells of no fewer revisions than its pass knew of
  pub looks_further : me.told ≡ true → known_last me ≤ known_last (look_view young (Some t) me)
  looks_further told = subst (λ b. (if b then me.pass.least + (length me.seen - 1 - me.pass.least) else 0) ≤ (if b then young + (length me.seen - 1 - young) else 0)) (sym told) (omega (arith, looks.0.least, looks.0.seen))
