-- Looks and moves of the lock, by a pass of any number, and what the one pass of an owned store knows by them.
use Rattle.std.proofs.Common.{◌≡◌, ◌⊎◌, ◌<◌, ◌≤◌, ◌+◌, ℕ, suc, zero, List, [], ◌∷◌, ◌++◌, length, Bool, true, false, cond, inl, inr, ⊎_elim, refl, sym, ap, subst, ◌∙◌, arith, take, length-append}
use Rattle.std.specs.Prelude.{Option, Some, None, IfSome, slice_get, nat_lt, ◌&&◌, if◌then◌else◌}
use Rattle.std.proofs.lemmas.List.{take_all, take-append-le}
use Rattle.fsfs_layout.specs.declared.layout.Layout.{Layout}
use Rattle.fsfs_disk.specs.Trace.{Trace}
use Rattle.fsfs_machine.specs.declared.machine.Recorded.{Recorded}
use Rattle.fsfs_machine.specs.declared.machine.Coming.{Coming}
use Rattle.fsfs_base.specs.declared.places.place.DiskPlace.{DiskPlace}
use Rattle.fsfs_machine.specs.declared.machine.Pass.{Pass}
use Rattle.fsfs_machine.specs.declared.machine.Section.{Section}
use Rattle.fsfs_machine.specs.declared.machine.Section.TheVariants.{Begun, CountRead, CountPut, CountRenamed, RevPut, PropsPut, RevFirm, CurrentPut, CurrentRenamed, CurrentFirm, Doubtful, PackPut, ManifestPut, PackFirm, FloorPut, FloorRenamed, Packed, FloorDoubtful, Over}
use Rattle.fsfs_machine.specs.declared.machine.Lock.{Lock}
use Rattle.fsfs_machine.specs.declared.machine.Lock.TheVariants.{Free, Held, Stuck, Down, DownDoubtful, StuckFloor, DownFloor}
use Rattle.fsfs_machine.specs.declared.machine.Outcome.{Outcome}
use Rattle.fsfs_machine.specs.declared.machine.Outcome.TheVariants as outcome
use Rattle.fsfs_machine.specs.declared.machine.Step.{Step}
use Rattle.fsfs_machine.specs.declared.machine.Step.TheVariants as step
use Rattle.fsfs_machine.specs.Machine.{World, Happens, did, barred, at_place, held_by, inside, is_there, is_up, is_quiet, looked, taken, let_go, stuck_at, recorded, reveals, revealed, with_next, stuck_place}
use Rattle.fsfs_machine.specs.Kept.{Kept, IsHolder, coming, most_floor, may_rise}
use Rattle.fsfs_machine.proofs.Answering.{seen_of}
use Rattle.fsfs_machine.proofs.Steps.{step_keeps}
use Rattle.fsfs_machine.proofs.Whose.{length_at}
use Rattle.fsfs_turn.specs.Bytes.{BytesShow, AllShow}
use Rattle.fsfs_turn.specs.Views.{View, Turned, coming_at, is_held, Sees, with_txns, Looked, LockTaken, FoundStuck, left_by, outside, MustStick, LockGiven, revealed_view, Revealed}
use Rattle.fsfs_turn.specs.Past.{doubt, stuck_with, Safe}
pub use Rattle.fsfs_turn.specs.Found.{seen_within}
use Rattle.fsfs_turn.specs.Standing.{IsStore, Knows}
use Rattle.fsfs_turn.proofs.Moments.{begins_itself, quiet_doubt, safe_more, part_revealed}
use Rattle.fsfs_turn.proofs.Names.{names_stay}
use Rattle.fsfs_turn.proofs.FloorsRise.{floor_kept}
use Rattle.fsfs_turn.proofs.Moves.{Spares, Moved, held_other, known_moved}
use Rattle.fsfs_turn.proofs.TurnEnds.{at_other}
use Rattle.fsfs_turn.proofs.Stepping.{kept_bare, at_itself, held_here, lock_is}

pub there_in : {A : Type 0} (xs : List A) (p : ℕ) (x : A) → slice_get xs p ≡ Some x → nat_lt p (length xs) ≡ true
there_in [] p x e = absurd cc
there_in (y ∷ ys) zero x e = grind arith
there_in (y ∷ ys) (suc p) x e = let rest : nat_lt p (length ys) ≡ true = there_in ys p x e in grind (arith, rest)

-- with one revision more that shows, each first part shows
show_more : (h : List Recorded) (x : Coming) → AllShow h → BytesShow (with_next h x) → AllShow (with_next h x)
show_more h x shown next n some =
    ⊎_elim (λ less. subst (λ l. BytesShow l) (sym (take-append-le n h (recorded x ∷ []) less)) (shown n some))
    (λ more. let long : length (with_next h x) ≤ n = let e : length (with_next h x) ≡ length h + 1 = grind (arith, length-append) in omega (arith, more, e) in subst (λ l. BytesShow l) (sym (take_all n (with_next h x) long)) next)
    (split_at n (length h))
  where
    split_at : (a b : ℕ) → (a ≤ b) ⊎ (b < a)
    split_at zero b = inl (omega arith)
    split_at (suc a) zero = inr (omega arith)
    split_at (suc a) (suc b) = ⊎_elim (λ l. inl (omega (arith, l))) (λ l. inr (omega (arith, l))) (split_at a b)

-- ---- what a pass knows then

abbrev pub looked_view : ℕ → View → View
looked_view young v = record v { pass = record v.pass { least = young }; sure = is_held v.section }

abbrev pub locked_view : View → View
locked_view v = record v { section = Some Begun; sure = false; firm = None }

abbrev pub stuck_view : DiskPlace → View → View
stuck_view place v = record v { pass = record v.pass { stuck = Some place } }

-- ---- the steps

module _ (layout : Layout) (low young : ℕ) (stuck : Option DiskPlace) (t : Trace) (w : World) (v : View) (store : IsStore layout low young stuck t w) (sees : Sees w v) (safe : Safe layout v.since t v.opened w.history (doubt w.lock)) where
  there : is_there (with_txns [] w) v.number ≡ true
  there = there_in w.passes v.number v.pass sees.pass

  safe_as : (lock : Lock) → w.lock ≡ lock → Safe layout v.since t v.opened w.history (doubt lock)
  safe_as lock is = subst (λ l. Safe layout v.since t v.opened w.history (doubt l)) is safe

  -- the step keeps what is kept
  kept_by : (s : Step) (o : Outcome) (after : World) → Happens (with_txns [] w) s (did after o) → Kept (with_txns [] after)
  kept_by s o after happens = kept_bare after (step_keeps (with_txns [] w) s (did after o) happens store.kept).kept

  turned_by : (s : Step) (o : Outcome) (after : World) (u : View) → Happens (with_txns [] w) s (did after o) → Sees after u → Turned [] s o v u
  turned_by s o after u happens seen = record { world = w; kept = store.kept; sees = sees; did = did after o; happens = happens; answers = refl; after = kept_by s o after happens; leaves = seen }

  -- a step that leaves the disk and the history
  abbrev now : List Pass → Lock → World
  now passes lock = record (with_txns [] w) { passes = passes; lock = lock }

  abbrev knowing : Pass → Option Section → Bool → Option ℕ → Option Coming → View
  knowing pass section sure firm left = record v { pass = pass; section = section; sure = sure; firm = firm; left = left }

  moved_by : (s : Step) (o : Outcome) (passes : List Pass) (lock : Lock) (pass : Pass) (section : Option Section) (sure : Bool) (firm : Option ℕ) (left : Option Coming) → Happens (with_txns [] w) s (did (now passes lock) o) → Sees (now passes lock) (knowing pass section sure firm left)
      → IfSome (coming lock) (λ x. BytesShow (with_next w.history x)) → Safe layout v.since t v.opened w.history (doubt lock) → Spares v.number w (now passes lock) → Moved layout low young t w v (knowing pass section sure firm left) lock
  moved_by s o passes lock pass section sure firm left happens seen next safe spares = record {
    world = now passes lock;
    store = record { trace = store.trace; size = store.size; whole = store.whole; kept = kept_by s o (now passes lock) happens; shown = store.shown; coming = next; low_is = store.low_is; young_is = store.young_is; stuck_is = refl };
    lock_is = refl;
    sees = seen;
    safe = safe;
    spares = spares;
    layout_is = refl;
    since_is = refl;
    opened_is = refl;
    number_is = refl;
  }

  -- it changes what its pass knows
  pass_spares : (f : Pass → Pass) → Spares v.number w (now (at_place w.passes v.number f) w.lock)
  pass_spares f = record { passes = λ q apart. at_other w.passes v.number q f apart; count = length_at w.passes v.number f; grows = begins_itself w.history; locks = λ q apart. refl; still = λ q s apart held. (refl, refl); floor = λ q s apart held. refl; shown = floor_kept w.disk w.disk refl; low = refl; given = λ k i. i; full = λ last. last; disk = λ q s apart held. refl }

  -- it moves the lock
  lock_spares : (lock : Lock) → ((q : ℕ) → (q ≡ v.number → ⊥) → held_by q lock ≡ held_by q w.lock) → Spares v.number w (now w.passes lock)
  lock_spares lock locks = record { passes = λ q apart. refl; count = refl; grows = begins_itself w.history; locks = locks; still = λ q s apart held. (refl, refl); floor = λ q s apart held. refl; shown = floor_kept w.disk w.disk refl; low = refl; given = λ k i. i; full = λ last. last; disk = λ q s apart held. refl }

  -- ---- a look

  abbrev tells : Pass → Pass
  tells x = record x { least = w.young }

  look_happens : did (now (at_place w.passes v.number tells) w.lock) (outcome.Youngest w.young) ≡ (if is_there (with_txns [] w) v.number && is_up w.lock then looked (with_txns [] w) v.number else barred (with_txns [] w))
  look_happens = sym (ap (λ b. cond (b && is_up w.lock) (looked (with_txns [] w) v.number) (barred (with_txns [] w))) there ∙ ap (λ b. cond b (looked (with_txns [] w) v.number) (barred (with_txns [] w))) sees.up)

  look_sees : Sees (now (at_place w.passes v.number tells) w.lock) (looked_view young v)
  look_sees = record {
    pass = at_itself w.passes v.number tells v.pass sees.pass ∙ ap (λ k. Some (record v.pass { least = k })) store.young_is;
    seen = sees.seen;
    section = sees.section;
    up = sees.up;
    sure = λ e. store.young_is;
    whole = sees.whole;
    given = sees.given;
    opened = sees.opened;
    shown = sees.shown;
    names = sees.names;
    firm = sees.firm;
  }

  pub look_comes : Looked young v (looked_view young v) × Moved layout low young t w v (looked_view young v) w.lock
  look_comes = (
    record {
      turned = subst (λ k. Turned [] (step.Look v.number) (outcome.Youngest k) v (looked_view young v)) store.young_is (turned_by (step.Look v.number) (outcome.Youngest w.young) (now (at_place w.passes v.number tells) w.lock) (looked_view young v) look_happens look_sees);
      is = refl;
      least = let up : w.young + 1 ≡ length w.history = store.kept.young sees.up in omega (arith, up, store.young_is, (seen_of (length w.history) w.low (most_floor (may_rise w.lock) w.size w.floor) w.passes v.number v.pass store.kept.seen sees.pass).least);
      seen = let up : w.young + 1 ≡ length w.history = store.kept.young sees.up in omega (arith, up, store.young_is, seen_within w v sees);
    },
    moved_by (step.Look v.number) (outcome.Youngest w.young) (at_place w.passes v.number tells) w.lock (record v.pass { least = young }) v.section (is_held v.section) v.firm v.left look_happens look_sees store.coming safe (pass_spares tells),
  )

  -- ---- the lock is taken, or found stuck

  taken_at : (lock : Lock) → w.lock ≡ lock → taken (with_txns [] w) v.number lock ≡ (if is_there (with_txns [] w) v.number then taken (with_txns [] w) v.number w.lock else barred (with_txns [] w))
  taken_at lock is = sym (ap (λ b. cond b (taken (with_txns [] w) v.number w.lock) (barred (with_txns [] w))) there ∙ ap (λ l. taken (with_txns [] w) v.number l) is)

  take_sees : Sees (now w.passes (Held v.number Begun)) (locked_view v)
  take_sees = record { pass = sees.pass; seen = sees.seen; section = held_here v.number Begun; up = refl; sure = λ e. absurd cc; whole = λ x e. absurd cc; given = sees.given; opened = sees.opened; shown = sees.shown; names = names_stay v.full v.section (Some Begun) w.disk w.disk refl refl sees.names; firm = λ s f at e. absurd cc }

  pub take_comes : w.lock ≡ Free → LockTaken v (locked_view v) × Moved layout low young t w v (locked_view v) (Held v.number Begun)
  take_comes free = (
    record { turned = turned_by (step.TakeLock v.number) outcome.Done (now w.passes (Held v.number Begun)) (locked_view v) (taken_at Free free) take_sees; is = refl },
    moved_by (step.TakeLock v.number) outcome.Done w.passes (Held v.number Begun) v.pass (Some Begun) false None v.left (taken_at Free free) take_sees tt (safe_as Free free)
        (lock_spares (Held v.number Begun) (λ q apart. held_other v.number q Begun apart ∙ sym (ap (λ l. held_by q l) free))),
  )

  abbrev learns_of : DiskPlace → Pass → Pass
  learns_of place x = record x { stuck = Some place }

  find_sees : (place : DiskPlace) → Sees (now (at_place w.passes v.number (learns_of place)) w.lock) (stuck_view place v)
  find_sees place = record { pass = at_itself w.passes v.number (learns_of place) v.pass sees.pass; seen = sees.seen; section = sees.section; up = sees.up; sure = sees.sure; whole = sees.whole; given = sees.given; opened = sees.opened; shown = sees.shown; names = sees.names; firm = sees.firm }

  abbrev Finds : DiskPlace → Type 0
  Finds place = did (now (at_place w.passes v.number (learns_of place)) w.lock) (outcome.Stuck place) ≡ (if is_there (with_txns [] w) v.number then taken (with_txns [] w) v.number w.lock else barred (with_txns [] w))

  find_happens : (place : DiskPlace) (lock : Lock) → w.lock ≡ lock → stuck_place lock ≡ Some place → Finds place
  find_happens place (Stuck at x) is e = let same : at ≡ place = cc in subst (λ p. Finds p) same (taken_at (Stuck at x) is)
  find_happens place (StuckFloor at) is e = let same : at ≡ place = cc in subst (λ p. Finds p) same (taken_at (StuckFloor at) is)
  find_happens place lock is e = absurd cc

  pub find_comes : (place : DiskPlace) → stuck_place w.lock ≡ Some place → FoundStuck place v (stuck_view place v) × Moved layout low young t w v (stuck_view place v) w.lock
  find_comes place at = (
    record { turned = turned_by (step.TakeLock v.number) (outcome.Stuck place) (now (at_place w.passes v.number (learns_of place)) w.lock) (stuck_view place v) (find_happens place w.lock refl at) (find_sees place); is = refl },
    moved_by (step.TakeLock v.number) (outcome.Stuck place) (at_place w.passes v.number (learns_of place)) w.lock (learns_of place v.pass) v.section v.sure v.firm v.left (find_happens place w.lock refl at) (find_sees place) store.coming safe (pass_spares (learns_of place)),
  )

  -- ---- it is given, or left stuck

  -- who is in a section holds it
  pub held_in : (s : Section) → v.section ≡ Some s → w.lock ≡ Held v.number s
  held_in s is = lock_is v.number w.lock s (sees.section ∙ is)

  others_none : (s : Section) → v.section ≡ Some s → (q : ℕ) → (q ≡ v.number → ⊥) → held_by q w.lock ≡ None
  others_none s is q apart = ap (λ l. held_by q l) (held_in s is) ∙ held_other v.number q s apart

  outside_sees : (lock : Lock) → held_by v.number lock ≡ None → is_up lock ≡ true → Sees (now w.passes lock) (outside v)
  outside_sees lock none up = record { pass = sees.pass; seen = sees.seen; section = none; up = up; sure = λ e. absurd cc; whole = λ x e. absurd cc; given = sees.given; opened = sees.opened; shown = sees.shown; names = names_stay v.full v.section None w.disk w.disk refl refl sees.names; firm = λ s f at e. absurd cc }

  give_happens : (s : Section) → v.section ≡ Some s → is_quiet s ≡ true → did (now w.passes Free) outcome.Done ≡ inside (with_txns [] w) (let_go (with_txns [] w)) (held_by v.number w.lock)
  give_happens s is quiet = sym (ap (λ o. inside (with_txns [] w) (let_go (with_txns [] w)) o) (sees.section ∙ is) ∙ ap (λ b. cond b (did (now w.passes Free) outcome.Done) (barred (with_txns [] w))) quiet)

  pub give_comes : (s : Section) → v.section ≡ Some s → is_quiet s ≡ true → LockGiven (step.GiveLock v.number) v (outside v) × Moved layout low young t w v (outside v) Free
  give_comes s is quiet = (
    record { turned = turned_by (step.GiveLock v.number) outcome.Done (now w.passes Free) (outside v) (give_happens s is quiet) (outside_sees Free refl refl); is = refl },
    moved_by (step.GiveLock v.number) outcome.Done w.passes Free v.pass None false v.firm (left_by v.section v.left) (give_happens s is quiet) (outside_sees Free refl refl) tt
        (subst (λ d. Safe layout v.since t v.opened w.history d) (quiet_doubt s quiet) (safe_as (Held v.number s) (held_in s is)))
        (lock_spares Free (λ q apart. sym (others_none s is q apart))),
  )

  -- the bytes of the revision to come show it
  next_shows : (s : Section) (x : Coming) → v.section ≡ Some s → coming_at (Some s) ≡ Some x → BytesShow (with_next w.history x)
  next_shows s x is comes = subst (λ o. IfSome o (λ y. BytesShow (with_next w.history y))) comes (subst (λ l. IfSome (coming l) (λ y. BytesShow (with_next w.history y))) (held_in s is) store.coming)

  stick_happens : (place : DiskPlace) (x : Coming) → v.section ≡ Some (Doubtful place x) → did (now w.passes (Stuck place x)) outcome.Done ≡ inside (with_txns [] w) (stuck_at (with_txns [] w)) (held_by v.number w.lock)
  stick_happens place x is = sym (ap (λ o. inside (with_txns [] w) (stuck_at (with_txns [] w)) o) (sees.section ∙ is))

  pub stick_comes : (place : DiskPlace) (x : Coming) → v.section ≡ Some (Doubtful place x) → LockGiven (step.StickLock v.number) v (outside v) × Moved layout low young t w v (outside v) (Stuck place x)
  stick_comes place x is = (
    record { turned = turned_by (step.StickLock v.number) outcome.Done (now w.passes (Stuck place x)) (outside v) (stick_happens place x is) (outside_sees (Stuck place x) refl refl); is = refl },
    moved_by (step.StickLock v.number) outcome.Done w.passes (Stuck place x) v.pass None false v.firm (left_by v.section v.left) (stick_happens place x is) (outside_sees (Stuck place x) refl refl) (next_shows (Doubtful place x) x is refl)
        (safe_as (Held v.number (Doubtful place x)) (held_in (Doubtful place x) is))
        (lock_spares (Stuck place x) (λ q apart. sym (others_none (Doubtful place x) is q apart))),
  )

  stick_floor_happens : (place : DiskPlace) → v.section ≡ Some (FloorDoubtful place) → did (now w.passes (StuckFloor place)) outcome.Done ≡ inside (with_txns [] w) (stuck_at (with_txns [] w)) (held_by v.number w.lock)
  stick_floor_happens place is = sym (ap (λ o. inside (with_txns [] w) (stuck_at (with_txns [] w)) o) (sees.section ∙ is))

  pub stick_floor_comes : (place : DiskPlace) → v.section ≡ Some (FloorDoubtful place) → LockGiven (step.StickLock v.number) v (outside v) × Moved layout low young t w v (outside v) (StuckFloor place)
  stick_floor_comes place is = (
    record { turned = turned_by (step.StickLock v.number) outcome.Done (now w.passes (StuckFloor place)) (outside v) (stick_floor_happens place is) (outside_sees (StuckFloor place) refl refl); is = refl },
    moved_by (step.StickLock v.number) outcome.Done w.passes (StuckFloor place) v.pass None false v.firm (left_by v.section v.left) (stick_floor_happens place is) (outside_sees (StuckFloor place) refl refl) tt
        (safe_as (Held v.number (FloorDoubtful place)) (held_in (FloorDoubtful place) is))
        (lock_spares (StuckFloor place) (λ q apart. sym (others_none (FloorDoubtful place) is q apart))),
  )

  -- ---- its revision joins the history

  module _ (x : Coming) (is : v.section ≡ Some (CurrentFirm x)) where
    abbrev shown_on : World
    shown_on = record (with_txns [] w) { history = with_next w.history x; since = w.since ++ x.entry ∷ []; young = length w.history; lock = Held v.number Over; passes = at_place w.passes v.number (reveals (length w.history)) }

    all : v.seen ≡ w.history
    all = sees.whole x (ap (λ o. coming_at o) is)

    reveal_happens : did shown_on outcome.Done ≡ inside (with_txns [] w) (revealed (with_txns [] w) v.number) (held_by v.number w.lock)
    reveal_happens = sym (ap (λ o. inside (with_txns [] w) (revealed (with_txns [] w) v.number) o) (sees.section ∙ is))

    all_show : AllShow (with_next w.history x)
    all_show = show_more w.history x store.shown (next_shows (CurrentFirm x) x is refl)

    one_more : (h : List Recorded) → length (with_next h x) ≤ length h + 1
    one_more h = grind (arith, length-append)

    reveal_sees : Sees shown_on (revealed_view x v)
    reveal_sees = record {
      pass = at_itself w.passes v.number (reveals (length w.history)) v.pass sees.pass ∙ ap (λ h. Some (reveals (length h) v.pass)) (sym all);
      seen = sym (ap (λ h. take (length v.seen + 1) (with_next h x)) (sym all) ∙ take_all (length v.seen + 1) (with_next v.seen x) (one_more v.seen));
      section = held_here v.number Over;
      up = refl;
      sure = λ e. absurd cc;
      whole = λ y e. absurd cc;
      given = sees.given;
      opened = let e : length (with_next w.history x) ≡ length w.history + 1 = grind (arith, length-append) in omega (arith, e, sees.opened);
      shown = subst (λ h. AllShow (with_next h x)) (sym all) all_show;
      names = names_stay v.full v.section (Some Over) w.disk w.disk refl refl sees.names;
      firm = λ s f at e. sees.firm (CurrentFirm x) f is e;
    }

    reveal_spares : Spares v.number w shown_on
    reveal_spares = record {
      passes = λ q apart. at_other w.passes v.number q (reveals (length w.history)) apart;
      count = length_at w.passes v.number (reveals (length w.history));
      grows = (recorded x ∷ [], refl);
      locks = λ q apart. held_other v.number q Over apart ∙ sym (others_none (CurrentFirm x) is q apart);
      still = λ q s apart held. let none : held_by q w.lock ≡ None = others_none (CurrentFirm x) is q apart in absurd cc;
      floor = λ q s apart held. refl;
      shown = floor_kept w.disk w.disk refl;
      low = refl;
      given = λ k i. i;
      full = λ last. last;
      disk = λ q s apart held. refl;
    }

    pub reveal_comes : (rev : ℕ) → rev ≡ length v.seen → Revealed x v (revealed_view x v) × Moved layout low rev t w v (revealed_view x v) (Held v.number Over)
    reveal_comes rev rev_is = (
      record { turned = turned_by (step.Reveal v.number) outcome.Done shown_on (revealed_view x v) reveal_happens reveal_sees; is = refl },
      record {
        world = shown_on;
        store = record { trace = store.trace; size = store.size; whole = store.whole; kept = kept_by (step.Reveal v.number) outcome.Done shown_on reveal_happens; shown = all_show; coming = tt; low_is = store.low_is; young_is = ap length (sym all) ∙ sym rev_is; stuck_is = refl };
        lock_is = refl;
        sees = reveal_sees;
        safe = safe_more layout v.since v.opened t w.history (with_next w.history x) (Some x) None (λ g q. part_revealed w.history x g q) (safe_as (Held v.number (CurrentFirm x)) (held_in (CurrentFirm x) is));
        spares = reveal_spares;
        layout_is = refl;
        since_is = refl;
        opened_is = refl;
        number_is = refl;
      },
    )

-- ---- of an owned store

-- a section that may be left leaves no revision in doubt
pub quiet_left : (s : Section) (left : Option Coming) → is_quiet s ≡ true → left_by (Some s) left ≡ left
quiet_left (Doubtful place x) left quiet = absurd cc
quiet_left Begun left quiet = refl
quiet_left (CountRead x) left quiet = refl
quiet_left (CountPut x) left quiet = refl
quiet_left (CountRenamed x) left quiet = refl
quiet_left (RevPut x) left quiet = refl
quiet_left (PropsPut x) left quiet = refl
quiet_left (RevFirm x) left quiet = refl
quiet_left (CurrentPut x) left quiet = refl
quiet_left (CurrentRenamed x) left quiet = refl
quiet_left (CurrentFirm x) left quiet = refl
quiet_left PackPut left quiet = refl
quiet_left ManifestPut left quiet = refl
quiet_left PackFirm left quiet = refl
quiet_left FloorPut left quiet = refl
quiet_left FloorRenamed left quiet = refl
quiet_left Packed left quiet = refl
quiet_left (FloorDoubtful place) left quiet = refl
quiet_left Over left quiet = refl

module _ (layout : Layout) (low young : ℕ) (stuck : Option DiskPlace) (t : Trace) (w : World) (v : View) (store : IsStore layout low young stuck t w) (sees : Sees w v) (layout_is : v.layout ≡ layout) (number_is : v.number ≡ 0) (safe : Safe layout v.since t v.opened w.history (doubt w.lock)) (alone : length w.passes ≡ 1)
    (left_so : stuck_with w.lock ≡ v.left) where
  known_so : (youngest : ℕ) (at : Option DiskPlace) (u : View) (lock : Lock) (P : View → Type 0) → stuck_place lock ≡ at → stuck_with lock ≡ u.left → P u × Moved layout low youngest t w v u lock → (z : View) × Knows layout low youngest at (Some t) z × P z
  known_so youngest at u lock P at_is left_is comes = (u, known_moved layout low youngest at t w v u lock layout_is number_is alone at_is left_is comes.1, comes.0)

  -- nobody holds the lock where its pass is in no section
  not_held : v.section ≡ None → (q : ℕ) (s : Section) → w.lock ≡ Held q s → ⊥
  not_held none q s is =
      let holder : IsHolder (length w.passes) (Held q s) = subst (λ l. IsHolder (length w.passes) l) is store.kept.holder in
      let zero_is : q ≡ 0 = omega (arith, holder.0, alone) in
      let here : held_by v.number (Held q s) ≡ Some s = ap (λ n. held_by n (Held q s)) number_is ∙ ap (λ n. held_by 0 (Held n s)) zero_is ∙ held_here 0 s in
      let not : held_by v.number (Held q s) ≡ None = ap (λ l. held_by v.number l) (sym is) ∙ sees.section ∙ none in
      cc

  -- then the revision in doubt is the one that it left so
  pub doubt_left : v.section ≡ None → doubt w.lock ≡ v.left
  doubt_left none = by_lock w.lock refl ∙ left_so
    where
      by_lock : (lock : Lock) → w.lock ≡ lock → doubt w.lock ≡ stuck_with w.lock
      by_lock Free is = ap (λ l. doubt l) is ∙ sym (ap (λ l. stuck_with l) is)
      by_lock (Held q s) is = absurd (not_held none q s is)
      by_lock (Stuck place x) is = ap (λ l. doubt l) is ∙ sym (ap (λ l. stuck_with l) is)
      by_lock Down is = ap (λ l. doubt l) is ∙ sym (ap (λ l. stuck_with l) is)
      by_lock (DownDoubtful x) is = let e : false ≡ true = ap is_up (sym is) ∙ sees.up in absurd cc
      by_lock (StuckFloor place) is = ap (λ l. doubt l) is ∙ sym (ap (λ l. stuck_with l) is)
      by_lock DownFloor is = ap (λ l. doubt l) is ∙ sym (ap (λ l. stuck_with l) is)

  -- a lock that nobody holds and that isn't stuck is free
  pub free : v.section ≡ None → stuck ≡ None → w.lock ≡ Free
  free none not_stuck = by_lock w.lock refl
    where
      by_lock : (lock : Lock) → w.lock ≡ lock → w.lock ≡ Free
      by_lock Free is = is
      by_lock (Held q s) is = absurd (not_held none q s is)
      by_lock (Stuck place x) is = let e : Some place ≡ None = ap stuck_place (sym is) ∙ store.stuck_is ∙ not_stuck in absurd cc
      by_lock Down is = let e : false ≡ true = ap is_up (sym is) ∙ sees.up in absurd cc
      by_lock (DownDoubtful x) is = let e : false ≡ true = ap is_up (sym is) ∙ sees.up in absurd cc
      by_lock (StuckFloor place) is = let e : Some place ≡ None = ap stuck_place (sym is) ∙ store.stuck_is ∙ not_stuck in absurd cc
      by_lock DownFloor is = let e : false ≡ true = ap is_up (sym is) ∙ sees.up in absurd cc

  -- a lock that its pass holds isn't stuck
  unstuck : (s : Section) → v.section ≡ Some s → None ≡ stuck
  unstuck s is = sym (ap stuck_place (held_in layout low young stuck t w v store sees safe s is)) ∙ store.stuck_is

  -- nor did it leave a revision in doubt
  none_left : (s : Section) → v.section ≡ Some s → None ≡ v.left
  none_left s is = sym (ap (λ l. stuck_with l) (held_in layout low young stuck t w v store sees safe s is)) ∙ left_so

  pub looks : (u : View) × Knows layout low young stuck (Some t) u × Looked young v u
  looks = known_so young stuck (looked_view young v) w.lock (λ u. Looked young v u) store.stuck_is left_so (look_comes layout low young stuck t w v store sees safe)

  pub takes : v.section ≡ None → stuck ≡ None → (u : View) × Knows layout low young stuck (Some t) u × LockTaken v u
  takes none not_stuck = known_so young stuck (locked_view v) (Held v.number Begun) (λ u. LockTaken v u) (sym not_stuck) (sym (ap (λ l. stuck_with l) (free none not_stuck)) ∙ left_so) (take_comes layout low young stuck t w v store sees safe (free none not_stuck))

  pub finds_stuck : (place : DiskPlace) → stuck ≡ Some place → (u : View) × Knows layout low young stuck (Some t) u × FoundStuck place v u
  finds_stuck place is_stuck = known_so young stuck (stuck_view place v) w.lock (λ u. FoundStuck place v u) store.stuck_is left_so (find_comes layout low young stuck t w v store sees safe place (store.stuck_is ∙ is_stuck))

  pub gives_lock : (s : Section) → v.section ≡ Some s → is_quiet s ≡ true → (u : View) × Knows layout low young stuck (Some t) u × LockGiven (step.GiveLock v.number) v u
  gives_lock s is quiet = known_so young stuck (outside v) Free (λ u. LockGiven (step.GiveLock v.number) v u) (unstuck s is) (none_left s is ∙ sym (ap (λ o. left_by o v.left) is ∙ quiet_left s v.left quiet)) (give_comes layout low young stuck t w v store sees safe s is quiet)

  pub sticks : (place : DiskPlace) → MustStick place v → (u : View) × Knows layout low young (Some place) (Some t) u × LockGiven (step.StickLock v.number) v u
  sticks place must = ⊎_elim
      (λ (d : (x : Coming) × (v.section ≡ Some (Doubtful place x))). known_so young (Some place) (outside v) (Stuck place d.0) (λ u. LockGiven (step.StickLock v.number) v u) refl (sym (ap (λ o. left_by o v.left) d.1)) (stick_comes layout low young stuck t w v store sees safe place d.0 d.1))
      (λ (is : v.section ≡ Some (FloorDoubtful place)). known_so young (Some place) (outside v) (StuckFloor place) (λ u. LockGiven (step.StickLock v.number) v u) refl (none_left (FloorDoubtful place) is ∙ sym (ap (λ o. left_by o v.left) is)) (stick_floor_comes layout low young stuck t w v store sees safe place is)) must

  pub reveals_it : (x : Coming) (rev : ℕ) → v.section ≡ Some (CurrentFirm x) → rev ≡ length v.seen → (u : View) × Knows layout low rev stuck (Some t) u × Revealed x v u
  reveals_it x rev is rev_is = known_so rev stuck (revealed_view x v) (Held v.number Over) (λ u. Revealed x v u) (unstuck (CurrentFirm x) is) (none_left (CurrentFirm x) is) (reveal_comes layout low young stuck t w v store sees safe x is rev rev_is)
