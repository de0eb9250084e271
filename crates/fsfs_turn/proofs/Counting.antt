-- A begin's first call: `txn-current` is read.
use Rattle.std.proofs.Common.{◌≡◌, ◌<◌, ◌≤◌, ◌+◌, ◌-◌, ◌^◌, ℕ, List, [], ◌∷◌, ◌++◌, length, true, false, cond, inl, inr, refl, sym, ap, subst, ◌∙◌, arith, drop}
use Rattle.std.specs.Prelude.{Option, Some, IfSome, Result, Ok, Err, IfOk, nat_lt, ◌&&◌, option_map}
use Rattle.std.specs.FinMap.{get}
use Rattle.std.proofs.lemmas.List.{take_all}
use Rattle.fsfs_layout.specs.FileNames.{only_name}
use Rattle.fsfs_layout.specs.Small.{IsBase36Line}
use Rattle.fsfs_layout.specs.declared.layout.Layout.{Layout}
use Rattle.fsfs_layout.specs.declared.only_file.OnlyFile.TheVariants as only
use Rattle.fsfs_disk.specs.Trace.{Trace, files_now, file_at, IsRead}
use Rattle.fsfs_machine.specs.declared.contents.FileName.TheVariants.{Counter}
use Rattle.fsfs_machine.specs.declared.contents.Contents.TheVariants.{Number}
use Rattle.fsfs_base.specs.declared.places.place.DiskPlace.{DiskPlace}
use Rattle.fsfs_base.specs.declared.places.place.DiskPlace.TheVariants.{Begin}
use Rattle.fsfs_base.specs.declared.places.place.BeginPlace.TheVariants as begin
use Rattle.fsfs_machine.specs.declared.machine.Drawn.{Drawn}
use Rattle.fsfs_machine.specs.declared.machine.Section.TheVariants.{Begun, CountRead, Over}
use Rattle.fsfs_machine.specs.declared.machine.Lock.TheVariants.{Held}
use Rattle.fsfs_machine.specs.declared.machine.Went.{Went}
use Rattle.fsfs_machine.specs.declared.machine.Went.TheVariants.{Fine, Before, After, Torn}
use Rattle.fsfs_machine.specs.declared.machine.Step.TheVariants as step
use Rattle.fsfs_machine.specs.Disk.{found}
use Rattle.fsfs_machine.specs.Machine.{World, did, barred, either, answer, learns, number_of, inside, held_by, drawn, last_name, counted, count_read, with_next, stuck_place}
use Rattle.fsfs_machine.specs.Kept.{Kept, coming, AllBelow, IsIn, most_floor, may_rise}
use Rattle.fsfs_machine.proofs.Images.{read_is_image}
use Rattle.fsfs_machine.proofs.Answering.{seen_of}
use Rattle.fsfs_machine.proofs.Steps.{step_keeps}
use Rattle.fsfs_images.specs.RealNames.{machine_name}
use Rattle.fsfs_images.proofs.Showing.{now_read}
use Rattle.fsfs_turn.specs.Bytes.{BytesShow}
use Rattle.fsfs_turn.specs.Past.{doubt_in, doubt, Safe}
use Rattle.fsfs_turn.specs.Views.{View, KnowsNames, Sees, with_txns, Answers}
use Rattle.fsfs_turn.specs.Learning.{drawn_of, CounterRead, ReadsCounter}
use Rattle.fsfs_turn.specs.Standing.{no_others, IsStore}
use Rattle.fsfs_turn.proofs.Names.{names_full, names_stay}
use Rattle.fsfs_turn.proofs.FloorsRise.{floor_kept}
use Rattle.fsfs_turn.proofs.TurnEnds.{section_leaves, IsAfter, Comes}
use Rattle.fsfs_turn.proofs.Stepping.{kept_bare, at_itself, held_here, lock_is, take_drop}
use Rattle.fsfs_turn.proofs.Due.{at_found}

module _ (layout : Layout) (low young : ℕ) (stuck : Option DiskPlace) (t : Trace) (w : World) (v : View) (store : IsStore layout low young stuck t w) (sees : Sees w v) (safe : Safe layout v.since t v.opened w.history (doubt w.lock))
    (base : ℕ) (begun : v.section ≡ Some Begun) (told_base : base ≤ v.pass.least) where
  lock : w.lock ≡ Held v.number Begun
  lock = lock_is v.number w.lock Begun (sees.section ∙ begun)

  least_in : v.pass.least < length w.history
  least_in = (seen_of (length w.history) w.low (most_floor (may_rise w.lock) w.size w.floor) w.passes v.number v.pass store.kept.seen sees.pass).least

  base_in : base < length w.history
  base_in = omega (arith, told_base, least_in)

  pub counter : (k : ℕ) × (found w.disk Counter ≡ Some (Number k)) × AllBelow k w.given
  counter = store.kept.counts w.disk (read_is_image w.disk)

  -- of the names that are given, those that the pass knows
  below_one : (k n : ℕ) (given : List ℕ) → IsIn n given → AllBelow k given → n < k
  below_one k n [] i below = absurd i
  below_one k n (g ∷ given) (inl same) below = subst (λ (m : ℕ). m < k) same below.0
  below_one k n (g ∷ given) (inr more) below = below_one k n given more below.1

  below_all : (names : List ℕ) → ((n : ℕ) → IsIn n names → IsIn n w.given) → AllBelow counter.0 names
  below_all [] there = tt
  below_all (n ∷ names) there = (below_one counter.0 n w.given (there n (inl refl)) counter.2, below_all names (λ m i. there m (inr i)))

  below_known : (names : List ℕ) → names ≡ v.given → AllBelow counter.0 names
  below_known names are = below_all names (λ n i. sees.given n (subst (λ (l : List ℕ). IsIn n l) are i))

  abbrev world : Went → World
  world went = count_read (with_txns [] w) v.number base went counter.0

  abbrev view : Went → View
  view went = record v { pass = learns (length w.history) (Begin begin.Read) went v.pass; seen = w.history; section = Some (either went (CountRead (drawn_of base counter.0)) Over) }

  happens : counter.0 < last_name → (went : Went) → did (world went) (answer went) ≡ inside (with_txns [] w) (drawn (with_txns [] w) v.number base went) (held_by v.number w.lock)
  happens few went =
      let e : nat_lt base (length w.history) ≡ true = grind (arith, base_in) in
      let f : nat_lt counter.0 last_name ≡ true = grind (arith, few) in
      sym (ap (λ o. inside (with_txns [] w) (drawn (with_txns [] w) v.number base went) o) (sees.section ∙ begun)
      ∙ ap (λ c. counted (with_txns [] w) v.number base went (number_of c)) counter.1
      ∙ ap (λ b. cond (b && nat_lt counter.0 last_name) (did (world went) (answer went)) (barred (with_txns [] w))) e
      ∙ ap (λ b. cond b (did (world went) (answer went)) (barred (with_txns [] w))) f)

  doubtless : (went : Went) → doubt_in Begun ≡ doubt_in (either went (CountRead (drawn_of base counter.0)) Over)
  doubtless Fine = refl
  doubtless Before = refl
  doubtless After = refl
  doubtless (Torn any) = refl

  stuck_then : (went : Went) → stuck_place (Held v.number (either went (CountRead (drawn_of base counter.0)) Over)) ≡ stuck
  stuck_then went = sym (ap stuck_place lock) ∙ store.stuck_is

  coming_then : (went : Went) → IfSome (coming (Held v.number (either went (CountRead (drawn_of base counter.0)) Over))) (λ y. BytesShow (with_next w.history y))
  coming_then Fine = tt
  coming_then Before = tt
  coming_then After = tt
  coming_then (Torn any) = tt

  pub counter_turns : counter.0 < last_name → (went : Went) → IsAfter layout low young stuck t w v (λ u. CounterRead base counter.0 went v u)
  counter_turns few went = record {
    world = world went;
    view = view went;
    store = now;
    sees = after;
    turned = record {
      turned = record { world = w; kept = store.kept; sees = sees; did = did (world went) (answer went); happens = happens few went; answers = refl; after = kept; leaves = after };
      is = refl;
      grows = (drop v.pass.seen w.history, take_drop v.pass.seen w.history ∙ ap (λ l. l ++ drop v.pass.seen w.history) (sym sees.seen));
      within = λ sure. let up : w.young + 1 ≡ length w.history = store.kept.young sees.up in omega (arith, up, sees.sure sure);
      all = least_in;
      shown = store.shown;
      above = below_known v.given refl;
    };
    all = refl;
    safe = safe_then;
    leaves = section_leaves w (world went) v.number (learns (length w.history) (Begin begin.Read) went) Begun (either went (CountRead (drawn_of base counter.0)) Over) went refl refl refl refl lock refl refl (λ last. last) (floor_kept w.disk w.disk refl);
    layout_is = refl;
    since_is = refl;
    opened_is = refl;
    number_is = refl;
    left_is = refl;
  }
    where
      names_then : (how : Went) → KnowsNames v.full (Some (either how (CountRead (drawn_of base counter.0)) Over)) w.disk
      names_then Fine = record { full = sees.names.full; drawing = λ y e. let same : drawn_of base counter.0 ≡ y = cc in subst (λ (z : Drawn). (found w.disk Counter ≡ Some (Number z.name)) × (z.name < last_name)) same (counter.1, few) }
      names_then Before = names_stay v.full v.section (Some Over) w.disk w.disk refl refl sees.names
      names_then After = names_stay v.full v.section (Some Over) w.disk w.disk refl refl sees.names
      names_then (Torn any) = names_stay v.full v.section (Some Over) w.disk w.disk refl refl sees.names

      kept : Kept (with_txns [] (world went))
      kept = kept_bare (world went) (step_keeps (with_txns [] w) (step.Draw v.number base went) (did (world went) (answer went)) (happens few went) store.kept).kept

      after : Sees (world went) (view went)
      after = record {
        pass = at_itself w.passes v.number (learns (length w.history) (Begin begin.Read) went) v.pass sees.pass;
        seen = sym (take_all (length w.history) w.history (omega arith));
        section = held_here v.number (either went (CountRead (drawn_of base counter.0)) Over);
        up = refl;
        sure = sees.sure;
        whole = λ y e. refl;
        given = sees.given;
        opened = sees.opened;
        shown = store.shown;
        names = names_then went;
        firm = λ s f at e. sees.firm Begun f begun e;
      }

      now : IsStore layout low young stuck t (world went)
      now = record { trace = store.trace; size = store.size; whole = store.whole; kept = kept; shown = store.shown; coming = coming_then went; low_is = store.low_is; young_is = store.young_is; stuck_is = stuck_then went }

      safe_then : Safe layout v.since t v.opened w.history (doubt (Held v.number (either went (CountRead (drawn_of base counter.0)) Over)))
      safe_then = subst (λ d. Safe layout v.since t v.opened w.history d) (doubtless went) (subst (λ l. Safe layout v.since t v.opened w.history (doubt l)) lock safe)

  -- the last number stands there, which the pass knows from then on
  pub full_sees : last_name ≤ counter.0 → Sees w (record v { full = true })
  full_sees many = record {
    pass = sees.pass;
    seen = sees.seen;
    section = sees.section;
    up = sees.up;
    sure = sees.sure;
    whole = sees.whole;
    given = sees.given;
    opened = sees.opened;
    shown = sees.shown;
    names = names_full v.section w.disk v.full (counter.0, counter.1, many) sees.names;
    firm = sees.firm;
  }

  pub counter_comes : {X E : Type 0} (told : Option Trace) → told ≡ Some t → counter.0 < last_name → (result : Result X E) → Comes layout low young stuck told w v result (λ went u. CounterRead base counter.0 went v u)
  counter_comes told same few (Ok o) = (t, Fine, same, refl, counter_turns few Fine)
  counter_comes told same few (Err e) = (t, Before, same, refl, counter_turns few Before)

  -- the number stands in the file
  pub counter_file : (text : List ℕ) × (get (files_now t) (machine_name layout Counter) ≡ Some text) × IsBase36Line text counter.0
  counter_file = at_found layout Counter (get (files_now t) (machine_name layout Counter)) (found w.disk Counter) (Number counter.0) counter.1 ((now_read layout no_others t.first t.operations w.disk store.trace).read Counter tt)

  -- what is read there is its line
  pub counter_reads : {E : Type 0} (knows : View → Type 0) (told : Option Trace) → told ≡ Some t → (name old new : List ℕ) → name ≡ only_name only.TxnCurrent → (result : Result (Option ℕ) E) → IfOk result (IsRead (file_at t name) 0 old new)
      → (counter.0 < last_name → (u : View) × (went : Went) × knows u × Answers result went × CounterRead base counter.0 went v u) → (last_name ≤ counter.0 → knows (record v { full = true })) → ReadsCounter knows (option_map files_now told) base result old new v
  counter_reads knows told same name old new named result read turned known = record {
    text = counter_file.0;
    number = counter.0;
    line = counter_file.2;
    files = files_now t;
    files_are = ap (λ o. option_map files_now o) same;
    there = counter_file.1;
    read = read_it result read;
    turned = turned;
    full = known;
  }
    where
      file_is : file_at t name ≡ Some counter_file.0
      file_is = ap (λ n. get (files_now t) n) named ∙ counter_file.1

      read_it : {E : Type 0} (result : Result (Option ℕ) E) → IfOk result (IsRead (file_at t name) 0 old new) → IfOk result (IsRead (Some counter_file.0) 0 old new)
      read_it (Ok o) read = subst (λ f. IsRead f 0 old new o) file_is read
      read_it (Err e) read = tt
