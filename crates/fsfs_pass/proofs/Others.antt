-- What one pass does leaves what another knows.
use Rattle.std.proofs.Common.{◌≡◌, ◌≢◌, ◌⊎◌, ◌<◌, ◌≤◌, ◌+◌, ℕ, suc, zero, List, [], ◌∷◌, length, true, false, inl, ⊎_elim, refl, sym, ap, subst, ◌∙◌, arith, take, length-append}
use Rattle.std.specs.Prelude.{Option, Some, None, slice_get, slice_set}
use Rattle.std.proofs.lemmas.List.{take-append-le, length-set}
use mathlib.Core.Option.{some, some-injective, some-ne-none}
use mathlib.Core.Logic.{dite}
use native.Mathlib.Decide.{ℕ_discrete}
use lib.ListN.{get_elem?}
use Rattle.atomic_table.proofs.Lists.{at_set, set_else}
use Rattle.fsfs_layout.specs.declared.layout.Layout.{Layout}
use Rattle.fsfs_disk.specs.Benches.{HasShortFiles}
use Rattle.fsfs_disk.specs.Trace.{Trace, files_now}
use Rattle.fsfs_machine.specs.declared.machine.Coming.{Coming}
use Rattle.fsfs_machine.specs.declared.machine.Section.{Section}
use Rattle.fsfs_machine.specs.declared.machine.Lock.{Lock}
use Rattle.fsfs_machine.specs.Machine.{World, is_up, stuck_place}
use Rattle.fsfs_machine.specs.Kept.{Kept, most_floor, may_rise}
use Rattle.fsfs_machine.proofs.Answering.{seen_of}
use Rattle.fsfs_machine.specs.declared.contents.FileName.TheVariants.{Counter}
use Rattle.fsfs_machine.specs.declared.machine.Drawn.{Drawn}
use Rattle.fsfs_machine.specs.Disk.{found}
use Rattle.fsfs_turn.specs.Views.{View, Sees, is_held, coming_at, drawing_at, with_txns}
use Rattle.fsfs_turn.specs.Past.{doubt, stuck_with, Safe}
use Rattle.fsfs_turn.specs.Found.{seen_within}
use Rattle.fsfs_turn.specs.Standing.{IsStore}
use Rattle.fsfs_turn.specs.Stands.{OwnFilesLast}
use Rattle.fsfs_turn.specs.declared.since.Since.{Since}
use Rattle.fsfs_turn.proofs.Moves.{Spares, Moved}
use Rattle.fsfs_pass.specs.declared.seats.seat_view.Before.{Before}
use Rattle.fsfs_pass.specs.declared.seats.seat_view.Kin.{Kin}
use Rattle.fsfs_pass.specs.declared.seats.seat_view.Stage.{Stage}
use Rattle.fsfs_pass.specs.declared.seats.seat_view.Stage.TheVariants.{New, Sitting, Joining, Left}
use Rattle.fsfs_pass.specs.declared.seats.seat_view.SeatView.{SeatView}
use Rattle.fsfs_pass.specs.LockWords.{lock_word}
use Rattle.fsfs_pass.specs.Seats.{view_of, is_left, as_before, Sits}
use Rattle.fsfs_pass.specs.Kinship.{Branch, branch_of}
use Rattle.fsfs_pass.specs.Met.{Lasts, Met, HasMet}
use Rattle.fsfs_pass.specs.Rule.{Seated, Knew, Placed, IsJoined, IsSeenBySome, Store}
use Rattle.fsfs_pass.proofs.AsMany.{opening_stays}
use Rattle.fsfs_pass.proofs.Accounts.{Turns, LeavesSo, causes_set, doubts_set}
use Rattle.fsfs_pass.proofs.Kinships.{kin_stays, same_kin, set_there}
use Rattle.fsfs_pass.proofs.Following.{met_now, met_after}

held_some : (o : Option Section) → is_held o ≡ true → (s : Section) × (o ≡ Some s)
held_some None e = absurd cc
held_some (Some s) e = (s, refl)

held_coming : (o : Option Section) (x : Coming) → coming_at o ≡ Some x → is_held o ≡ true
held_coming None x e = absurd cc
held_coming (Some s) x e = refl

held_drawing : (o : Option Section) (x : Drawn) → drawing_at o ≡ Some x → is_held o ≡ true
held_drawing None x e = absurd cc
held_drawing (Some s) x e = refl

sees_other : (p : ℕ) (w after : World) (z : View) → Spares p w after → Kept (with_txns [] w) → is_up after.lock ≡ true → (z.number ≡ p → ⊥) → (z.sure ≡ true → is_held z.section ≡ true) → Sees w z → Sees after z
sees_other p w after z l kept up apart sure sees = record {
  pass = l.passes z.number apart ∙ sees.pass;
  seen = sees.seen ∙ sym (ap (λ h. take z.pass.seen h) l.grows.1 ∙ take-append-le z.pass.seen w.history l.grows.0 (seen_of (length w.history) w.low (most_floor (may_rise w.lock) w.size w.floor) w.passes z.number z.pass kept.seen sees.pass).seen);
  section = l.locks z.number apart ∙ sees.section;
  up = up;
  sure = λ e. (unmoved (sure e)).0 ∙ sees.sure e;
  whole = λ x e. sees.whole x e ∙ sym (unmoved (held_coming z.section x e)).1;
  given = λ k i. l.given k (sees.given k i);
  opened = let long : length after.history ≡ length w.history + length l.grows.0 = ap length l.grows.1 ∙ length-append w.history l.grows.0 in omega (arith, long, sees.opened);
  shown = sees.shown;
  firm = λ s f inside is. l.floor z.number s apart (sees.section ∙ inside) ∙ sees.firm s f inside is;
  names = record { full = λ e. l.full (sees.names.full e); drawing = λ x e. let d = sees.names.drawing x e in (ap (λ k. found k Counter) (held_disk (held_drawing z.section x e)) ∙ d.0, d.1) };
}
  where
    held_disk : is_held z.section ≡ true → after.disk ≡ w.disk
    held_disk held = let s = held_some z.section held in l.disk z.number s.0 apart (sees.section ∙ s.1)

    unmoved : is_held z.section ≡ true → (after.young ≡ w.young) × (after.history ≡ w.history)
    unmoved held = let s = held_some z.section held in l.still z.number s.0 apart (sees.section ∙ s.1)

-- ---- what a seat knows

met_as : (layout : Layout) (w : World) (now : Trace) (v u : SeatView) (t : Trace) → length u.seen ≤ length v.seen → u.pass.least ≤ v.pass.least → Met layout w now v t → Met layout w now u t
met_as layout w now v u t seen least m = record { world = m.world; store = m.store; low = m.low; grown = m.grown; seen = omega (arith, seen, m.seen); least = omega (arith, least, m.least); lasts = m.lasts }

-- another view of a seat says the same
pub reseated : (first : SeatView) (w : World) (now : Trace) (j : ℕ) (v u : SeatView) → view_of u ≡ view_of v → u.low ≡ v.low → u.met ≡ v.met → Seated first w now j v → Seated first w now j u
reseated first w now j v u same low met k = record {
  number = ap (λ (x : View). x.number) same ∙ k.number;
  sees = subst (λ (x : View). Sees w x) (sym same) k.sees;
  sure = λ e. ap (λ (x : View). is_held x.section) same ∙ k.sure (sym (ap (λ (x : View). x.sure) same) ∙ e);
  layout = ap (λ (x : View). x.layout) same ∙ k.layout;
  low = low ∙ k.low;
  since = ap (λ (x : View). x.since) same ∙ k.since;
  opened = ap (λ (x : View). x.opened) same ∙ k.opened;
  met = (k.met.0, met ∙ k.met.1, met_as first.layout w now v u k.met.0 (let e : length u.seen ≡ length v.seen = ap (λ (x : View). length x.seen) same in omega (arith, e)) (let e : u.pass.least ≡ v.pass.least = ap (λ (x : View). x.pass.least) same in omega (arith, e)) k.met.2);
}

module _ (first : SeatView) (p : ℕ) (w after : World) (now new : Trace) (spares : Spares p w after) (kept : Kept (with_txns [] w)) (up : is_up after.lock ≡ true) (lasts : Lasts first.layout (length w.history) (files_now now) (files_now new)) where
  seat_other : (j : ℕ) (z : SeatView) → j ≢ p → Seated first w now j z → Seated first after new j z
  seat_other j z apart k = record {
    number = k.number;
    sees = sees_other p w after (view_of z) spares kept up (λ e. apart (sym k.number ∙ e)) k.sure k.sees;
    sure = k.sure;
    layout = k.layout;
    low = k.low;
    since = k.since;
    opened = k.opened;
    met = (k.met.0, k.met.1, met_after first.layout p w after now new k.met.0 z z spares lasts (omega arith) (omega arith) k.met.2);
  }

  knew_other : (z : SeatView) (b : Before) → Knew first w now z b → Knew first after new z b
  knew_other z b k = record { layout = k.layout; low = k.low; told = k.told; least = k.least; line = k.line; met = (k.met.0, k.met.1, met_after first.layout p w after now new k.met.0 (as_before z b) (as_before z b) spares lasts (omega arith) (omega arith) k.met.2) }

  pub placed_other : (j : ℕ) (z : SeatView) (st : Stage) → j ≢ p → Placed first w now j z st → Placed first after new j z st
  placed_other j z New apart k = (seat_other j (record z { number = j }) apart k.0, k.1)
  placed_other j z Sitting apart k = seat_other j z apart k
  placed_other j z (Joining a b) apart k = (seat_other j z apart k.0, knew_other z a k.1, knew_other z b k.2)
  placed_other j z Left apart k = (k.0, spares.passes j apart ∙ k.1, spares.locks j apart ∙ k.2)

-- ---- lists of seats

pub at_less : {A : Type 0} (xs : List A) (i : ℕ) (x : A) → get_elem? xs i ≡ some x → i < length xs
at_less [] i x e = absurd (some-ne-none x (sym e))
at_less (y ∷ ys) zero x e = omega arith
at_less (y ∷ ys) (suc i) x e = let k = at_less ys i x e in omega (arith, k)

pub there_at : {A : Type 0} (xs : List A) (j : ℕ) → j < length xs → (x : A) × (get_elem? xs j ≡ some x)
there_at [] j less = absurd (omega (arith, less))
there_at (x ∷ xs) zero less = (x, refl)
there_at (x ∷ xs) (suc j) less = there_at xs j (omega (arith, less))

pub none_past : {A : Type 0} (xs : List A) (j : ℕ) → slice_get xs j ≡ None → length xs ≤ j
none_past [] j e = omega arith
none_past (x ∷ xs) zero e = let no : Some x ≡ None = e in absurd cc
none_past (x ∷ xs) (suc j) e = let k = none_past xs j e in omega (arith, k)

-- a seat that has left is no seat that hasn't
pub left_apart : (views : List SeatView) (i j : ℕ) (y z : SeatView) → get_elem? views i ≡ some y → get_elem? views j ≡ some z → is_left y.kin.stage ≡ true → is_left z.kin.stage ≡ false → i ≢ j
left_apart views i j y z at_i at_j left stays same =
    let e : some y ≡ some z = sym at_i ∙ ap (λ k. get_elem? views k) same ∙ at_j in
    let no : true ≡ false = sym left ∙ ap (λ (v : SeatView). is_left v.kin.stage) (some-injective y z e) ∙ stays in absurd cc

pub still_joined : (views : List SeatView) (id : ℕ) (me u : SeatView) (w after : World) (x : ℕ × List ℕ) → get_elem? views id ≡ some me → is_left me.kin.stage ≡ false
    → ((q : ℕ) → q ≢ id → slice_get after.passes q ≡ slice_get w.passes q) → IsJoined views w x → IsJoined (slice_set views id u) after x
still_joined views id me u w after x at stays passes k =
    let apart : x.0 ≢ id = left_apart views x.0 id k.seat me k.at at k.left stays in
    record { seat = k.seat; at = set_else views id x.0 u apart ∙ k.at; left = k.left; pass = k.pass; there = passes x.0 apart ∙ k.there; mine = k.mine }

-- there are as many seats
pub as_long : (views : List SeatView) (id : ℕ) (u : SeatView) (j : ℕ) → length (slice_set views id u) ≤ j → length views ≤ j
as_long views id u j far = subst (λ n. n ≤ j) (length-set views id u) far

-- ---- who has seen all

-- one whose seat knows more now
pub still_seen : (views : List SeatView) (id : ℕ) (me u : SeatView) (n : ℕ) → get_elem? views id ≡ some me → is_left u.kin.stage ≡ false → length me.seen ≤ length u.seen → IsSeenBySome views n → IsSeenBySome (slice_set views id u) n
still_seen views id me u n at stays more k = dite (ℕ_discrete k.0 id)
    (λ here.
    let same : length k.1.seen ≡ length me.seen = ap (λ (v : SeatView). length v.seen) (some-injective k.1 me (sym k.2 ∙ ap (λ j. get_elem? views j) here ∙ at)) in
    (id, u, set_there views id u me at, stays, omega (arith, same, more, k.4)))
    (λ there. (k.0, k.1, set_else views id k.0 u there ∙ k.2, k.3, k.4))

pub seen_as : (views : List SeatView) (n m : ℕ) → m ≤ n → IsSeenBySome views n → IsSeenBySome views m
seen_as views n m le k = (k.0, k.1, k.2, k.3, omega (arith, le, k.4))

-- What a step adds: as many revisions to the pass's own as to the history, and who adds one has seen it.
pub record Adds (me u : SeatView) (young young2 : ℕ) : Type 0 where
  pub seen : length me.seen ≤ length u.seen
  pub own : length u.pass.mine + young ≡ length me.pass.mine + young2
  pub known : (young2 ≡ young) ⊎ (young2 + 1 ≤ length u.seen)

-- ---- the store

module _ (first : SeatView) (views : List SeatView) (lock young : ℕ) (t : Trace) (s : Store first views lock young t) (id : ℕ) (me : SeatView) where
  -- a seat that sits is the pass of its number
  pub seated : Sits views id me → Seated first s.world t id me
  seated at = subst (λ st. Placed first s.world t id me st) at.1 (s.seats id me at.0)

  -- what was joined into the seats, where the joined of one seat are as before
  pub joined_before : (u : SeatView) → get_elem? views id ≡ some me → u.kin.joined ≡ me.kin.joined
      → (j : ℕ) (z : SeatView) → get_elem? (slice_set views id u) j ≡ some z → (i : ℕ) (x : ℕ × List ℕ) → get_elem? z.kin.joined i ≡ some x → IsJoined views s.world x
  joined_before u at same j z e i x k = ⊎_elim
      (λ (here : (j ≡ id) × (u ≡ z)). s.joined id me at i x (subst (λ (l : List (ℕ × List ℕ)). get_elem? l i ≡ some x) (ap (λ (v : SeatView). v.kin.joined) (sym here.1) ∙ same) k))
      (λ (there : (j ≢ id) × (get_elem? views j ≡ some z)). s.joined j z there.1 i x k) (at_set views id j u z e)

  -- the view of one seat was changed, and nothing of the store
  pub replaced : (u : SeatView) → get_elem? views id ≡ some me → is_left me.kin.stage ≡ false → Placed first s.world t id u u.kin.stage → u.kin.joined ≡ me.kin.joined → branch_of u ≡ branch_of me → length me.seen ≤ length u.seen → Turns me u lock lock → u.left ≡ me.left → Store first (slice_set views id u) lock young t
  replaced u at stays own joined same seen turns left_is = record {
    world = s.world;
    store = s.store;
    safe = s.safe;
    own = s.own;
    up = s.up;
    short = s.short;
    opening = s.opening;
    before = s.before;
    known = still_seen views id me u (length s.world.history) at (ap (λ (b : Branch). b.left) same ∙ stays) seen s.known;
    lock_is = s.lock_is;
    causes = causes_set views id me u lock lock at stays (ap (λ (b : Branch). b.left) same ∙ stays) turns s.causes;
    doubts = doubts_set views id me u (stuck_with s.world.lock) (stuck_with s.world.lock) at stays (ap (λ (b : Branch). b.left) same ∙ stays) (inl (refl, left_is)) s.doubts;
    seats = λ j z e. ⊎_elim
        (λ (here : (j ≡ id) × (u ≡ z)). subst (λ (y : ℕ × SeatView). Placed first s.world t y.0 y.1 y.1.kin.stage) (λ i. (sym here.0 i, here.1 i)) own)
        (λ (there : (j ≢ id) × (get_elem? views j ≡ some z)). s.seats j z there.1) (at_set views id j u z e);
    no_more = λ j far. s.no_more j (as_long views id u j far);
    kin = kin_stays views id me u at same s.kin;
    joined = λ j z e i x k. still_joined views id me u s.world s.world x at stays (λ q apart. refl) (joined_before u at joined j z e i x k);
  }

module _ (first : SeatView) (views : List SeatView) (lock young : ℕ) (t : Trace) (s : Store first views lock young t) (id : ℕ) (me : SeatView) (at : Sits views id me) where
  own : Seated first s.world t id me
  own = seated first views lock young t s id me at

  -- what the pass of the seat has of the store
  pub seat_sees : Sees s.world (view_of me)
  seat_sees = own.sees

  pub seat_safe : Safe first.layout me.since t me.opened s.world.history (doubt s.world.lock)
  seat_safe = subst (λ (y : Since × ℕ). Safe first.layout y.0 t y.1 s.world.history (doubt s.world.lock)) (λ i. (sym own.since i, sym own.opened i)) s.safe

  -- behind a step of its pass the table holds the state after it
  -- it has met the trace as it is then
  pub meets : (u : SeatView) (l : Lock) (young2 : ℕ) (t2 : Trace) (m : Moved first.layout first.low young2 t2 s.world (view_of me) (view_of u) l) → u.met ≡ Some t2 → HasMet first.layout m.world t2 u
  meets u l young2 t2 m is = (t2, is, met_now first.layout first.low young2 (stuck_place l) t2 m.world u m.store (seen_within m.world (view_of u) m.sees) (seen_of (length m.world.history) m.world.low (most_floor (may_rise m.world.lock) m.world.size m.world.floor) m.world.passes u.number u.pass m.store.kept.seen m.sees.pass).least)

  -- or what it met before
  pub still_met : (u : SeatView) (l : Lock) (young2 : ℕ) (t2 : Trace) (m : Moved first.layout first.low young2 t2 s.world (view_of me) (view_of u) l) → Lasts first.layout (length s.world.history) (files_now t) (files_now t2)
      → u.met ≡ me.met → length u.seen ≤ length me.seen → u.pass.least ≤ me.pass.least → HasMet first.layout m.world t2 u
  still_met u l young2 t2 m lasts is seen least = (own.met.0, is ∙ own.met.1, met_after first.layout me.number s.world m.world t t2 own.met.0 me u m.spares lasts seen least own.met.2)

  pub goes_on : (u : SeatView) (l : Lock) (lock2 young2 : ℕ) (t2 : Trace) (m : Moved first.layout first.low young2 t2 s.world (view_of me) (view_of u) l) → u.kin ≡ me.kin → u.low ≡ me.low → lock2 ≡ lock_word l → (u.sure ≡ true → is_held u.section ≡ true)
      → Lasts first.layout (length s.world.history) (files_now t) (files_now t2) → OwnFilesLast first.layout first.since (Some t2) → HasShortFiles (files_now t2) → HasMet first.layout m.world t2 u → Adds me u young young2 → Turns me u lock lock2 → LeavesSo me u (stuck_with s.world.lock) (stuck_with m.world.lock) → Store first (slice_set views id u) lock2 young2 t2
  goes_on u l lock2 young2 t2 m same same_low lock_is sure lasts owns short met adds turns leaves = record {
    world = m.world;
    store = subst (λ o. IsStore first.layout first.low young2 o t2 m.world) (sym (ap stuck_place m.lock_is)) m.store;
    safe = subst (λ (y : Since × ℕ). Safe first.layout y.0 t2 y.1 m.world.history (doubt m.world.lock)) (λ i. ((m.since_is ∙ own.since) i, (m.opened_is ∙ own.opened) i)) m.safe;
    own = owns;
    up = m.sees.up;
    short = short;
    opening = opening_stays s.world m.world me.number me.pass u.pass s.store.kept m.store.kept m.spares.count own.sees.pass (ap (λ n. slice_get m.world.passes n) (sym m.number_is) ∙ m.sees.pass) m.spares.passes (let more = adds.own in omega (arith, more, was, now)) ∙ s.opening;
    before = λ k i. m.spares.given k (s.before k i);
    known = ⊎_elim
        (λ (stays : young2 ≡ young). still_seen views id me u (length m.world.history) at.0 left adds.seen (seen_as views (length s.world.history) (length m.world.history) (omega (arith, stays, was, now)) s.known))
        (λ (all : young2 + 1 ≤ length u.seen). (id, u, set_there views id u me at.0, left, omega (arith, all, now))) adds.known;
    lock_is = lock_is ∙ ap (λ k. lock_word k) (sym m.lock_is);
    causes = causes_set views id me u lock lock2 at.0 (ap (λ st. is_left st) at.1) left turns s.causes;
    doubts = doubts_set views id me u (stuck_with s.world.lock) (stuck_with m.world.lock) at.0 (ap (λ st. is_left st) at.1) left leaves s.doubts;
    seats = λ j z e. ⊎_elim
        (λ (here : (j ≡ id) × (u ≡ z)). subst (λ (y : ℕ × SeatView). Placed first m.world t2 y.0 y.1 y.1.kin.stage) (λ i. (sym here.0 i, here.1 i)) placed)
        (λ (there : (j ≢ id) × (get_elem? views j ≡ some z)). placed_other first me.number s.world m.world t t2 m.spares s.store.kept m.sees.up lasts j z z.kin.stage (λ e. there.0 (e ∙ own.number)) (s.seats j z there.1)) (at_set views id j u z e);
    no_more = λ j far. let long = as_long views id u j far in m.spares.passes j (λ e. let less = at_less views id me at.0 in absurd (omega (arith, e, own.number, long, less))) ∙ s.no_more j long;
    kin = kin_stays views id me u at.0 (same_kin u me same) s.kin;
    joined = λ j z e i x k. still_joined views id me u s.world m.world x at.0 (ap (λ st. is_left st) at.1) (λ q apart. m.spares.passes q (λ e. apart (e ∙ own.number)))
        (joined_before first views lock young t s id me u at.0 (ap (λ (c : Kin). c.joined) same) j z e i x k);
  }
    where
      -- how long the history was, and is
      was : young + 1 ≡ length s.world.history
      was = let long : s.world.young + 1 ≡ length s.world.history = s.store.kept.young s.up in let young_is : s.world.young ≡ young = s.store.young_is in omega (arith, long, young_is)

      now : young2 + 1 ≡ length m.world.history
      now = let long : m.world.young + 1 ≡ length m.world.history = m.store.kept.young m.sees.up in let young_is : m.world.young ≡ young2 = m.store.young_is in omega (arith, long, young_is)

      left : is_left u.kin.stage ≡ false
      left = ap (λ (c : Kin). is_left c.stage) same ∙ ap (λ st. is_left st) at.1

      mine : Seated first m.world t2 id u
      mine = record { number = m.number_is ∙ own.number; sees = m.sees; sure = sure; layout = m.layout_is ∙ own.layout; low = same_low ∙ own.low; since = m.since_is ∙ own.since; opened = m.opened_is ∙ own.opened; met = met }

      placed : Placed first m.world t2 id u u.kin.stage
      placed = subst (λ st. Placed first m.world t2 id u st) (sym (ap (λ (c : Kin). c.stage) same ∙ at.1)) mine
