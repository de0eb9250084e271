-- What a seat tells one who reads: what it has seen stands in the files that it met last, and files that it meets later follow these.
use Rattle.std.proofs.Common.{◌≡◌, ◌⊎◌, ◌<◌, ◌≤◌, ◌+◌, ◌-◌, ◌^◌, ℕ, suc, zero, List, [], ◌∷◌, ◌++◌, length, Bool, true, false, inl, inr, ⊎_elim, refl, sym, ap, subst, ◌∙◌, arith, append_assoc, length-append}
use Rattle.std.specs.Prelude.{Option, Some, None, Ok, Err, Result, if◌then◌else◌, nat_lt, slice_get, option_map}
use Rattle.std.proofs.lemmas.Option.{slice_get_within}
use Rattle.fsfs_base.specs.Files.{Files}
use Rattle.fsfs_layout.specs.declared.layout.Layout.{Layout}
use Rattle.fsfs_base.specs.declared.small_fault.SmallFault.{SmallFault}
use Rattle.fsfs_revision.specs.RevBytes.{rev_bytes, rev_file, floor_in}
use Rattle.fsfs_revision.proofs.Roots.{is_less}
use Rattle.fsfs_fetch.specs.Views.{Grows, is_below, is_packed, Follows, FilesLater, Later}
use Rattle.fsfs_disk.specs.Trace.{Trace, files_now}
use Rattle.fsfs_base.specs.declared.places.place.DiskPlace.{DiskPlace}
use Rattle.fsfs_machine.specs.declared.machine.Recorded.{Recorded}
use Rattle.fsfs_machine.specs.Machine.{World, stuck_place}
use Rattle.fsfs_turn.specs.Views.{Sees, Begins, with_txns}
use Rattle.fsfs_turn.specs.Found.{get_taken, floor_now, all_fit, history_reads, ShowsFloor, shows_now}
use Rattle.fsfs_turn.specs.Standing.{IsStore}
use Rattle.fsfs_turn.specs.Telling.{TellsSeen, IsReadable}
use Rattle.fsfs_turn.proofs.Moments.{begins_itself}
use Rattle.fsfs_turn.proofs.Moves.{Spares}
use Rattle.fsfs_pass.specs.declared.seats.seat_view.SeatView.{SeatView}
use Rattle.fsfs_pass.specs.Seats.{view_of}
use Rattle.fsfs_pass.specs.Met.{Lasts, Met, known_last, seat_store, ground_of}

pub lasts_same : (layout : Layout) (n : ℕ) (m : Files) → Lasts layout n m m
lasts_same layout n m = record { own = λ r less fits. inl refl; floor = λ f is. (f, is, omega arith); manifest = λ r fits packed. refl; pack = λ r fits packed. refl }

-- what is below a floor is below a greater one
below_on : (r : ℕ) (old new : Result ℕ SmallFault) → ((f : ℕ) → old ≡ Ok f → (g : ℕ) × (new ≡ Ok g) × (f ≤ g)) → is_below r old ≡ true → is_below r new ≡ true
below_on r (Err fault) new rises below = absurd cc
below_on r (Ok f) new rises below =
    let g = rises f refl in
    let less : r < f = is_less r f below in
    let so : nat_lt r g.0 ≡ true = grind (arith, less, g.2) in
    ap (λ o. is_below r o) g.1 ∙ so

packed_on : (layout : Layout) (a b : Files) (r : ℕ) → ((f : ℕ) → floor_in layout a ≡ Ok f → (g : ℕ) × (floor_in layout b ≡ Ok g) × (f ≤ g)) → is_packed layout a r ≡ true → is_packed layout b r ≡ true
unfolding is_packed
packed_on layout a b r rises packed = below_on r (floor_in layout a) (floor_in layout b) rises packed

own_on : (a b c : Option (List ℕ)) → (b ≡ a) ⊎ (b ≡ None) → (c ≡ b) ⊎ (c ≡ None) → (c ≡ a) ⊎ (c ≡ None)
own_on a b c first second = ⊎_elim (λ same. ⊎_elim (λ before. inl (same ∙ before)) (λ gone. inr (same ∙ gone)) first) (λ gone. inr gone) second

pub lasts_then : (layout : Layout) (n k : ℕ) (a b c : Files) → n ≤ k → Lasts layout n a b → Lasts layout k b c → Lasts layout n a c
lasts_then layout n k a b c le x y = record {
  own = λ r less fits. own_on (rev_file layout a r) (rev_file layout b r) (rev_file layout c r) (x.own r less fits) (y.own r (omega (arith, less, le)) fits);
  floor = λ f is. let g = x.floor f is in let h = y.floor g.0 g.1 in (h.0, h.1, omega (arith, g.2, h.2));
  manifest = λ r fits packed. y.manifest r fits (packed_on layout a b r x.floor packed) ∙ x.manifest r fits packed;
  pack = λ r fits packed. y.pack r fits (packed_on layout a b r x.floor packed) ∙ x.pack r fits packed;
}

-- ---- as the table goes on

-- what it meets now
pub met_now : (layout : Layout) (low young : ℕ) (stuck : Option DiskPlace) (t : Trace) (w : World) (v : SeatView) → IsStore layout low young stuck t w → length v.seen ≤ length w.history → v.pass.least < length w.history → Met layout w t v t
met_now layout low young stuck t w v s seen least = record {
  world = w;
  store = record { trace = s.trace; size = s.size; whole = s.whole; kept = s.kept; shown = s.shown; coming = s.coming; low_is = refl; young_is = refl; stuck_is = refl };
  low = refl;
  grown = begins_itself w.history;
  seen = seen;
  least = least;
  lasts = lasts_same layout (length w.history) (files_now t);
}

begins_then : (h g k : List Recorded) → Begins h g → Begins k h → Begins k g
begins_then h g k a b = (a.0 ++ b.0, b.1 ∙ ap (λ l. l ++ b.0) a.1 ∙ append_assoc g a.0 b.0)

pub grown_long : (h g : List Recorded) → Begins h g → length g ≤ length h
grown_long h g b = let e : length h ≡ length g + length b.0 = ap length b.1 ∙ length-append g b.0 in omega (arith, e)

-- what it met is behind the state after a step, too
pub met_after : (layout : Layout) (p : ℕ) (w after : World) (now new t : Trace) (v u : SeatView) → Spares p w after → Lasts layout (length w.history) (files_now now) (files_now new) → length u.seen ≤ length v.seen → u.pass.least ≤ v.pass.least
    → Met layout w now v t → Met layout after new u t
met_after layout p w after now new t v u spares lasts seen least m = record {
  world = m.world;
  store = m.store;
  low = spares.low ∙ m.low;
  grown = begins_then w.history m.world.history after.history m.grown spares.grows;
  seen = omega (arith, seen, m.seen);
  least = omega (arith, least, m.least);
  lasts = lasts_then layout (length m.world.history) (length w.history) (files_now t) (files_now now) (files_now new) (grown_long w.history m.world.history m.grown) m.lasts lasts;
}

-- ---- what is read

-- what stands in a line stands in one that goes on
slice_get_front : (a b : List Recorded) (r : ℕ) (x : Recorded) → slice_get a r ≡ Some x → slice_get (a ++ b) r ≡ Some x
slice_get_front [] b r x e = absurd cc
slice_get_front (y ∷ ys) b zero x e = e
slice_get_front (y ∷ ys) b (suc r) x e = slice_get_front ys b r x e

there_within : (a : List Recorded) (r : ℕ) → r < length a → (x : Recorded) × (slice_get a r ≡ Some x)
there_within [] r less = absurd (omega (arith, less))
there_within (y ∷ ys) zero less = (y, refl)
there_within (y ∷ ys) (suc r) less = there_within ys r (omega (arith, less))

first_part : (a b : List Recorded) (r : ℕ) (x : Recorded) → r < length a → slice_get (a ++ b) r ≡ Some x → slice_get a r ≡ Some x
first_part [] b r x less e = absurd (omega (arith, less))
first_part (y ∷ ys) b zero x less e = e
first_part (y ∷ ys) b (suc r) x less e = first_part ys b r x (omega (arith, less)) e

module _ (layout : Layout) (low young : ℕ) (stuck : Option DiskPlace) (w : World) (now t : Trace) (v : SeatView) (s : IsStore layout low young stuck now w) (m : Met layout w now v t) where
  fits : (r : ℕ) → r < length m.world.history → r < 2 ^ 32
  fits r less = all_fit layout m.world.low m.world.young (stuck_place m.world.lock) t m.world m.store r less

  -- the floor that the files showed
  shows : ShowsFloor layout (with_txns [] m.world) m.world.disk
  shows = shows_now layout m.world.low m.world.young (stuck_place m.world.lock) t m.world m.store

  floor_is : floor_in layout (files_now t) ≡ Ok shows.floor
  unfolding shows
  floor_is = floor_now layout m.world.low m.world.young (stuck_place m.world.lock) t m.world m.store

  -- what is packed is a revision of that history
  packed_within : (r : ℕ) → is_packed layout (files_now t) r ≡ true → r < length m.world.history
  unfolding is_packed
  packed_within r packed =
      let below : nat_lt r shows.floor ≡ true = sym (ap (λ f. is_below r f) floor_is) ∙ packed in
      let less : r < shows.floor = is_less r shows.floor below in
      let most : shows.floor ≤ length m.world.history = shows.most in
      omega (arith, less, most)

  -- each revision of that history is one of the history now: both stores have its bytes
  then_read : (r : ℕ) (x : Recorded) → slice_get m.world.history r ≡ Some x → rev_bytes layout (files_now t) r ≡ Ok x.bytes
  then_read r x at = (history_reads layout m.world.low m.world.young (stuck_place m.world.lock) t m.world m.store (Grows r) None (tt {0}) r x at (omega arith)).bytes

  now_read : (r : ℕ) (x : Recorded) → slice_get m.world.history r ≡ Some x → rev_bytes layout (files_now now) r ≡ Ok x.bytes
  now_read r x at = (history_reads layout low young stuck now w s (Grows r) None (tt {0}) r x (ap (λ l. slice_get l r) m.grown.1 ∙ slice_get_front m.world.history m.grown.0 r x at) (omega arith)).bytes

  bytes_same : (r : ℕ) → r < length m.world.history → rev_bytes layout (files_now now) r ≡ rev_bytes layout (files_now t) r
  bytes_same r less = let x = there_within m.world.history r less in now_read r x.0 x.1 ∙ sym (then_read r x.0 x.1)

  still_packed : (r : ℕ) → is_packed layout (files_now t) r ≡ true → is_packed layout (files_now now) r ≡ true
  still_packed r packed = packed_on layout (files_now t) (files_now now) r m.lasts.floor packed

  pub follows : (n : ℕ) → n < length m.world.history → Follows layout (Grows n) (files_now t) (files_now now)
  follows n within = record {
    bytes = λ r known. bytes_same r (omega (arith, known, within));
    packed = still_packed;
    manifest = λ r packed. m.lasts.manifest r (fits r (packed_within r packed)) packed;
    pack = λ r packed. m.lasts.pack r (fits r (packed_within r packed)) packed;
    own = λ r known. let less : r < length m.world.history = omega (arith, known, within) in m.lasts.own r less (fits r less);
  }

  last_within : v.told ≡ true → known_last v < length m.world.history
  last_within told = subst (λ b. (if b then v.pass.least + (length v.seen - 1 - v.pass.least) else 0) < length m.world.history) (sym told) (omega (arith, m.seen, m.least))

  pub files_later : v.told ≡ true → FilesLater layout (Grows (known_last v)) (Some (files_now t)) (Some (files_now now))
  files_later told = follows (known_last v) (last_within told)

-- what the pass has seen stands in the files that its seat met last
pub tells_seen : (w : World) (now t : Trace) (v : SeatView) → Met v.layout w now v t → w.low ≡ v.low → v.told ≡ true → v.met ≡ Some t → Sees w (view_of v) → TellsSeen v.low (seat_store v) (view_of v)
tells_seen w now t v m low told is sees = record {
  layout = refl;
  files = files_now t;
  told = ap (λ o. option_map files_now o) is;
  each = λ r x at. subst (λ n. IsReadable n (seat_store v) (files_now t) r x) (sym m.low ∙ low) (history_reads v.layout m.world.low m.world.young (stuck_place m.world.lock) t m.world m.store (Grows (known_last v)) (option_map files_now v.met) (ground_of v) r x (here r x at) (known r x at));
  shown = sees.shown;
}
  where
    here : (r : ℕ) (x : Recorded) → slice_get v.seen r ≡ Some x → slice_get m.world.history r ≡ Some x
    here r x at = first_part m.world.history m.grown.0 r x (omega (arith, slice_get_within v.seen r x at, m.seen))
        (ap (λ l. slice_get l r) (sym m.grown.1) ∙ get_taken v.pass.seen r w.history x (ap (λ l. slice_get l r) (sym sees.seen) ∙ at))

    known : (r : ℕ) (x : Recorded) → slice_get v.seen r ≡ Some x → r ≤ known_last v
    known r x at = subst (λ b. r ≤ (if b then v.pass.least + (length v.seen - 1 - v.pass.least) else 0)) (sym told) (omega (arith, slice_get_within v.seen r x at))

-- who has seen no less, and was told of no less, knows of no less
pub last_grows : (v u : SeatView) → v.told ≡ true → u.told ≡ true → v.pass.least ≤ u.pass.least → length v.seen ≤ length u.seen → known_last v ≤ known_last u
last_grows v u a b least seen = subst (λ (y : Bool × Bool). (if y.0 then v.pass.least + (length v.seen - 1 - v.pass.least) else 0) ≤ (if y.1 then u.pass.least + (length u.seen - 1 - u.pass.least) else 0)) (λ i. (sym a i, sym b i)) (omega (arith, least, seen))

-- what a seat that has met this now tells is later than what it told
pub later_now : (low young : ℕ) (stuck : Option DiskPlace) (w : World) (now t : Trace) (v u : SeatView) → IsStore v.layout low young stuck now w → Met v.layout w now v t → v.told ≡ true → v.met ≡ Some t → u.met ≡ Some now → u.layout ≡ v.layout → u.low ≡ v.low → known_last v ≤ known_last u → Later (seat_store v) (seat_store u)
later_now floor young stuck w now t v u s m told is now_is layout low reach = record {
  layout = layout;
  reach = reach;
  files = subst (λ (o : Option Trace × Option Trace). FilesLater v.layout (Grows (known_last v)) (option_map files_now o.0) (option_map files_now o.1)) (λ i. (sym is i, sym now_is i)) (files_later v.layout floor young stuck w now t v s m told);
  below = λ i. record { layout = layout i; low = low i };
}

-- where nothing is told
pub later_untold : (v u : SeatView) → v.told ≡ false → v.met ≡ None → u.layout ≡ v.layout → u.low ≡ v.low → Later (seat_store v) (seat_store u)
later_untold v u told none layout low = record {
  layout = layout;
  reach = subst (λ b. (if b then v.pass.least + (length v.seen - 1 - v.pass.least) else 0) ≤ known_last u) (sym told) (omega arith);
  files = subst (λ o. FilesLater v.layout (Grows (known_last v)) (option_map files_now o) (option_map files_now u.met)) (sym none) tt;
  below = λ i. record { layout = layout i; low = low i };
}
