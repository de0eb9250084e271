-- What is known of a pass that is split off, and of one into which another was joined.
use Rattle.std.proofs.Common.{◌≡◌, ◌<◌, ◌≤◌, ◌++◌, ◌||◌, ℕ, Bool, true, false, refl, sym, ap, subst, ◌∙◌, arith}
use Rattle.std.specs.Prelude.{Option, None, IfSome, is_some, option_map}
use Rattle.fsfs_disk.specs.Trace.{Trace, files_now}
use Rattle.fsfs_disk.specs.Benches.{HasShortFiles}
use Rattle.fsfs_fetch.specs.Views.{Grows, FilesLater, Later}
use Rattle.fsfs_machine.specs.Machine.{joined}
use Rattle.fsfs_turn.specs.Views.{View, Begins}
use Rattle.fsfs_turn.specs.Telling.{TellsSeen}
use Rattle.fsfs_pass.specs.declared.seats.seat_view.SeatView.{SeatView}
use Rattle.fsfs_pass.specs.Seats.{view_of, halved_view, split_pass, numbered_view, either_left, joined_view}
use Rattle.fsfs_pass.specs.Met.{Ground, ground_of, known_last, seat_store}
use Rattle.fsfs_pass.specs.Tells.{TellsIt}
use Rattle.fsfs_pass.specs.Passes.{is_sitting, reach_by, pass_store, KnowsIt, split_off, Joins}
use Rattle.fsfs_pass.specs.PassLemmas.{pass_tells}
use Rattle.fsfs_base.proofs.ResultLemmas.{none_of}

-- ---- a seat that was split

module _ (v u : SeatView) (is : u ≡ halved_view v) where
  pub halved_told : u.told ≡ v.told
  halved_told = ap {A = SeatView} (λ z. z.told) is

  pub halved_layout : ground_of u ≡ ground_of v
  halved_layout = ap {A = SeatView} (λ z. ground_of z) is

  pub halved_sits : is_sitting v.kin.stage ≡ true → is_sitting u.kin.stage ≡ true
  halved_sits sits = ap {A = SeatView} (λ z. is_sitting z.kin.stage) is ∙ sits

  pub halved_met : is_some v.met ≡ v.told → is_some u.met ≡ u.told
  halved_met met = ap {A = SeatView} (λ z. is_some z.met) is ∙ met ∙ sym halved_told

  pub halved_low : (last : ℕ) → (v.told ≡ true → last ≤ known_last v) → u.told ≡ true → last ≤ known_last u
  halved_low last low told =
      let same : known_last u ≡ known_last v = ap {A = SeatView} (λ z. known_last z) is in
      omega (arith, low (sym halved_told ∙ told), same)

  pub halved_short : IfSome (option_map files_now v.met) HasShortFiles → IfSome (option_map files_now u.met) HasShortFiles
  halved_short short = subst (λ o. IfSome (option_map files_now o) HasShortFiles) (sym (ap {A = SeatView} (λ z. z.met) is)) short

  pub halved_knows : (first : Option Trace) (last : ℕ) (a : View) → KnowsIt first last v a → KnowsIt first last u a
  halved_knows first last a k = subst (λ z. KnowsIt first last z a) (sym is) (record { disk = k.disk; told = k.told; is = k.is; tells = k.tells })

  pub halved_tells : (last : ℕ) → pass_store last u ≡ pass_store last v
  halved_tells last = ap {A = SeatView} (λ z. pass_store last z) is

-- ---- the new seat

module _ (n : ℕ) (old new : SeatView) (is : new ≡ numbered_view n new.met (split_pass old)) where
  pub split_told : new.told ≡ old.told
  split_told = ap {A = SeatView} (λ z. z.told) is

  pub split_layout : ground_of new ≡ ground_of old
  split_layout = ap {A = SeatView} (λ z. ground_of z) is

  pub split_sits : is_sitting new.kin.stage ≡ true
  split_sits = ap {A = SeatView} (λ z. is_sitting z.kin.stage) is

  pub split_failures : new.failures ≡ 0
  split_failures = ap {A = SeatView} (λ z. z.failures) is

  pub split_bench_failures : new.bench_failures ≡ 0
  split_bench_failures = ap {A = SeatView} (λ z. z.bench_failures) is

  split_view : view_of new ≡ split_off n (view_of old)
  split_view = ap {A = SeatView} (λ z. view_of z) is

  pub split_low : (last : ℕ) → (old.told ≡ true → last ≤ known_last old) → new.told ≡ true → last ≤ known_last new
  split_low last low told =
      let same : known_last new ≡ known_last old = ap {A = SeatView} (λ z. known_last z) is in
      omega (arith, low (sym split_told ∙ told), same)

  pub split_knows : (first now : Option Trace) (last : ℕ) (v : View) → now ≡ first → KnowsIt first last old v → (old.told ≡ true → old.number < n) → TellsIt new
      → (m : ℕ) × (v.number < m) × KnowsIt now last new (split_off m v)
  split_knows first now last v same k above tells =
      let told : new.told ≡ true = split_told ∙ k.told in
      let view : view_of new ≡ split_off n v = split_view ∙ ap {A = View} (λ z. split_off n z) k.is in (
        n,
        subst (λ (z : View). z.number < n) k.is (above k.told),
        record {
          disk = ap (λ o. is_some o) same ∙ k.disk;
          told = told;
          is = view;
          tells = subst (λ z. TellsSeen new.low (pass_store last new) z) view (pass_tells last new (view_of new) told (tells.1 told));
        },
      )

-- ---- two that were joined

later_in : (t s : Bool) (last : ℕ) (v u : SeatView) → s ≡ t → ground_of u ≡ ground_of v → (t ≡ false → v.met ≡ None) → (t ≡ true → Later (seat_store v) (seat_store u))
    → Later (record (seat_store v) { reach = reach_by t last (known_last v) }) (record (seat_store u) { reach = reach_by s last (known_last u) })
later_in true true last v u same layout none l = l refl
later_in true false last v u same layout none l = absurd cc
later_in false true last v u same layout none l = absurd cc
later_in false false last v u same layout none l = record {
  layout = ap {A = Ground} (λ g. g.layout) layout;
  reach = omega arith;
  files = subst (λ o. FilesLater v.layout (Grows last) (option_map files_now o) (option_map files_now u.met)) (sym (none refl)) tt;
  below = layout;
}

module _ (v z u : SeatView) (is : u ≡ joined_view u.met v z) where
  pub join_told : u.told ≡ v.told
  join_told = ap {A = SeatView} (λ a. a.told) is

  pub join_layout : ground_of u ≡ ground_of v
  join_layout = ap {A = SeatView} (λ a. ground_of a) is

  pub join_sits : is_sitting u.kin.stage ≡ true
  join_sits = ap {A = SeatView} (λ a. is_sitting a.kin.stage) is

  pub join_later : (last : ℕ) → is_some v.met ≡ v.told → (v.told ≡ true → Later (seat_store v) (seat_store u)) → Later (pass_store last v) (pass_store last u)
  join_later last met later = later_in v.told u.told last v u join_told join_layout (λ untold. none_of v.met (met ∙ untold)) later

  pub join_low : (last : ℕ) → (v.told ≡ true → last ≤ known_last v) → (v.told ≡ true → Later (seat_store v) (seat_store u)) → u.told ≡ true → last ≤ known_last u
  join_low last low later told =
      let was : v.told ≡ true = sym join_told ∙ told in
      let most : known_last v ≤ known_last u = (later was).reach in
      omega (arith, low was, most)

  -- where both were told, it tells more than the second
  pub join_later_too : (last now : ℕ) → v.told ≡ true → z.told ≡ true → Later (seat_store z) (seat_store u) → Later (pass_store last z) (pass_store now u)
  join_later_too last now told its later = subst (λ b. Later (record (seat_store z) { reach = reach_by b last (known_last z) }) (pass_store now u)) (sym its)
      (subst (λ b. Later (seat_store z) (record (seat_store u) { reach = reach_by b now (known_last u) })) (sym (join_told ∙ told)) later)

  join_view : view_of u ≡ record (view_of v) { pass = joined z.pass v.pass; seen = u.seen; left = either_left v.left z.left; given = v.given ++ z.given; full = v.full || z.full }
  join_view =
      let e = ap {A = SeatView} (λ a. view_of a) is in
      let line = ap {A = SeatView} (λ a. a.seen) is in
      e ∙ sym (ap (λ l. record (view_of v) { pass = joined z.pass v.pass; seen = l; left = either_left v.left z.left; given = v.given ++ z.given; full = v.full || z.full }) line)

  pub join_knows : (first : Option Trace) (last : ℕ) (a b : View) → is_some first ≡ true → v.told ≡ true → view_of v ≡ a → view_of z ≡ b → Begins u.seen v.seen → Begins u.seen z.seen → TellsIt u
      → (c : View) × KnowsIt first last u c × Joins a b c
  join_knows first last a b disk told its_is other_is one other tells =
      let now : u.told ≡ true = join_told ∙ told in
      let both : Joins (view_of v) (view_of z) (view_of u) = record { is = join_view; one = one; other = other } in (
        view_of u,
        record { disk = disk; told = now; is = refl; tells = pass_tells last u (view_of u) now (tells.1 now) },
        subst (λ y. Joins a y (view_of u)) other_is (subst (λ x. Joins x (view_of z) (view_of u)) its_is both),
      )
