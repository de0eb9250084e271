-- Calls of a begin's section, one after another.
use Rattle.std.proofs.Common.{◌≡◌, ◌<◌, ℕ, List, [], ◌∷◌, ◌++◌, length, Bool, true, false, cond, refl, sym, ap, subst, ◌∙◌, arith, length-append}
use Rattle.std.proofs.lemmas.Option.{same_Some}
use Rattle.std.specs.Prelude.{Option, Some, Result, Ok, Err}
use Rattle.fsfs_base.specs.declared.places.place.BeginPlace.{BeginPlace}
use Rattle.fsfs_base.specs.declared.places.place.BeginPlace.TheVariants as place
use Rattle.fsfs_base.specs.declared.places.place.DiskPlace.TheVariants.{Begin}
use Rattle.fsfs_machine.specs.declared.machine.Recorded.{Recorded}
use Rattle.fsfs_machine.specs.declared.machine.Drawn.{Drawn}
use Rattle.fsfs_machine.specs.declared.machine.Txn.{Txn}
use Rattle.fsfs_machine.specs.declared.machine.Section.{Section}
use Rattle.fsfs_machine.specs.declared.machine.Section.TheVariants.{CountRead, CountPut, CountRenamed, Over}
use Rattle.fsfs_machine.specs.declared.machine.Outcome.{Outcome}
use Rattle.fsfs_machine.specs.declared.machine.Step.{Step}
use Rattle.fsfs_machine.specs.declared.machine.Step.TheVariants as step
use Rattle.fsfs_machine.specs.declared.machine.Went.{Went}
use Rattle.fsfs_machine.specs.declared.machine.Went.TheVariants.{Fine, Before, After, Torn}
use Rattle.fsfs_machine.specs.Machine.{World, is_fine_in, answer, after, spoiled}
use Rattle.fsfs_layout.specs.Layouts.{shard_size}
use Rattle.fsfs_turn.specs.Views.{View, Turned, with_txns, Called, called_view, given_by, firm_by}
use Rattle.fsfs_machine.specs.Kept.{AllBelow}
use Rattle.fsfs_turn.specs.Learning.{TurnedFrom, CounterRead, drawn_of}
use Rattle.fsfs_base.specs.declared.fields.txn_name.TxnName.{TxnName}
use Rattle.fsfs_begin.specs.declared.name_fault.NameFault.TheVariants.{DiskFault, Memory}
use Rattle.fsfs_turn.proofs.Reading.{begins_on}
use Rattle.fsfs_begin.specs.Steps.{Steps, End, More, Reached, Stopped, IsGiven}
use Rattle.fsfs_begin.specs.Drawing.{HasRead, Raises, Draws}

-- ---- courses

pub steps_on : (v m u : View) → Steps v m → Steps m u → Steps v u
steps_on v m u (End _) more = more
steps_on v m u (More lay step outcome _ k _ turned rest) more = More lay step outcome v k u turned (steps_on k m u rest more)

pub one_step : (lay : World → World) (s : Step) (outcome : Outcome) (v u : View) → TurnedFrom lay s outcome v u → Steps v u
one_step lay s outcome v u t = More lay s outcome v u u t (End u)

pub one_turn : (txns : List Txn) (s : Step) (outcome : Outcome) (v u : View) → Turned txns s outcome v u → Steps v u
one_turn txns s outcome v u t = one_step (with_txns txns) s outcome v u (record { world = t.world; kept = t.kept; sees = t.sees; did = t.did; happens = t.happens; answers = t.answers; after = t.after; leaves = t.leaves })

-- ---- a call of the section

module _ (at : BeginPlace) (v : View) (s : Section) (inside : v.section ≡ Some s) where
  abbrev view_by : Bool → List Recorded → List ℕ → View
  view_by b h given = record v { pass = record v.pass { seen = length h; faults = cond b v.pass.faults (v.pass.faults ++ Begin at ∷ []) }; seen = h; section = Some (cond b (after s) (spoiled s)); given = given }

  -- it leaves the firm floor that is known
  abbrev KeepsFirm : Type 0
  KeepsFirm = (went : Went) (size : ℕ) (firm : Option ℕ) → firm_by s went size firm ≡ firm

  called_is : KeepsFirm → (went : Went) (u : View) → Called (Begin at) went v u → u ≡ view_by (is_fine_in went) u.seen (given_by s went v.given)
  called_is firms went u c =
      let same : c.inside ≡ s = same_Some c.inside s (sym c.was ∙ inside) in
      c.is ∙ ap (λ r. called_view u.seen (Begin at) went r v) same
      ∙ ap {A = Option ℕ} (λ o. record (view_by (is_fine_in went) u.seen (given_by s went v.given)) { firm = o }) (firms went (shard_size v.layout) v.firm)

  pub reached : ((went : Went) (given : List ℕ) → given_by s went given ≡ given) → KeepsFirm → (went : Went) (u : View) → is_fine_in went ≡ true → Called (Begin at) went v u → Reached (after s) v u
  reached names firms went u fine c = record {
    is = called_is firms went u c ∙ ap (λ g. view_by (is_fine_in went) u.seen g) (names went v.given) ∙ ap (λ b. view_by b u.seen v.given) fine;
    grows = c.grows;
    steps = one_turn [] (step.Call v.number (Begin at) went) (answer went) v u c.turned;
  }

  pub stopped : ((went : Went) → is_fine_in went ≡ false → given_by s went v.given ≡ v.given) → KeepsFirm → spoiled s ≡ Over → (went : Went) (u : View) → is_fine_in went ≡ false → Called (Begin at) went v u → Stopped at v u
  stopped names firms over went u ill c = record {
    is = called_is firms went u c ∙ ap (λ g. view_by (is_fine_in went) u.seen g) (names went ill) ∙ ap (λ b. view_by b u.seen v.given) ill
        ∙ ap (λ r. record v { pass = record v.pass { seen = length u.seen; faults = v.pass.faults ++ Begin at ∷ [] }; seen = u.seen; section = Some r }) over;
    grows = c.grows;
    steps = one_turn [] (step.Call v.number (Begin at) went) (answer went) v u c.turned;
  }

-- the names are firm: the name is given
module _ (v : View) (x : Drawn) (inside : v.section ≡ Some (CountRenamed x)) where
  given_fine : (went : Went) → is_fine_in went ≡ true → given_by (CountRenamed x) went v.given ≡ x.name ∷ v.given
  given_fine Fine e = refl
  given_fine Before e = absurd cc
  given_fine After e = absurd cc
  given_fine (Torn any) e = absurd cc

  pub given_ill : (went : Went) → is_fine_in went ≡ false → given_by (CountRenamed x) went v.given ≡ v.given
  given_ill Fine e = absurd cc
  given_ill Before e = refl
  given_ill After e = refl
  given_ill (Torn any) e = refl

  pub given : (went : Went) (u : View) → is_fine_in went ≡ true → Called (Begin place.Firm) went v u → IsGiven x.name v u
  given went u fine c = record {
    is = called_is place.Firm v (CountRenamed x) inside (λ w size firm. refl) went u c ∙ ap (λ g. view_by place.Firm v (CountRenamed x) inside (is_fine_in went) u.seen g) (given_fine went fine)
        ∙ ap (λ b. view_by place.Firm v (CountRenamed x) inside b u.seen (x.name ∷ v.given)) fine;
    grows = c.grows;
    steps = one_turn [] (step.Call v.number (Begin place.Firm) went) (answer went) v u c.turned;
  }

-- the first call
module _ (base number : ℕ) (v : View) where
  abbrev counted_by : Bool → List Recorded → View
  counted_by b h = record v { pass = record v.pass { seen = length h; faults = cond b v.pass.faults (v.pass.faults ++ Begin place.Read ∷ []) }; seen = h; section = Some (cond b (CountRead (drawn_of base number)) Over) }

  pub count_reached : (went : Went) (u : View) → is_fine_in went ≡ true → CounterRead base number went v u → Reached (CountRead (drawn_of base number)) v u
  count_reached went u fine c = record { is = c.is ∙ ap (λ b. counted_by b u.seen) fine; grows = c.grows; steps = one_turn [] (step.Draw v.number base went) (answer went) v u c.turned }

  pub count_stopped : (went : Went) (u : View) → is_fine_in went ≡ false → CounterRead base number went v u → Stopped place.Read v u
  count_stopped went u ill c = record { is = c.is ∙ ap (λ b. counted_by b u.seen) ill; grows = c.grows; steps = one_turn [] (step.Draw v.number base went) (answer went) v u c.turned }

-- ---- one after another

pub section_on : (s : Section) (v m : View) → Reached s v m → m.section ≡ Some s
section_on s v m r = ap {A = View} (λ z. z.section) r.is

pub stopped_on : (s : Section) (at : BeginPlace) (v m u : View) → Reached s v m → Stopped at m u → Stopped at v u
stopped_on s at v m u a b = record {
  is = b.is ∙ ap {A = View} (λ z. record z { pass = record z.pass { seen = length u.seen; faults = z.pass.faults ++ Begin at ∷ [] }; seen = u.seen; section = Some Over }) a.is;
  grows = begins_on v.seen m.seen u.seen a.grows b.grows;
  steps = steps_on v m u a.steps b.steps;
}

pub given_on : (s : Section) (name : ℕ) (v m u : View) → Reached s v m → IsGiven name m u → IsGiven name v u
given_on s name v m u a b = record {
  is = b.is ∙ ap {A = View} (λ z. record z { pass = record z.pass { seen = length u.seen }; seen = u.seen; section = Some Over; given = name ∷ z.given }) a.is;
  grows = begins_on v.seen m.seen u.seen a.grows b.grows;
  steps = steps_on v m u a.steps b.steps;
}

-- ---- the next number takes the place of the one that was read

pub raises_on : (k : View → Type 0) (s : Section) (x : Drawn) (result : Result (Unit {0}) BeginPlace) (v m : View) → Reached s v m → Raises k x result m → Raises k x result v
raises_on k s x (Ok done) v m r w = (w.0, w.1, given_on s x.name v m w.0 r w.2)
raises_on k s x (Err at) v m r w = (w.0, w.1, stopped_on s at v m w.0 r w.2)

module _ (k : View → Type 0) (x : Drawn) (v : View) where
  pub put_reached : (at : v.section ≡ Some (CountRead x)) (w : (u : View) × (went : Went) × k u × (is_fine_in went ≡ true) × Called (Begin place.Put) went v u) → Reached (CountPut x) v w.0
  put_reached at w = reached place.Put v (CountRead x) at (λ went given. refl) (λ went size firm. refl) w.1 w.0 w.3 w.4

  pub put_stopped : v.section ≡ Some (CountRead x) → (u : View) × (went : Went) × k u × (is_fine_in went ≡ false) × Called (Begin place.Put) went v u → Raises k x (Err place.Put) v
  put_stopped at w = (w.0, w.2, stopped place.Put v (CountRead x) at (λ went ill. refl) (λ went size firm. refl) refl w.1 w.0 w.3 w.4)

  pub rename_reached : (at : v.section ≡ Some (CountPut x)) (w : (u : View) × (went : Went) × k u × (is_fine_in went ≡ true) × Called (Begin place.Rename) went v u) → Reached (CountRenamed x) v w.0
  rename_reached at w = reached place.Rename v (CountPut x) at (λ went given. refl) (λ went size firm. refl) w.1 w.0 w.3 w.4

  pub rename_stopped : v.section ≡ Some (CountPut x) → (u : View) × (went : Went) × k u × (is_fine_in went ≡ false) × Called (Begin place.Rename) went v u → Raises k x (Err place.Rename) v
  rename_stopped at w = (w.0, w.2, stopped place.Rename v (CountPut x) at (λ went ill. refl) (λ went size firm. refl) refl w.1 w.0 w.3 w.4)

  pub firm_given : v.section ≡ Some (CountRenamed x) → (u : View) × (went : Went) × k u × (is_fine_in went ≡ true) × Called (Begin place.Firm) went v u → Raises k x (Ok tt) v
  firm_given at w = (w.0, w.2, given v x at w.1 w.0 w.3 w.4)

  pub firm_stopped : v.section ≡ Some (CountRenamed x) → (u : View) × (went : Went) × k u × (is_fine_in went ≡ false) × Called (Begin place.Firm) went v u → Raises k x (Err place.Firm) v
  firm_stopped at w = (w.0, w.2, stopped place.Firm v (CountRenamed x) at (given_ill v x at) (λ went size firm. refl) refl w.1 w.0 w.3 w.4)

-- ---- with the lock held

-- a number was read, and its next one raised or not
pub draws_on : (k : View → Type 0) (base number : ℕ) (name : TxnName) (v : View) → name.number.number ≡ number → (m : View) → HasRead base number v m → Raises k (drawn_of base number) (Ok tt) m → Draws k base (Ok name) v
draws_on k base number name v same m r w = (
  w.0,
  w.1,
  subst (λ n. IsGiven n v w.0) (sym same) (given_on (CountRead (drawn_of base number)) number v m w.0 r.reached w.2),
  later,
  subst (λ n. AllBelow n v.given) (sym same) r.above,
)
  where
    later : v.pass.least < length w.0.seen
    later = let e : length w.0.seen ≡ length (m.seen ++ w.2.grows.0) = ap length w.2.grows.1 in omega (arith, e, length-append m.seen w.2.grows.0, r.all)

pub undrawn_on : (k : View → Type 0) (base number : ℕ) (at : BeginPlace) (v m : View) → HasRead base number v m → Raises k (drawn_of base number) (Err at) m → Draws k base (Err (DiskFault at)) v
undrawn_on k base number at v m r w = (w.0, w.1, stopped_on (CountRead (drawn_of base number)) at v m w.0 r.reached w.2)

pub unwritten : (k : View → Type 0) (base number : ℕ) (v m : View) → k m → HasRead base number v m → Draws k base (Err Memory) v
unwritten k base number v m known r = (m, known, (number, r.reached))
