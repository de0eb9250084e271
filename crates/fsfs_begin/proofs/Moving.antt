-- What a begin leaves, from its parts.
use Rattle.std.proofs.Common.{◌≡◌, ◌≤◌, ◌<◌, ℕ, zero, suc, List, [], ◌∷◌, ◌++◌, length, Bool, true, false, cond, refl, sym, ap, subst, ◌∙◌, arith, append_assoc, append-nil, length-append}
use Rattle.std.specs.Prelude.{Option, Some, None, is_some, slice_get}
use Rattle.fsfs_begin.specs.declared.name_fault.NameFault.{NameFault}
use Rattle.fsfs_begin.specs.declared.name_fault.NameFault.TheVariants as names
use Rattle.fsfs_base.specs.declared.places.place.DiskPlace.{DiskPlace}
use Rattle.fsfs_base.specs.declared.places.place.DiskPlace.TheVariants as place
use Rattle.fsfs_machine.specs.declared.machine.Recorded.{Recorded}
use Rattle.fsfs_machine.specs.declared.machine.Drawn.{Drawn}
use Rattle.fsfs_machine.specs.declared.machine.Section.TheVariants.{Begun, CountRead, Over}
use Rattle.fsfs_machine.specs.declared.machine.Outcome.TheVariants as outcome
use Rattle.fsfs_machine.specs.declared.machine.Step.TheVariants as step
use Rattle.fsfs_machine.specs.declared.machine.Went.{Went}
use Rattle.fsfs_machine.specs.Machine.{is_fine_in, answer}
use Rattle.fsfs_machine.specs.Kept.{AllBelow, IsIn}
use Rattle.fsfs_turn.specs.Alone.{BringsNoDoubt, are_harmless, leaves_stuck}
use Rattle.fsfs_turn.specs.Bytes.{bytes_beside, bytes_of}
use Rattle.fsfs_turn.specs.Views.{View, Begins, Looked, LockTaken, FoundStuck, LockGiven, MayGive, left_by, outside}
use Rattle.fsfs_turn.specs.Learning.{BenchMade, SpentPurged, MayMake, drawn_of, with_named, with_spent}
use Rattle.fsfs_turn.proofs.Doubts.{harmless_more, same_faults}
use Rattle.fsfs_begin.specs.Steps.{Steps, End, Stopped, IsGiven, HasName, Moved, HasFault}
use Rattle.fsfs_begin.specs.Drawing.{IsUndrawn}
use Rattle.fsfs_begin.specs.Faults.{Cause, named_fault}
use Rattle.fsfs_begin.specs.Begun.{IsMade}
use Rattle.fsfs_turn.proofs.Locking.{quiet_left}
use Rattle.fsfs_turn.proofs.Reading.{begins_on}
use Rattle.fsfs_turn.proofs.Moments.{begins_itself}
use Rattle.fsfs_begin.proofs.Going.{steps_on, one_step, one_turn}

-- ---- the pass moved on

pub moved_itself : (v : View) → v.section ≡ None → Moved v v
moved_itself v none = record { number = refl; layout = refl; since = refl; left = refl; opened = refl; mine = refl; least = omega arith; grows = begins_itself v.seen; more = []; given = refl; still = λ stuck. stuck; full = λ full. full; outside = none; doubtless = λ few. few; steps = End v }

pub moved_on : (v m u : View) → Moved v m → Moved m u → Moved v u
moved_on v m u a b = record {
  number = b.number ∙ a.number;
  layout = b.layout ∙ a.layout;
  since = b.since ∙ a.since;
  left = b.left ∙ a.left;
  opened = b.opened ∙ a.opened;
  mine = b.mine ∙ a.mine;
  least = omega (arith, a.least, b.least);
  grows = begins_on v.seen m.seen u.seen a.grows b.grows;
  more = b.more ++ a.more;
  given = b.given ∙ ap (λ l. b.more ++ l) a.given ∙ sym (append_assoc b.more a.more v.given);
  still = λ stuck. b.still (a.still stuck);
  full = λ full. b.full (a.full full);
  outside = b.outside;
  doubtless = λ few. b.doubtless (a.doubtless few);
  steps = steps_on v m u a.steps b.steps;
}

same_seen : (v u : View) → u.seen ≡ v.seen → Begins u.seen v.seen
same_seen v u e = ([], e ∙ sym (append-nil v.seen))

pub by_look : (young : ℕ) (v u : View) → v.section ≡ None → Looked young v u → Moved v u
by_look young v u none l = record {
  number = ap {A = View} (λ z. z.number) l.is;
  layout = ap {A = View} (λ z. z.layout) l.is;
  since = ap {A = View} (λ z. z.since) l.is;
  left = ap {A = View} (λ z. z.left) l.is;
  opened = ap {A = View} (λ z. z.opened) l.is;
  mine = ap {A = View} (λ z. z.pass.mine) l.is;
  least = let e : u.pass.least ≡ young = ap {A = View} (λ z. z.pass.least) l.is in omega (arith, e, l.least);
  grows = same_seen v u (ap {A = View} (λ z. z.seen) l.is);
  more = [];
  given = ap {A = View} (λ z. z.given) l.is;
  still = λ stuck. ap {A = View} (λ z. is_some z.pass.stuck) l.is ∙ stuck;
  full = λ full. ap {A = View} (λ z. z.full) l.is ∙ full;
  outside = ap {A = View} (λ z. z.section) l.is ∙ none;
  doubtless = same_faults v u (ap {A = View} (λ z. z.pass.faults) l.is);
  steps = one_turn [] (step.Look v.number) (outcome.Youngest young) v u l.turned;
}

pub by_stuck : (at : DiskPlace) (v u : View) → v.section ≡ None → FoundStuck at v u → Moved v u
by_stuck at v u none f = record {
  number = ap {A = View} (λ z. z.number) f.is;
  layout = ap {A = View} (λ z. z.layout) f.is;
  since = ap {A = View} (λ z. z.since) f.is;
  left = ap {A = View} (λ z. z.left) f.is;
  opened = ap {A = View} (λ z. z.opened) f.is;
  mine = ap {A = View} (λ z. z.pass.mine) f.is;
  least = let e : u.pass.least ≡ v.pass.least = ap {A = View} (λ z. z.pass.least) f.is in omega (arith, e);
  grows = same_seen v u (ap {A = View} (λ z. z.seen) f.is);
  more = [];
  given = ap {A = View} (λ z. z.given) f.is;
  still = λ stuck. ap {A = View} (λ z. is_some z.pass.stuck) f.is;
  full = λ full. ap {A = View} (λ z. z.full) f.is ∙ full;
  outside = ap {A = View} (λ z. z.section) f.is ∙ none;
  doubtless = same_faults v u (ap {A = View} (λ z. z.pass.faults) f.is);
  steps = one_turn [] (step.TakeLock v.number) (outcome.Stuck at) v u f.turned;
}

pub by_name : (name : ℕ) (v u : View) → HasName name v u → Moved v u
by_name name v u h = record {
  number = ap {A = View} (λ z. z.number) h.is;
  layout = ap {A = View} (λ z. z.layout) h.is;
  since = ap {A = View} (λ z. z.since) h.is;
  left = ap {A = View} (λ z. z.left) h.is;
  opened = ap {A = View} (λ z. z.opened) h.is;
  mine = ap {A = View} (λ z. z.pass.mine) h.is;
  least = let e : u.pass.least ≡ v.pass.least = ap {A = View} (λ z. z.pass.least) h.is in omega (arith, e);
  grows = h.grows;
  more = name ∷ [];
  given = ap {A = View} (λ z. z.given) h.is;
  still = λ stuck. ap {A = View} (λ z. is_some z.pass.stuck) h.is ∙ stuck;
  full = λ full. ap {A = View} (λ z. z.full) h.is ∙ full;
  outside = ap {A = View} (λ z. z.section) h.is;
  doubtless = same_faults v u (ap {A = View} (λ z. z.pass.faults) h.is);
  steps = h.steps;
}

-- ---- the section, from the lock taken to the lock given

taken_section : (v m : View) → LockTaken v m → m.section ≡ Some Begun
taken_section v m t = ap {A = View} (λ z. z.section) t.is

pub begun_at : (v m : View) → LockTaken v m → m.section ≡ Some Begun
begun_at v m t = taken_section v m t

pub least_at : (base : ℕ) (v m : View) → LockTaken v m → base ≤ v.pass.least → base ≤ m.pass.least
least_at base v m t le = let e : m.pass.least ≡ v.pass.least = ap {A = View} (λ z. z.pass.least) t.is in omega (arith, e, le)

-- however the section ended, the lock may be given
pub may_give : (base : ℕ) (m u : View) (why : NameFault) → IsUndrawn base why m u → MayGive u
may_give base m u (names.Small fault) w = absurd w
may_give base m u names.NamesFull w = absurd w
may_give base m u (names.DiskFault call) w = record { inside = Over; is = ap {A = View} (λ z. z.section) w.is; quiet = refl }
may_give base m u names.Memory w = record { inside = CountRead (drawn_of base w.0); is = ap {A = View} (λ z. z.section) w.1.is; quiet = refl }

pub given_over : (name : ℕ) (m u : View) → IsGiven name m u → MayGive u
given_over name m u g = record { inside = Over; is = ap {A = View} (λ z. z.section) g.is; quiet = refl }

taken_steps : (v m : View) → LockTaken v m → Steps v m
taken_steps v m t = one_turn [] (step.TakeLock v.number) outcome.Done v m t.turned

given_steps : (k u : View) → LockGiven (step.GiveLock k.number) k u → Steps k u
given_steps k u g = one_turn [] (step.GiveLock k.number) outcome.Done k u g.turned

taken_seen : (v m : View) → LockTaken v m → m.seen ≡ v.seen
taken_seen v m t = ap {A = View} (λ z. z.seen) t.is

given_seen : (k u : View) → LockGiven (step.GiveLock k.number) k u → u.seen ≡ k.seen
given_seen k u g = ap {A = View} (λ z. z.seen) g.is

-- from v over the lock's taking (m) and the section's end (k) to its giving (u)
module _ (v m k u : View) (t : LockTaken v m) (g : LockGiven (step.GiveLock k.number) k u) (grows : Begins k.seen m.seen) (steps : Steps m k) where
  grew : Begins u.seen v.seen
  grew = subst (λ l. Begins u.seen l) (taken_seen v m t) (subst (λ l. Begins l m.seen) (sym (given_seen k u g)) grows)

  course : Steps v u
  course = steps_on v m u (taken_steps v m t) (steps_on m k u steps (given_steps k u g))

  pub has_name : (name : ℕ) → IsGiven name m k → m.pass.least < length k.seen → AllBelow name m.given → HasName name v u
  has_name name d all above = record {
    is = g.is ∙ ap {A = View} (λ z. outside z) (d.is ∙ ap {A = View} (λ z. record z { pass = record z.pass { seen = length k.seen }; seen = k.seen; section = Some Over; given = name ∷ z.given }) t.is)
        ∙ ap {A = List Recorded} (λ l. record v { pass = record v.pass { seen = length l }; seen = l; section = None; sure = false; firm = None; given = name ∷ v.given }) (sym (given_seen k u g))
        ∙ ap {A = Option ℕ} (λ o. record v { pass = record v.pass { seen = length u.seen }; seen = u.seen; section = None; sure = false; firm = o; given = name ∷ v.given }) (sym (ap {A = View} (λ z. z.firm) g.is ∙ ap {A = View} (λ z. z.firm) d.is ∙ ap {A = View} (λ z. z.firm) t.is));
    all = let e : m.pass.least ≡ v.pass.least = ap {A = View} (λ z. z.pass.least) t.is in let f : length u.seen ≡ length k.seen = ap length (given_seen k u g) in omega (arith, all, e, f);
    above = subst (λ (l : List ℕ). AllBelow name l) (ap {A = View} (λ z. z.given) t.is) above;
    grows = grew;
    steps = course;
  }

  pub moved_by : (number : k.number ≡ m.number) → k.layout ≡ m.layout → k.since ≡ m.since → k.opened ≡ m.opened → k.pass.mine ≡ m.pass.mine → k.pass.least ≡ m.pass.least → k.pass.stuck ≡ m.pass.stuck → k.full ≡ m.full → k.given ≡ m.given → BringsNoDoubt m k → k.left ≡ m.left → MayGive k → Moved v u
  moved_by number layout since opened mine least found full given doubtless left may = record {
    left = ap {A = View} (λ z. z.left) g.is ∙ ap (λ o. left_by o k.left) may.is ∙ quiet_left may.inside k.left may.quiet ∙ left ∙ ap {A = View} (λ z. z.left) t.is;
    number = ap {A = View} (λ z. z.number) g.is ∙ number ∙ ap {A = View} (λ z. z.number) t.is;
    layout = ap {A = View} (λ z. z.layout) g.is ∙ layout ∙ ap {A = View} (λ z. z.layout) t.is;
    since = ap {A = View} (λ z. z.since) g.is ∙ since ∙ ap {A = View} (λ z. z.since) t.is;
    opened = ap {A = View} (λ z. z.opened) g.is ∙ opened ∙ ap {A = View} (λ z. z.opened) t.is;
    mine = ap {A = View} (λ z. z.pass.mine) g.is ∙ mine ∙ ap {A = View} (λ z. z.pass.mine) t.is;
    least = let e : u.pass.least ≡ v.pass.least = ap {A = View} (λ z. z.pass.least) g.is ∙ least ∙ ap {A = View} (λ z. z.pass.least) t.is in omega (arith, e);
    grows = grew;
    more = [];
    given = ap {A = View} (λ z. z.given) g.is ∙ given ∙ ap {A = View} (λ z. z.given) t.is;
    still = λ stuck. ap {A = View} (λ z. is_some z.pass.stuck) g.is ∙ ap (λ o. is_some o) found ∙ ap {A = View} (λ z. is_some z.pass.stuck) t.is ∙ stuck;
    full = λ met. ap {A = View} (λ z. z.full) g.is ∙ full ∙ ap {A = View} (λ z. z.full) t.is ∙ met;
    outside = ap {A = View} (λ z. z.section) g.is;
    doubtless = λ few. same_faults k u (ap {A = View} (λ z. z.pass.faults) g.is) (doubtless (same_faults v m (ap {A = View} (λ z. z.pass.faults) t.is) few));
    steps = course;
  }

  stopped_faults : (call : _) → Stopped call m k → u.pass.faults ≡ v.pass.faults ++ place.Begin call ∷ []
  stopped_faults call w = ap {A = View} (λ z. z.pass.faults) g.is ∙ ap {A = View} (λ z. z.pass.faults) w.is ∙ ap {A = View} (λ z. z.pass.faults ++ place.Begin call ∷ []) t.is

-- why no name was drawn, the lock given
pub undrawn : (base : ℕ) (v m k u : View) (why : NameFault) → LockTaken v m → IsUndrawn base why m k → LockGiven (step.GiveLock k.number) k u → Moved v u × Cause base (named_fault why) u
undrawn base v m k u (names.Small fault) t w g = absurd w
undrawn base v m k u names.NamesFull t w g = absurd w
undrawn base v m k u (names.DiskFault call) t w g = (
  moved_by v m k u t g w.grows w.steps (ap {A = View} (λ z. z.number) w.is) (ap {A = View} (λ z. z.layout) w.is) (ap {A = View} (λ z. z.since) w.is) (ap {A = View} (λ z. z.opened) w.is) (ap {A = View} (λ z. z.pass.mine) w.is) (ap {A = View} (λ z. z.pass.least) w.is) (ap {A = View} (λ z. z.pass.stuck) w.is) (ap {A = View} (λ z. z.full) w.is) (ap {A = View} (λ z. z.given) w.is)
      (λ few. ap {A = View} (λ z. are_harmless z.pass.faults) w.is ∙ harmless_more m.pass.faults (place.Begin call) few refl) (ap {A = View} (λ z. z.left) w.is) (may_give base m k (names.DiskFault call) w),
  record { before = v.pass.faults; later = []; is = stopped_faults v m k u t g w.grows w.steps call w },
)
undrawn base v m k u names.Memory t w g = (
  moved_by v m k u t g w.1.grows w.1.steps (ap {A = View} (λ z. z.number) w.1.is) (ap {A = View} (λ z. z.layout) w.1.is) (ap {A = View} (λ z. z.since) w.1.is) (ap {A = View} (λ z. z.opened) w.1.is) (ap {A = View} (λ z. z.pass.mine) w.1.is) (ap {A = View} (λ z. z.pass.least) w.1.is) (ap {A = View} (λ z. z.pass.stuck) w.1.is) (ap {A = View} (λ z. z.full) w.1.is) (ap {A = View} (λ z. z.given) w.1.is)
      (same_faults m k (ap {A = View} (λ z. z.pass.faults) w.1.is)) (ap {A = View} (λ z. z.left) w.1.is) (may_give base m k names.Memory w),
  tt,
)

-- ---- the bench

-- a call of the disk that is no part of a section
abbrev pub Tells : DiskPlace → Bool → View → View → Type 0
Tells at fine v u = u ≡ record v { pass = record v.pass { seen = length u.seen; faults = cond fine v.pass.faults (v.pass.faults ++ at ∷ []) }; seen = u.seen }

told_harmless : (at : DiskPlace) (fine : Bool) (places : List DiskPlace) → leaves_stuck at ≡ false → are_harmless places ≡ true → are_harmless (cond fine places (places ++ at ∷ [])) ≡ true
told_harmless at true places none few = few
told_harmless at false places none few = harmless_more places at few none

pub told_moved : (at : DiskPlace) (fine : Bool) (v u : View) → leaves_stuck at ≡ false → v.section ≡ None → Tells at fine v u → Begins u.seen v.seen → Steps v u → Moved v u
told_moved at fine v u harmless none is grows steps = record {
  number = ap {A = View} (λ z. z.number) is;
  layout = ap {A = View} (λ z. z.layout) is;
  since = ap {A = View} (λ z. z.since) is;
  left = ap {A = View} (λ z. z.left) is;
  opened = ap {A = View} (λ z. z.opened) is;
  mine = ap {A = View} (λ z. z.pass.mine) is;
  least = let e : u.pass.least ≡ v.pass.least = ap {A = View} (λ z. z.pass.least) is in omega (arith, e);
  grows = grows;
  more = [];
  given = ap {A = View} (λ z. z.given) is;
  still = λ stuck. ap {A = View} (λ z. is_some z.pass.stuck) is ∙ stuck;
  full = λ full. ap {A = View} (λ z. z.full) is ∙ full;
  outside = ap {A = View} (λ z. z.section) is ∙ none;
  doubtless = λ few. ap {A = View} (λ z. are_harmless z.pass.faults) is ∙ told_harmless at fine v.pass.faults harmless few;
  steps = steps;
}

made_steps : (x : Drawn) (went : Went) (v u : View) → BenchMade x went v u → Steps v u
made_steps x went v u b = one_step (with_named (x ∷ [])) (step.MakeBench v.number 0 went) (answer went) v u b.turned

pub spent_steps : (name : ℕ) (went : Went) (v u : View) → SpentPurged name went v u → Steps v u
spent_steps name went v u b = one_step (with_spent name) (step.PurgeSpent v.number 0 went) (answer went) v u b.turned

pub is_made : (x : Drawn) (went : Went) (v u : View) → is_fine_in went ≡ true → BenchMade x went v u → IsMade v u
is_made x went v u fine b = record {
  is = b.is ∙ ap (λ (c : Bool). record v { pass = record v.pass { seen = length u.seen; faults = cond c v.pass.faults (v.pass.faults ++ place.MakeBench ∷ []) }; seen = u.seen }) fine;
  all = b.all;
  grows = b.grows;
  steps = made_steps x went v u b;
}

-- the bench was made or not, and then dropped
module _ (x : Drawn) (v : View) (may : MayMake v x) where
  -- the name may be dropped now
  pub outside_then : (went : Went) (m : View) → BenchMade x went v m → (m.section ≡ None) × IsIn x.name m.given
  outside_then went m b = (ap {A = View} (λ z. z.section) b.is ∙ may.outside, subst (λ l. IsIn x.name l) (sym (ap {A = View} (λ z. z.given) b.is)) may.given)

  pub dropped : (went other : Went) (m u : View) → BenchMade x went v m → SpentPurged x.name other m u → Moved v u
  dropped went other m u b d = moved_on v m u (told_moved place.MakeBench (is_fine_in went) v m refl may.outside b.is b.grows (made_steps x went v m b))
      (told_moved place.Remove (is_fine_in other) m u refl (outside_then went m b).0 d.is d.grows (spent_steps x.name other m u d))

  pub make_fault : (went other : Went) (m u : View) → is_fine_in went ≡ false → BenchMade x went v m → SpentPurged x.name other m u → HasFault place.MakeBench u
  make_fault went other m u ill b d = by_other (is_fine_in other) d.is
    where
      faults : m.pass.faults ≡ v.pass.faults ++ place.MakeBench ∷ []
      faults = ap {A = View} (λ z. z.pass.faults) b.is ∙ ap (λ (c : Bool). cond c v.pass.faults (v.pass.faults ++ place.MakeBench ∷ [])) ill

      by_other : (c : Bool) → Tells place.Remove c m u → HasFault place.MakeBench u
      by_other true is = record { before = v.pass.faults; later = []; is = ap {A = View} (λ z. z.pass.faults) is ∙ faults }
      by_other false is = record { before = v.pass.faults; later = place.Remove ∷ []; is = ap {A = View} (λ z. z.pass.faults) is ∙ ap (λ l. l ++ place.Remove ∷ []) faults ∙ append_assoc v.pass.faults (place.MakeBench ∷ []) (place.Remove ∷ []) }

-- ---- the bytes of what was seen stay

same_beside : (g more : List Recorded) (q r : ℕ) → r < length g → bytes_beside q (slice_get (g ++ more) r) ≡ bytes_beside q (slice_get g r)
same_beside [] more q r less = absurd (omega (arith, less))
same_beside (x ∷ g) more q zero less = refl
same_beside (x ∷ g) more q (suc r) less = same_beside g more q r (omega (arith, less))

pub bytes_stay : (g h : List Recorded) (r : ℕ) → Begins h g → r < length g → bytes_of g r ≡ bytes_of h r
bytes_stay g h r b less = sym (same_beside g b.0 r r less) ∙ ap (λ l. bytes_of l r) (sym b.1)

pub longer : (g h : List Recorded) (r : ℕ) → Begins h g → r < length g → r < length h
longer g h r b less = let e : length h ≡ length (g ++ b.0) = ap length b.1 in omega (arith, e, length-append g b.0, less)
