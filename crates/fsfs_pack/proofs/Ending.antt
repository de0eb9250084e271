-- How a shard ends: packed, with its old files gone, or by a fault.
use Rattle.std.proofs.Common.{◌≡◌, ◌<◌, ◌≤◌, ◌+◌, ◌^◌, ℕ, [], ◌∷◌, ◌++◌, length, Bool, true, false, refl, sym, ap, subst, ◌∙◌, arith}
use Rattle.std.specs.Prelude.{Some, Result, Ok, Err, IfOk, min, if◌then◌else◌}
use Rattle.fsfs_layout.specs.Layouts.{shard_size}
use Rattle.fsfs_base.specs.declared.places.place.DiskPlace.{DiskPlace}
use Rattle.fsfs_base.specs.declared.places.place.DiskPlace.TheVariants.{Pack, Remove}
use Rattle.fsfs_base.specs.declared.places.place.PackPlace.{PackPlace}
use Rattle.fsfs_machine.specs.declared.machine.Section.{Section}
use Rattle.fsfs_machine.specs.declared.machine.Section.TheVariants.{Packed, FloorDoubtful, Over}
use Rattle.fsfs_machine.specs.declared.machine.Step.TheVariants as step
use Rattle.fsfs_machine.specs.declared.machine.Went.{Went}
use Rattle.fsfs_machine.specs.declared.machine.Went.TheVariants.{Fine, Before, After, Torn}
use Rattle.fsfs_machine.specs.declared.machine.Step.{Step}
use Rattle.fsfs_machine.specs.declared.machine.Outcome.{Outcome}
use Rattle.fsfs_machine.specs.Machine.{answer, either, learns}
use Rattle.fsfs_turn.specs.Alone.{BringsNoDoubt, leaves_stuck}
use Rattle.fsfs_turn.specs.Courses.{End, More}
use Rattle.fsfs_turn.specs.Learning.{TurnedFrom}
use Rattle.fsfs_turn.specs.Mountings.{RoseBy}
use Rattle.fsfs_turn.specs.Packing.{DoneBeside, MayRemove, Removal}
use Rattle.fsfs_turn.specs.Views.{View, Begins, Turned, Answers, with_txns}
use Rattle.fsfs_turn.proofs.Doubts.{same_faults, fault_more}
use Rattle.fsfs_pack.specs.declared.answers.PackEnd.{PackEnd}
use Rattle.fsfs_pack.specs.declared.answers.PackEnd.TheVariants.{Nothing, Packed as PackedSome}
use Rattle.fsfs_pack.specs.declared.answers.PackFault.{PackFault}
use Rattle.fsfs_pack.specs.declared.answers.PackFault.TheVariants.{DiskFault}
use Rattle.fsfs_pack.specs.declared.shard.Shard.{Shard}
use Rattle.fsfs_pack.specs.Packs.{EndsAt, LeftRose, Stopped, ShardEnds}
use Rattle.fsfs_pack.specs.Sections.{Along, Reached, Failed}
use Rattle.fsfs_pack.specs.Shards.{IsShard}
use Rattle.fsfs_turn.proofs.Moments.{begins_itself}
use Rattle.fsfs_pack.proofs.Going.{along_is, along_on, layout_stays}

-- ---- one behind another

pub reached_on : (s t : Section) (f g : ℕ) (v m u : View) → Reached s f v m → Reached t g m u → Reached t g v u
reached_on s t f g v m u a b = record { along = along_on v m u a.along b.along; section = b.section; firm = b.firm; doubtless = λ few. b.doubtless (a.doubtless few) }

-- nothing is done
pub reached_itself : (s : Section) (f : ℕ) (v : View) → v.section ≡ Some s → v.firm ≡ Some f → Reached s f v v
reached_itself s f v at firm = record {
  along = record { is = refl; grows = begins_itself v.seen; course = End v };
  section = at;
  firm = firm;
  doubtless = λ few. few;
}

-- ---- a fault

ends_at : (b : Bool) (place : DiskPlace) (u : View) → u.section ≡ Some (if b then FloorDoubtful place else Over) → EndsAt b place u
ends_at true place u at = at
ends_at false place u at = record { inside = Over; is = at; quiet = refl }

pub stopped_at : (place : PackPlace) (v u : View) → Failed place v u → Stopped (DiskFault (Pack place)) v u
stopped_at place v u f = record { along = f.along; ends = ends_at (leaves_stuck (Pack place)) (Pack place) u f.section; doubtless = f.doubtless; want = tt; told = (f.before, 0, f.last) }

-- ---- packed

pub ends_packed : (x : Shard) (left : ℕ) (v m u : View) → IsShard x → Reached Packed (x.first + shard_size x.layout) v m → Reached Packed (x.first + shard_size x.layout) m u → ShardEnds x (Ok left) v u
ends_packed x left v m u shard a b = subst (λ f. Reached Packed f v u) (sym shard.next) (reached_on Packed Packed (x.first + shard_size x.layout) (x.first + shard_size x.layout) v m u a b)

-- ---- what is removed

pub from_lay : (s : Step) (outcome : Outcome) (v u : View) → TurnedFrom (with_txns []) s outcome v u → Turned [] s outcome v u
from_lay s outcome v u t = record { world = t.world; kept = t.kept; sees = t.sees; did = t.did; happens = t.happens; answers = t.answers; after = t.after; leaves = t.leaves }

-- a call beside the section: it left the pass where it was, with the firm floor that it knew, and brought no doubt
pub record Aside (v u : View) : Type 0 where
  pub along : Along v u
  pub section : u.section ≡ v.section
  pub firm : u.firm ≡ v.firm
  pub doubtless : BringsNoDoubt v u

module _ (place : DiskPlace) (calm : leaves_stuck place ≡ false) (v : View) where
  no_doubt : (went : Went) (u : View) → u ≡ record v { pass = learns (length u.seen) place went v.pass; seen = u.seen } → BringsNoDoubt v u
  no_doubt Fine u is = same_faults v u (ap {A = View} (λ z. z.pass.faults) is)
  no_doubt Before u is = fault_more place v u (ap {A = View} (λ z. z.pass.faults) is) calm
  no_doubt After u is = fault_more place v u (ap {A = View} (λ z. z.pass.faults) is) calm
  no_doubt (Torn any) u is = fault_more place v u (ap {A = View} (λ z. z.pass.faults) is) calm

  aside : (went : Went) (s : Step) (u : View) → u ≡ record v { pass = learns (length u.seen) place went v.pass; seen = u.seen } → Begins u.seen v.seen → Turned [] s (answer went) v u → Aside v u
  aside went s u is grows turned = record {
    along = record {
      is = along_is v u (length u.seen) v.pass.floor (either went v.pass.faults (v.pass.faults ++ place ∷ [])) u.seen v.section v.firm is;
      grows = grows;
      course = More [] s (answer went) v u u turned (End u);
    };
    section = ap {A = View} (λ z. z.section) is;
    firm = ap {A = View} (λ z. z.firm) is;
    doubtless = no_doubt went u is;
  }

  pub beside_aside : (went : Went) (u : View) → DoneBeside place went v u → Aside v u
  beside_aside went u d = aside went (step.Beside v.number place went) u d.is d.grows (from_lay (step.Beside v.number place went) (answer went) v u d.turned)

pub aside_on : (v m u : View) → Aside v m → Aside m u → Aside v u
aside_on v m u a b = record { along = along_on v m u a.along b.along; section = b.section ∙ a.section; firm = b.firm ∙ a.firm; doubtless = λ few. b.doubtless (a.doubtless few) }

module _ (v : View) (f : ℕ) (at : v.section ≡ Some Packed) (firm : v.firm ≡ Some f) where
  stays_packed : (u : View) → Aside v u → Reached Packed f v u
  stays_packed u a = record { along = a.along; section = a.section ∙ at; firm = a.firm ∙ firm; doubtless = a.doubtless }

  pub beside_packed : (went : Went) (u : View) → DoneBeside Remove went v u → Reached Packed f v u
  beside_packed went u d = stays_packed u (beside_aside Remove refl v went u d)

  pub removed_packed : {E : Type 0} (result : Result Bool E) (r : ℕ) (went : Went) (u : View) → Removal result r went v u → Reached Packed f v u
  removed_packed (Ok false) r went u d = beside_packed went u d
  removed_packed (Ok true) r went u d = stays_packed u (aside Remove refl v went (step.RemoveOld v.number r went) u d.is d.grows d.turned)
  removed_packed (Err e) r went u d = stays_packed u (aside Remove refl v went (step.RemoveOld v.number r went) u d.is d.grows d.turned)

  -- the own file of a revision of the shard may go
  pub may_remove : (r next : ℕ) → r < next → next ≤ f → r < 2 ^ 32 → MayRemove v r
  may_remove r next less le fits = record { inside = at; floor = f; firm = firm; below = omega (arith, less, le); fits = fits }

-- ---- the old files of a shard

-- behind removals of files of the shard
abbrev pub Going : (View → Type 0) → (View → Type 0) → Shard → Type 0
Going before now x = (v : View) (f : ℕ) → before v → v.section ≡ Some Packed → v.firm ≡ Some f → x.next ≤ f → x.layout ≡ v.layout → (u : View) × now u × Reached Packed f v u

pub going_none : (known : View → Type 0) (x : Shard) → Going known known x
going_none known x = λ v f here at firm le same. (v, here, reached_itself Packed f v at firm)

pub going_more : (before middle now : View → Type 0) (x : Shard) (r : ℕ) → r < x.next → r < 2 ^ 32 → Going before middle x
    → ((v : View) (f : ℕ) → middle v → MayRemove v r → v.firm ≡ Some f → x.layout ≡ v.layout → (u : View) × now u × Reached Packed f v u) → Going before now x
going_more before middle now x r less fits so removed = λ v f here at firm le same.
    let m = so v f here at firm le same in
    let there = removed m.0 f m.1 (may_remove m.0 f m.2.section m.2.firm r x.next less le fits) m.2.firm (same ∙ sym (layout_stays v m.0 m.2.along)) in
    (there.0, there.1, reached_on Packed Packed f f v m.0 there.0 m.2 there.2)

-- and so it is due
pub going_due : (before now : View → Type 0) (x : Shard) (r : ℕ) → r < x.next → r < 2 ^ 32 → Going before now x
    → (v : View) × (f : ℕ) × before v × (v.section ≡ Some Packed) × (v.firm ≡ Some f) × (x.next ≤ f) × (x.layout ≡ v.layout) → (v : View) × now v × MayRemove v r × (x.layout ≡ v.layout)
going_due before now x r less fits so w =
    let m = so w.0 w.1 w.2 w.3 w.4 w.5 w.6 in
    (m.0, m.1, may_remove m.0 w.1 m.2.section m.2.firm r x.next less w.5 fits, w.6 ∙ sym (layout_stays w.0 m.0 m.2.along))

-- their folder
pub going_folder : {X E : Type 0} (before middle now : View → Type 0) (x : Shard) (result : Result X E) → Going before middle x → ((v : View) → middle v → v.section ≡ Some Packed → (u : View) × (went : Went) × now u × Answers result went × DoneBeside Remove went v u) → Going before now x
going_folder before middle now x result so beside = λ v f here at firm le same.
    let m = so v f here at firm le same in
    let there = beside m.0 m.1 m.2.section in
    (there.0, there.2, reached_on Packed Packed f f v m.0 there.0 m.2 (beside_packed m.0 f m.2.section m.2.firm there.1 there.0 there.4))

-- some are left: those before, and this one
pub left_more : (left more sum before middle now : ℕ) → sum ≡ min (left + more) 18446744073709551615 → RoseBy left before middle → RoseBy more middle now → RoseBy sum before now
left_more left more sum before middle now is was is_now = omega (arith, is, was, is_now)

-- with other calls before it and behind it
pub left_between : {E : Type 0} (result : Result ℕ E) (before middle next now : ℕ) → before ≤ middle → next ≤ now → IfOk result (λ left. RoseBy left middle next) → IfOk result (λ left. RoseBy left before now)
left_between (Ok left) before middle next now sooner later rose = omega (arith, sooner, later, rose)
left_between (Err e) before middle next now sooner later rose = tt

pub end_between : (end : Result PackEnd PackFault) (before middle next now : ℕ) → before ≤ middle → next ≤ now → IfOk end (λ e. LeftRose e middle next) → IfOk end (λ e. LeftRose e before now)
end_between (Ok Nothing) before middle next now sooner later rose = tt
end_between (Ok (PackedSome shards left)) before middle next now sooner later rose = omega (arith, sooner, later, rose)
end_between (Err fault) before middle next now sooner later rose = tt
