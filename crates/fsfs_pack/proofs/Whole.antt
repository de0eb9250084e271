-- The lock is taken before it, and given or left stuck behind it; and a look comes before all.
use Rattle.std.proofs.Common.{◌≡◌, ◌+◌, ◌*◌, ◌≤◌, ℕ, [], Bool, true, false, refl, sym, ap, subst, ◌∙◌, arith}
use Rattle.std.specs.Prelude.{None, Result, Ok, Err}
use Rattle.fsfs_base.specs.declared.places.place.DiskPlace.{DiskPlace}
use Rattle.fsfs_layout.specs.Layouts.{shard_size}
use Rattle.fsfs_layout.specs.declared.layout.Layout.{Layout}
use Rattle.fsfs_machine.specs.declared.machine.Outcome.TheVariants as outcome
use Rattle.fsfs_machine.specs.declared.machine.Pass.{Pass}
use Rattle.fsfs_machine.specs.declared.machine.Step.{Step}
use Rattle.fsfs_machine.specs.declared.machine.Step.TheVariants as step
use Rattle.fsfs_machine.specs.declared.machine.Went.TheVariants.{Fine}
use Rattle.fsfs_turn.specs.Alone.{BringsNoDoubt}
use Rattle.fsfs_turn.specs.Courses.{Course, End, More}
use Rattle.fsfs_turn.specs.Views.{View, Begins, FoundStuck, LockGiven, LockTaken, MayGive, left_by}
use Rattle.fsfs_turn.proofs.Doubts.{found_doubtless, same_faults, taken_doubtless}
use Rattle.fsfs_turn.proofs.Locking.{quiet_left}
use Rattle.fsfs_turn.proofs.Moments.{begins_itself}
use Rattle.fsfs_turn.proofs.Reading.{begins_on, course_on}
use Rattle.fsfs_pack.specs.declared.answers.PackEnd.{PackEnd}
use Rattle.fsfs_pack.specs.declared.answers.PackEnd.TheVariants.{Nothing, Packed as PackedSome}
use Rattle.fsfs_pack.specs.declared.answers.PackFault.{PackFault}
use Rattle.fsfs_pack.specs.declared.answers.PackFault.TheVariants.{DiskFault, BenchFault, Memory, Stuck, Missing, Small}
use Rattle.fsfs_pack.specs.Causes.{IsTold}
use Rattle.fsfs_pack.specs.Packs.{Drift, EndsAt, EndsBy, FloorRose, HeldEnd, LooksAt, Packing, Says, SaysHeld, Settled, Sought, sticks}
use Rattle.fsfs_pack.specs.Shards.{IsNoneFull}
use Rattle.fsfs_pack.proofs.Held.{drift_sought, says_nothing, says_unread, section_is}

-- ---- nothing is added

seen_same : (v u : View) → u.seen ≡ v.seen → Begins u.seen v.seen
seen_same v u same = subst (λ h. Begins h v.seen) (sym same) (begins_itself v.seen)

pub drift_on : (v m u : View) → Drift v m → Drift m u → Drift v u
drift_on v m u a b = record {
  number = b.number ∙ a.number;
  layout = b.layout ∙ a.layout;
  since = b.since ∙ a.since;
  opened = b.opened ∙ a.opened;
  mine = b.mine ∙ a.mine;
  least = (let first = a.least in let second = b.least in omega (arith, first, second));
  given = b.given ∙ a.given;
  full = b.full ∙ a.full;
  left = b.left ∙ a.left;
  grows = begins_on v.seen m.seen u.seen a.grows b.grows;
  course = course_on v m u a.course b.course;
}

pub taken_drift : (v m : View) → LockTaken v m → Drift v m
taken_drift v m t = record {
  number = ap {A = View} (λ z. z.number) t.is;
  layout = ap {A = View} (λ z. z.layout) t.is;
  since = ap {A = View} (λ z. z.since) t.is;
  opened = ap {A = View} (λ z. z.opened) t.is;
  mine = ap {A = View} (λ z. z.pass.mine) t.is;
  least = (let same : m.pass.least ≡ v.pass.least = ap {A = View} (λ z. z.pass.least) t.is in omega (arith, same));
  given = ap {A = View} (λ z. z.given) t.is;
  full = ap {A = View} (λ z. z.full) t.is;
  left = ap {A = View} (λ z. z.left) t.is;
  grows = seen_same v m (ap {A = View} (λ z. z.seen) t.is);
  course = More [] (step.TakeLock v.number) outcome.Done v m m t.turned (End m);
}

stuck_drift : (place : DiskPlace) (v u : View) → FoundStuck place v u → Drift v u
stuck_drift place v u t = record {
  number = ap {A = View} (λ z. z.number) t.is;
  layout = ap {A = View} (λ z. z.layout) t.is;
  since = ap {A = View} (λ z. z.since) t.is;
  opened = ap {A = View} (λ z. z.opened) t.is;
  mine = ap {A = View} (λ z. z.pass.mine) t.is;
  least = (let same : u.pass.least ≡ v.pass.least = ap {A = View} (λ z. z.pass.least) t.is in omega (arith, same));
  given = ap {A = View} (λ z. z.given) t.is;
  full = ap {A = View} (λ z. z.full) t.is;
  left = ap {A = View} (λ z. z.left) t.is;
  grows = seen_same v u (ap {A = View} (λ z. z.seen) t.is);
  course = More [] (step.TakeLock v.number) (outcome.Stuck place) v u u t.turned (End u);
}

-- no revision is left in doubt behind the section
gives_left : (n : View) → MayGive n → left_by n.section n.left ≡ n.left
gives_left n g = ap (λ o. left_by o n.left) g.is ∙ quiet_left g.inside n.left g.quiet

at_left : (b : Bool) (place : DiskPlace) (n : View) → EndsAt b place n → left_by n.section n.left ≡ n.left
at_left true place n e = ap (λ o. left_by o n.left) e
at_left false place n e = gives_left n e

ends_left : (end : Result PackEnd PackFault) (n : View) → EndsBy end n → left_by n.section n.left ≡ n.left
ends_left (Ok end) n e = gives_left n e
ends_left (Err (DiskFault place)) n e = at_left (sticks place) place n e
ends_left (Err BenchFault) n e = gives_left n e
ends_left (Err Memory) n e = gives_left n e
ends_left (Err (Stuck place)) n e = gives_left n e
ends_left (Err (Missing rev)) n e = gives_left n e
ends_left (Err (Small fault)) n e = gives_left n e

given_drift : (s : Step) (n u : View) → left_by n.section n.left ≡ n.left → LockGiven s n u → Drift n u
given_drift s n u left t = record {
  number = ap {A = View} (λ z. z.number) t.is;
  layout = ap {A = View} (λ z. z.layout) t.is;
  since = ap {A = View} (λ z. z.since) t.is;
  opened = ap {A = View} (λ z. z.opened) t.is;
  mine = ap {A = View} (λ z. z.pass.mine) t.is;
  least = (let same : u.pass.least ≡ n.pass.least = ap {A = View} (λ z. z.pass.least) t.is in omega (arith, same));
  given = ap {A = View} (λ z. z.given) t.is;
  full = ap {A = View} (λ z. z.full) t.is;
  left = ap {A = View} (λ z. z.left) t.is ∙ left;
  grows = seen_same n u (ap {A = View} (λ z. z.seen) t.is);
  course = More [] s outcome.Done n u u t.turned (End u);
}

-- ---- what is said stays said, with steps before it and behind it

rose_on : (floor next : ℕ) (v m n u : View) → Course v m → Course n u → FloorRose floor next m n → FloorRose floor next v u
rose_on floor next v m n u before behind r = record {
  taken = r.taken;
  before = course_on v m r.taken before r.before;
  begun = r.begun;
  firm = r.firm;
  last = r.last;
  between = r.between;
  held = r.held;
  raised = r.raised;
  behind = course_on r.last n u r.behind behind;
}

module _ (v m n u : View) (d : Drift v m) (calm : BringsNoDoubt v m) (behind : Course n u) (pass : u.pass ≡ n.pass) (layout : u.layout ≡ n.layout) where
  calm_then : BringsNoDoubt m n → BringsNoDoubt v u
  calm_then b = λ few. same_faults n u (ap (λ (p : Pass). p.faults) pass) (b (calm few))

  rose_all : (floor shards : ℕ) → FloorRose floor (floor + shards * shard_size m.layout) m n → FloorRose floor (floor + shards * shard_size v.layout) v u
  rose_all floor shards r = subst (λ l. FloorRose floor (floor + shards * shard_size l) v u) d.layout (rose_on floor (floor + shards * shard_size m.layout) v m n u d.course behind r)

  says_on : (renamed : ℕ) (end : Result PackEnd PackFault) → SaysHeld renamed end m n → SaysHeld renamed end v u
  says_on renamed (Ok Nothing) s = (
    record {
      floor = s.0.floor;
      read = subst (λ (p : Pass). s.0.floor ≤ p.floor) (sym pass) s.0.read;
      none_full = subst (λ (z : Layout × Pass). IsNoneFull z.0 s.0.floor z.1.least) (λ i. (sym layout i, sym pass i)) s.0.none_full;
    },
    calm_then s.1,
  )
  says_on renamed (Ok (PackedSome shards left)) s = record {
    some = s.some;
    floor = s.floor;
    rose = rose_all s.floor shards s.rose;
    none_full = subst (λ (z : Layout × Pass). IsNoneFull z.0 (s.floor + shards * shard_size z.0) z.1.least) (λ i. (d.layout i, sym pass i)) s.none_full;
    doubtless = calm_then s.doubtless;
  }
  says_on renamed (Err fault) s = record {
    shards = s.shards;
    counted = s.counted;
    rose = λ some. let r = s.rose some in (r.0, rose_all r.0 s.shards r.1);
    doubtless = λ quiet. calm_then (s.doubtless quiet);
    want = s.want;
    told = subst (λ (p : Pass). IsTold fault p.faults) (sym pass) s.told;
  }

says_held : (renamed : ℕ) (end : Result PackEnd PackFault) (v u : View) → SaysHeld renamed end v u → Says renamed end v u
says_held renamed (Ok end) v u s = s
says_held renamed (Err (Stuck place)) v u s = absurd s.want
says_held renamed (Err (DiskFault place)) v u s = s
says_held renamed (Err BenchFault) v u s = s
says_held renamed (Err Memory) v u s = s
says_held renamed (Err (Missing rev)) v u s = s
says_held renamed (Err (Small fault)) v u s = s

-- ---- with the lock taken, and given or left stuck

pub held_all : (renamed : ℕ) (end : Result PackEnd PackFault) (v m n u : View) → LockTaken v m → HeldEnd renamed end m n → Settled n u → Packing v u × Says renamed end v u
held_all renamed end v m n u t h k =
    let first = taken_drift v m t in
    let last = given_drift k.0 n u (ends_left end n h.ends) k.1 in (
      record { drift = drift_on v n u (drift_on v m n first h.drift) last; outside = ap {A = View} (λ z. z.section) k.1.is },
      says_held renamed end v u (says_on v m n u first (taken_doubtless v m t) last.course (ap {A = View} (λ z. z.pass) k.1.is) (ap {A = View} (λ z. z.layout) k.1.is) renamed end h.says),
    )

-- or it was stuck
pub stuck_all : (place : DiskPlace) (v u : View) → v.section ≡ None → FoundStuck place v u → Packing v u × Says 0 (Err (Stuck place)) v u
stuck_all place v u none t = (
  record { drift = stuck_drift place v u t; outside = ap {A = View} (λ z. z.section) t.is ∙ none },
  record { stuck = ap {A = View} (λ z. z.pass.stuck) t.is; none = refl; doubtless = found_doubtless place v u t },
)

-- ---- with a look before it

says_ahead : (renamed : ℕ) (end : Result PackEnd PackFault) (v m u : View) → Drift v m → BringsNoDoubt v m → Says renamed end m u → Says renamed end v u
says_ahead renamed (Ok end) v m u d calm s = says_on v m u u d calm (End u) refl refl renamed (Ok end) s
says_ahead renamed (Err (Stuck place)) v m u d calm s = record { stuck = s.stuck; none = s.none; doubtless = λ few. s.doubtless (calm few) }
says_ahead renamed (Err (DiskFault place)) v m u d calm s = says_on v m u u d calm (End u) refl refl renamed (Err (DiskFault place)) s
says_ahead renamed (Err BenchFault) v m u d calm s = says_on v m u u d calm (End u) refl refl renamed (Err BenchFault) s
says_ahead renamed (Err Memory) v m u d calm s = says_on v m u u d calm (End u) refl refl renamed (Err Memory) s
says_ahead renamed (Err (Missing rev)) v m u d calm s = says_on v m u u d calm (End u) refl refl renamed (Err (Missing rev)) s
says_ahead renamed (Err (Small fault)) v m u d calm s = says_on v m u u d calm (End u) refl refl renamed (Err (Small fault)) s

pub behind_look : (renamed : ℕ) (end : Result PackEnd PackFault) (v m u : View) → Drift v m → BringsNoDoubt v m → Packing m u → Says renamed end m u → Packing v u × Says renamed end v u
behind_look renamed end v m u d calm p s = (record { drift = drift_on v m u d p.drift; outside = p.outside }, says_ahead renamed end v m u d calm s)

-- by which there was nothing to be packed, or which failed
pub none_all : (young renamed : ℕ) (v u : View) → v.section ≡ None → Sought (record { youngest = young; shard = None }) v u → Packing v u × Says renamed (Ok Nothing) v u
none_all young renamed v u none s = (record { drift = drift_sought young s.floor Fine v s.middle u s.looked s.read; outside = section_is young s.floor Fine v s.middle u s.looked s.read ∙ none }, says_nothing young v u s)

pub unread_all : (fault : PackFault) (v u : View) → v.section ≡ None → LooksAt (Err fault) v u → Packing v u × Says 0 (Err fault) v u
unread_all fault v u none k = (
  record { drift = drift_sought k.1 k.4 k.5 v k.2 u k.3 k.6; outside = section_is k.1 k.4 k.5 v k.2 u k.3 k.6 ∙ none },
  subst (λ e. Says 0 (Err e) v u) (sym k.0) (says_unread k.1 k.4 k.5 v k.2 u k.3 k.6),
)
