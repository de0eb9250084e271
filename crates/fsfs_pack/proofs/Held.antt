-- What is packed with the lock held: from a look and a reading of the floor on.
use Rattle.std.proofs.Common.{◌≡◌, ◌<◌, ◌≤◌, ◌+◌, ◌*◌, ◌^◌, ℕ, [], length, true, inr, refl, sym, ap, subst, ◌∙◌, arith}
use Rattle.std.specs.Prelude.{Option, Some, None, Result, Ok, Err, max}
use Rattle.fsfs_base.specs.declared.places.place.DiskPlace.TheVariants.{Read}
use Rattle.fsfs_layout.specs.Layouts.{shard_size}
use Rattle.fsfs_layout.specs.declared.layout.Layout.{Layout}
use Rattle.fsfs_machine.specs.Machine.{either}
use Rattle.fsfs_machine.specs.declared.machine.Outcome.TheVariants as outcome
use Rattle.fsfs_machine.specs.declared.machine.Section.TheVariants.{Begun, Packed}
use Rattle.fsfs_machine.specs.declared.machine.Step.TheVariants as step
use Rattle.fsfs_machine.specs.declared.machine.Went.{Went}
use Rattle.fsfs_machine.specs.declared.machine.Went.TheVariants.{Fine, Before, After, Torn}
use Rattle.fsfs_turn.specs.declared.since.Since.{Since}
use Rattle.fsfs_turn.specs.Alone.{BringsNoDoubt}
use Rattle.fsfs_turn.specs.Courses.{Course, End, More}
use Rattle.fsfs_turn.specs.Learning.{FloorRead}
use Rattle.fsfs_turn.specs.Views.{View, Begins, Looked, MayPack, is_held, firm_read}
use Rattle.fsfs_turn.proofs.Doubts.{same_faults, fault_more, looked_doubtless}
use Rattle.fsfs_turn.proofs.Reading.{begins_on, course_on}
use Rattle.fsfs_pack.specs.declared.answers.PackEnd.{PackEnd}
use Rattle.fsfs_pack.specs.declared.answers.PackEnd.TheVariants.{Nothing, Packed as PackedSome}
use Rattle.fsfs_pack.specs.declared.answers.PackFault.{PackFault}
use Rattle.fsfs_pack.specs.declared.answers.PackFault.TheVariants.{DiskFault, BenchFault, Memory, Stuck, Missing, Small}
use Rattle.fsfs_pack.specs.declared.packing.Found.{Found}
use Rattle.fsfs_pack.specs.declared.shard.Shard.{Shard}
use Rattle.fsfs_pack.specs.Causes.{IfBench, IsUnread}
use Rattle.fsfs_pack.specs.Packs.{Drift, FloorRose, HasStopped, HeldEnd, LooksAt, NoneFull, ShardsEnd, Sought, renamed_by}
use Rattle.fsfs_pack.specs.Sections.{Along, IsNext}
use Rattle.fsfs_pack.specs.Shards.{IsNoneFull}
use Rattle.fsfs_pack.proofs.Ending.{from_lay}

-- ---- a look, and a reading of the floor

read_doubtless : (floor : ℕ) (went : Went) (m u : View) → FloorRead floor went m u → BringsNoDoubt m u
read_doubtless floor Fine m u r = same_faults m u (ap {A = View} (λ z. z.pass.faults) r.is)
read_doubtless floor Before m u r = fault_more Read m u (ap {A = View} (λ z. z.pass.faults) r.is) refl
read_doubtless floor After m u r = fault_more Read m u (ap {A = View} (λ z. z.pass.faults) r.is) refl
read_doubtless floor (Torn any) m u r = fault_more Read m u (ap {A = View} (λ z. z.pass.faults) r.is) refl

module _ (young floor : ℕ) (went : Went) (v m u : View) (l : Looked young v m) (r : FloorRead floor went m u) where
  pub least_is : u.pass.least ≡ young
  least_is = ap {A = View} (λ z. z.pass.least) r.is ∙ ap {A = View} (λ z. z.pass.least) l.is

  pub drift_sought : Drift v u
  drift_sought = record {
    number = ap {A = View} (λ z. z.number) r.is ∙ ap {A = View} (λ z. z.number) l.is;
    layout = ap {A = View} (λ z. z.layout) r.is ∙ ap {A = View} (λ z. z.layout) l.is;
    since = ap {A = View} (λ z. z.since) r.is ∙ ap {A = View} (λ z. z.since) l.is;
    opened = ap {A = View} (λ z. z.opened) r.is ∙ ap {A = View} (λ z. z.opened) l.is;
    mine = ap {A = View} (λ z. z.pass.mine) r.is ∙ ap {A = View} (λ z. z.pass.mine) l.is;
    least = omega (arith, least_is, l.least);
    given = ap {A = View} (λ z. z.given) r.is ∙ ap {A = View} (λ z. z.given) l.is;
    full = ap {A = View} (λ z. z.full) r.is ∙ ap {A = View} (λ z. z.full) l.is;
    left = ap {A = View} (λ z. z.left) r.is ∙ ap {A = View} (λ z. z.left) l.is;
    grows = subst (λ h. Begins u.seen h) (ap {A = View} (λ z. z.seen) l.is) r.grows;
    course = More [] (step.Look v.number) (outcome.Youngest young) v m u l.turned
        (More [] (step.ReadFloor m.number went) (either went (outcome.Floor floor) outcome.Failed) m u u (from_lay (step.ReadFloor m.number went) (either went (outcome.Floor floor) outcome.Failed) m u r.turned) (End u));
  }

  pub section_is : u.section ≡ v.section
  section_is = ap {A = View} (λ z. z.section) r.is ∙ ap {A = View} (λ z. z.section) l.is

  pub sought_doubtless : BringsNoDoubt v u
  sought_doubtless = λ few. read_doubtless floor went m u r (looked_doubtless young v m l few)

-- ---- and steps behind them

pub drift_along : (v m u : View) → Drift v m → Along m u → Drift v u
drift_along v m u d a = record {
  number = ap {A = View} (λ z. z.number) a.is ∙ d.number;
  layout = ap {A = View} (λ z. z.layout) a.is ∙ d.layout;
  since = ap {A = View} (λ z. z.since) a.is ∙ d.since;
  opened = ap {A = View} (λ z. z.opened) a.is ∙ d.opened;
  mine = ap {A = View} (λ z. z.pass.mine) a.is ∙ d.mine;
  least = (let same : u.pass.least ≡ m.pass.least = ap {A = View} (λ z. z.pass.least) a.is in omega (arith, same, d.least));
  given = ap {A = View} (λ z. z.given) a.is ∙ d.given;
  full = ap {A = View} (λ z. z.full) a.is ∙ d.full;
  left = ap {A = View} (λ z. z.left) a.is ∙ d.left;
  grows = begins_on v.seen m.seen u.seen d.grows a.grows;
  course = course_on v m u d.course a.course;
}

-- with the lock just taken it knows the firm floor then
module _ (young : ℕ) (x : Shard) (v u : View) (begun : v.section ≡ Some Begun) (s : Sought (record { youngest = young; shard = Some x }) v u) where
  middle_begun : s.middle.section ≡ Some Begun
  middle_begun = ap {A = View} (λ z. z.section) s.looked.is ∙ begun

  pub still_begun : u.section ≡ Some Begun
  still_begun = section_is young s.floor Fine v s.middle u s.looked s.read ∙ begun

  pub still_sure : u.sure ≡ true
  still_sure = ap {A = View} (λ z. z.sure) s.read.is ∙ ap {A = View} (λ z. z.sure) s.looked.is ∙ ap is_held begun

  pub floor_firm : u.firm ≡ Some s.floor
  floor_firm = ap {A = View} (λ z. z.firm) s.read.is ∙ ap (λ o. firm_read o Fine s.floor s.middle.firm) middle_begun

  pub all_seen : young + 1 ≡ length u.seen
  all_seen =
      let least : s.middle.pass.least ≡ young = ap {A = View} (λ z. z.pass.least) s.looked.is in
      let sure : s.middle.sure ≡ true = ap {A = View} (λ z. z.sure) s.looked.is ∙ ap is_held begun in
      omega (arith, least, s.read.all, s.read.within sure)

  pub found_next : v.since.packs ≡ true → x.first < 2 ^ 32 → IsNext x u
  found_next packs fits =
      let d = drift_sought young s.floor Fine v s.middle u s.looked s.read in
      let same : x.layout ≡ u.layout = s.shard.layout_is ∙ sym d.layout in
      let size : shard_size x.layout ≡ shard_size u.layout = ap shard_size same in
      record {
        layout = same;
        full = record { packs = ap {A = Since} (λ z. z.packs) d.since ∙ packs; firm = floor_firm ∙ ap (λ n. Some n) (sym s.shard.first); full = omega (arith, size, s.shard.shard.next, s.shard.full, all_seen); fits = fits };
      }

  rose : (shards : ℕ) (last w : View) → Course u last → MayPack last.section → last.firm ≡ Some (x.first + shards * shard_size x.layout) → Course last w → FloorRose s.floor (s.floor + shards * shard_size v.layout) v w
  rose shards last w between held firm behind = record {
    taken = u;
    before = (drift_sought young s.floor Fine v s.middle u s.looked s.read).course;
    begun = still_begun;
    firm = floor_firm;
    last = last;
    between = between;
    held = held;
    raised = firm ∙ (λ i. Some (s.shard.first i + shards * shard_size (s.shard.layout_is i)));
    behind = behind;
  }

  pub held_end : (renamed : ℕ) (end : Result PackEnd PackFault) (w : View) → ShardsEnd x young renamed end u w → HeldEnd renamed end v w
  held_end renamed (Ok Nothing) w e = absurd e
  held_end renamed (Ok (PackedSome shards left)) w e =
      let at : x.first + shards * shard_size x.layout ≡ s.floor + shards * shard_size v.layout = (λ i. s.shard.first i + shards * shard_size (s.shard.layout_is i)) in
      let least : w.pass.least ≡ young = ap {A = View} (λ z. z.pass.least) e.1.along.is ∙ least_is young s.floor Fine v s.middle u s.looked s.read in
      record {
        drift = drift_along v u w (drift_sought young s.floor Fine v s.middle u s.looked s.read) e.1.along;
        ends = record { inside = Packed; is = e.1.section; quiet = refl };
        says = record {
          some = e.0;
          floor = s.floor;
          rose = rose shards w w e.1.along.course (inr e.1.section) e.1.firm (End w);
          none_full = subst (λ (z : Layout × ℕ × ℕ). IsNoneFull z.0 z.1 z.2) (λ i. (s.shard.layout_is i, at i, sym least i)) e.2;
          doubtless = λ few. e.1.doubtless (sought_doubtless young s.floor Fine v s.middle u s.looked s.read few);
        };
      }
  held_end renamed (Err fault) w e = record {
    drift = drift_along v e.middle w (drift_along v u e.middle (drift_sought young s.floor Fine v s.middle u s.looked s.read) e.along) e.stopped.along;
    ends = e.stopped.ends;
    says = record {
      shards = e.shards;
      counted = e.counted;
      rose = λ some. (s.floor, rose e.shards e.middle w e.along.course e.may e.firm e.stopped.along.course);
      doubtless = λ quiet few. e.stopped.doubtless quiet (e.doubtless (sought_doubtless young s.floor Fine v s.middle u s.looked s.read few));
      want = e.stopped.want;
      told = e.stopped.told;
    };
  }

-- nothing was full
pub says_nothing : (young : ℕ) (v u : View) → Sought (record { youngest = young; shard = None }) v u → NoneFull u × BringsNoDoubt v u
says_nothing young v u s =
    let d = drift_sought young s.floor Fine v s.middle u s.looked s.read in
    let floor_is : u.pass.floor ≡ max s.middle.pass.floor s.floor = ap {A = View} (λ z. z.pass.floor) s.read.is in (
      record {
        floor = s.floor;
        read = omega (arith, floor_is);
        none_full = subst (λ (z : Layout × ℕ). IsNoneFull z.0 s.floor z.1) (λ i. (sym d.layout i, sym (least_is young s.floor Fine v s.middle u s.looked s.read) i)) s.shard;
      },
      sought_doubtless young s.floor Fine v s.middle u s.looked s.read,
    )

pub none_end : (young renamed : ℕ) (v u : View) → v.section ≡ Some Begun → Sought (record { youngest = young; shard = None }) v u → HeldEnd renamed (Ok Nothing) v u
none_end young renamed v u begun s = record {
  drift = drift_sought young s.floor Fine v s.middle u s.looked s.read;
  ends = record { inside = Begun; is = section_is young s.floor Fine v s.middle u s.looked s.read ∙ begun; quiet = refl };
  says = says_nothing young v u s;
}

-- or the disk failed
pub says_unread : (young floor : ℕ) (went : Went) (v m u : View) → Looked young v m → FloorRead floor went m u → HasStopped 0 (DiskFault Read) v u
says_unread young floor went v m u l r = record {
  shards = 0;
  counted = refl;
  rose = λ some. absurd (omega (arith, some));
  doubtless = λ quiet. sought_doubtless young floor went v m u l r;
  want = tt;
  told = tt;
}

pub unread_end : (fault : PackFault) (v u : View) → v.section ≡ Some Begun → LooksAt (Err fault) v u → HeldEnd 0 (Err fault) v u
unread_end fault v u begun k =
    let at = section_is k.1 k.4 k.5 v k.2 u k.3 k.6 ∙ begun in
    subst (λ e. HeldEnd 0 (Err e) v u) (sym k.0) (record {
      drift = drift_sought k.1 k.4 k.5 v k.2 u k.3 k.6;
      ends = record { inside = Begun; is = at; quiet = refl };
      says = says_unread k.1 k.4 k.5 v k.2 u k.3 k.6;
    })

-- of such a fault no floor was renamed, and no bench failed
pub unread_few : (fault : PackFault) → IsUnread fault → renamed_by fault ≤ 0
unread_few (DiskFault place) at = subst (λ p. renamed_by (DiskFault p) ≤ 0) (sym at) (omega arith)
unread_few (Small fault) at = omega arith
unread_few (Missing rev) at = absurd at
unread_few (Stuck place) at = absurd at
unread_few BenchFault at = absurd at
unread_few Memory at = absurd at

pub unread_bench : (fault : PackFault) (P : Type 0) → IsUnread fault → IfBench fault P
unread_bench (DiskFault place) P at = tt
unread_bench (Small fault) P at = tt
unread_bench (Missing rev) P at = absurd at
unread_bench (Stuck place) P at = absurd at
unread_bench BenchFault P at = absurd at
unread_bench Memory P at = absurd at

-- what was found, part by part
pub sought_as : (found : Found) (o : Option Shard) (v u : View) → found.shard ≡ o → Sought found v u → Sought (record { youngest = found.youngest; shard = o }) v u
sought_as found o v u is s = subst (λ (z : Option Shard). Sought (record { youngest = found.youngest; shard = z }) v u) is s
