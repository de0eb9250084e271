-- The turns of a commit.
use Rattle.std.proofs.Common.{◌≡◌, ◌<◌, ◌≤◌, ◌+◌, ◌^◌, ℕ, List, [], ◌∷◌, ◌++◌, length, Bool, true, false, cond, inl, inr, refl, sym, ap, subst, ◌∙◌, arith, take, append-nil}
use Rattle.std.specs.Prelude.{Option, Some, None, is_some, Result, IfOk, IfErr}
use Rattle.std.proofs.lemmas.List.{take_all, length-take}
use Rattle.std.proofs.lemmas.Result.{IfOk-weaker, IfErr-weaker}
use Rattle.fsfs_tree.specs.Revisions.{Revision}
use Rattle.fsfs_tree.specs.Histories.{IsHistory}
use Rattle.fsfs_model.specs.Flat.Transactions.{IsNext}
use Rattle.fsfs_machine.specs.declared.machine.Recorded.{Recorded}
use Rattle.fsfs_machine.specs.declared.machine.Txn.{Txn}
use Rattle.fsfs_base.specs.declared.places.place.DiskPlace.{DiskPlace}
use Rattle.fsfs_base.specs.declared.places.place.DiskPlace.TheVariants.{Commit}
use Rattle.fsfs_base.specs.declared.places.place.CommitPlace.{CommitPlace}
use Rattle.fsfs_machine.specs.declared.machine.Section.TheVariants.{Begun, Doubtful, Over}
use Rattle.fsfs_machine.specs.declared.machine.Outcome.{Outcome}
use Rattle.fsfs_machine.specs.declared.machine.Outcome.TheVariants as outcome
use Rattle.fsfs_machine.specs.declared.machine.Section.{Section}
use Rattle.fsfs_machine.specs.declared.machine.Coming.{Coming}
use Rattle.fsfs_machine.specs.declared.machine.Step.{Step}
use Rattle.fsfs_machine.specs.declared.machine.Step.TheVariants as step
use Rattle.fsfs_machine.specs.Machine.{is_quiet, revisions, recorded, entry_of}
use Rattle.fsfs_machine.specs.Kept.{IsIn}
use Rattle.fsfs_machine.proofs.Growing.{revisions_length}
use Rattle.fsfs_layout.specs.FileNames.{file_name}
use Rattle.fsfs_layout.specs.declared.repository_file.RepositoryFile.TheVariants as file
use Rattle.fsfs_turn.specs.Bytes.{BytesShow}
use Rattle.fsfs_turn.specs.Views.{View, Begins, IsTxnOver, Turned, is_held, left_by, Looked, LockTaken, FoundStuck, LockGiven, MayGive, MayAdopt, coming_of}
use Rattle.fsfs_commit.specs.declared.made.Made.{Made}
use Rattle.fsfs_commit.specs.declared.committing.Ready.{Ready}
use Rattle.fsfs_commit.specs.declared.committing.CommitFault.{CommitFault}
use Rattle.fsfs_commit.specs.declared.committing.CommitFault.TheVariants as fault
use Rattle.fsfs_commit.specs.Courses.{IsMade, Published, StoppedAt, ends_at, leaves_doubt}
use Rattle.fsfs_turn.proofs.Locking.{quiet_left}
use Rattle.fsfs_turn.specs.Alone.{BringsNoDoubt}
use Rattle.fsfs_turn.specs.Courses.{Course, End, More, ReadOnly}
use Rattle.fsfs_commit.specs.Works.{CanCommit, LandedOn, Landings, Unmoved, Moved as LandedMore}
use Rattle.fsfs_commit.specs.Replies.{Drifted, IsReady, Committed, Lost, IsTurn, LeavesDoubt, FaultLeft, Wrote, Refusals, EndsShort, Cause, Refused}
use Rattle.fsfs_turn.proofs.Reading.{course_on, begins_on}
use Rattle.fsfs_turn.proofs.Doubts.{same_faults, looked_doubtless, taken_doubtless, found_doubtless, given_doubtless}
use Rattle.fsfs_commit.proofs.Doubts.{stopped_doubtless, unless_on}
use Rattle.fsfs_turn.proofs.Longer.{txn_later}
use Rattle.fsfs_commit.proofs.Handing.{entry_back}

-- ---- what a pass drifts by

one_step : (txns : List Txn) (s : Step) (o : Outcome) (v u : View) → Turned txns s o v u → Course v u
one_step txns s o v u t = More txns s o v u u t (End u)

pub none_more : (h g : List Recorded) → h ≡ g → Begins h g
none_more h g same = ([], same ∙ sym (append-nil g))

pub drifted_on : (v m u : View) → Drifted v m → Drifted m u → Drifted v u
drifted_on v m u a b = record { number = b.number ∙ a.number; layout = b.layout ∙ a.layout; since = b.since ∙ a.since; opened = b.opened ∙ a.opened; mine = b.mine ∙ a.mine; least = omega (arith, a.least, b.least); given = b.given ∙ a.given; still = λ stuck. b.still (a.still stuck); full = λ full. b.full (a.full full); grows = begins_on v.seen m.seen u.seen a.grows b.grows; course = course_on v m u a.course b.course }

pub by_look : (young : ℕ) (v u : View) → Looked young v u → Drifted v u
by_look young v u l = record {
  number = ap {A = View} (λ z. z.number) l.is;
  layout = ap {A = View} (λ z. z.layout) l.is;
  since = ap {A = View} (λ z. z.since) l.is;
  opened = ap {A = View} (λ z. z.opened) l.is;
  mine = ap {A = View} (λ z. z.pass.mine) l.is;
  given = ap {A = View} (λ z. z.given) l.is;
  still = λ stuck. ap {A = View} (λ z. is_some z.pass.stuck) l.is ∙ stuck;
  full = λ full. ap {A = View} (λ z. z.full) l.is ∙ full;
  least = let e : u.pass.least ≡ young = ap {A = View} (λ z. z.pass.least) l.is in omega (arith, e, l.least);
  grows = none_more u.seen v.seen (ap {A = View} (λ z. z.seen) l.is);
  course = one_step [] (step.Look v.number) (outcome.Youngest young) v u l.turned;
}

pub by_reads : (v u : View) → ReadOnly v u → Drifted v u
by_reads v u r = record {
  number = ap {A = View} (λ z. z.number) r.is;
  layout = ap {A = View} (λ z. z.layout) r.is;
  since = ap {A = View} (λ z. z.since) r.is;
  opened = ap {A = View} (λ z. z.opened) r.is;
  mine = ap {A = View} (λ z. z.pass.mine) r.is;
  given = ap {A = View} (λ z. z.given) r.is;
  still = λ stuck. ap {A = View} (λ z. is_some z.pass.stuck) r.is ∙ stuck;
  full = λ full. ap {A = View} (λ z. z.full) r.is ∙ full;
  least = let e : u.pass.least ≡ v.pass.least = ap {A = View} (λ z. z.pass.least) r.is in omega (arith, e);
  grows = r.grows;
  course = r.course;
}

pub by_taking : (v u : View) → LockTaken v u → Drifted v u
by_taking v u l = record {
  number = ap {A = View} (λ z. z.number) l.is;
  layout = ap {A = View} (λ z. z.layout) l.is;
  since = ap {A = View} (λ z. z.since) l.is;
  opened = ap {A = View} (λ z. z.opened) l.is;
  mine = ap {A = View} (λ z. z.pass.mine) l.is;
  given = ap {A = View} (λ z. z.given) l.is;
  still = λ stuck. ap {A = View} (λ z. is_some z.pass.stuck) l.is ∙ stuck;
  full = λ full. ap {A = View} (λ z. z.full) l.is ∙ full;
  least = let e : u.pass.least ≡ v.pass.least = ap {A = View} (λ z. z.pass.least) l.is in omega (arith, e);
  grows = none_more u.seen v.seen (ap {A = View} (λ z. z.seen) l.is);
  course = one_step [] (step.TakeLock v.number) outcome.Done v u l.turned;
}

pub by_finding : (place : DiskPlace) (v u : View) → FoundStuck place v u → Drifted v u
by_finding place v u l = record {
  number = ap {A = View} (λ z. z.number) l.is;
  layout = ap {A = View} (λ z. z.layout) l.is;
  since = ap {A = View} (λ z. z.since) l.is;
  opened = ap {A = View} (λ z. z.opened) l.is;
  mine = ap {A = View} (λ z. z.pass.mine) l.is;
  given = ap {A = View} (λ z. z.given) l.is;
  still = λ stuck. ap {A = View} (λ z. is_some z.pass.stuck) l.is;
  full = λ full. ap {A = View} (λ z. z.full) l.is ∙ full;
  least = let e : u.pass.least ≡ v.pass.least = ap {A = View} (λ z. z.pass.least) l.is in omega (arith, e);
  grows = none_more u.seen v.seen (ap {A = View} (λ z. z.seen) l.is);
  course = one_step [] (step.TakeLock v.number) (outcome.Stuck place) v u l.turned;
}

pub by_giving : (s : Step) (v u : View) → LockGiven s v u → Drifted v u
by_giving s v u l = record {
  number = ap {A = View} (λ z. z.number) l.is;
  layout = ap {A = View} (λ z. z.layout) l.is;
  since = ap {A = View} (λ z. z.since) l.is;
  opened = ap {A = View} (λ z. z.opened) l.is;
  mine = ap {A = View} (λ z. z.pass.mine) l.is;
  given = ap {A = View} (λ z. z.given) l.is;
  still = λ stuck. ap {A = View} (λ z. is_some z.pass.stuck) l.is ∙ stuck;
  full = λ full. ap {A = View} (λ z. z.full) l.is ∙ full;
  least = let e : u.pass.least ≡ v.pass.least = ap {A = View} (λ z. z.pass.least) l.is in omega (arith, e);
  grows = none_more u.seen v.seen (ap {A = View} (λ z. z.seen) l.is);
  course = one_step [] s outcome.Done v u l.turned;
}

pub by_stopping : (place : CommitPlace) (x : Coming) (v u : View) → StoppedAt place x v u → Drifted v u
by_stopping place x v u l = record {
  number = ap {A = View} (λ z. z.number) l.is;
  layout = ap {A = View} (λ z. z.layout) l.is;
  since = ap {A = View} (λ z. z.since) l.is;
  opened = ap {A = View} (λ z. z.opened) l.is;
  mine = ap {A = View} (λ z. z.pass.mine) l.is;
  given = ap {A = View} (λ z. z.given) l.is;
  still = λ stuck. ap {A = View} (λ z. is_some z.pass.stuck) l.is ∙ stuck;
  full = λ full. ap {A = View} (λ z. z.full) l.is ∙ full;
  least = let e : u.pass.least ≡ v.pass.least = ap {A = View} (λ z. z.pass.least) l.is in omega (arith, e);
  grows = none_more u.seen v.seen (ap {A = View} (λ z. z.seen) l.is);
  course = course_on v l.before u l.course (one_step [] (ends_at place v.number) outcome.Done l.before u l.last.turned);
}

-- what is left in doubt behind a call that failed
stopped_left : (place : CommitPlace) (x : Coming) (v n o : View) (W : Coming → Type 0) → n.left ≡ v.left → W x → StoppedAt place x n o → LeavesDoubt W v o
stopped_left place x v n o W kept wrote s = by (leaves_doubt place) refl
  where
    by : (b : Bool) → leaves_doubt place ≡ b → LeavesDoubt W v o
    by true e = inr (x, ap {A = View} (λ z. z.left) s.is ∙ ap (λ b. left_by (Some (cond b (Doubtful (Commit place) x) Over)) n.left) e, wrote)
    by false e = inl (ap {A = View} (λ z. z.left) s.is ∙ ap (λ b. left_by (Some (cond b (Doubtful (Commit place) x) Over)) n.left) e ∙ kept)

-- ---- landings, as more is seen

pub landings_later : (g h : List Recorded) (x y : Txn) → Begins h g → Landings g x y → Landings h x y
landings_later g h x y b (Unmoved _) = Unmoved x
landings_later g h x y b (LandedMore _ m _ head seen before begins landed) = LandedMore x m y head seen (landings_later g h x m b before) (begins_on seen g h begins b) landed

-- its name stays
pub landings_name : (h : List Recorded) (x y : Txn) → Landings h x y → y.name ≡ x.name
landings_name h x y (Unmoved _) = refl
landings_name h x y (LandedMore _ m _ head seen before begins landed) = landed.name ∙ landings_name h x m before

-- the history that a course begins with, where the pass is sure of it
whole_then : (txns : List Txn) (s : Step) (o : Outcome) (v u : View) → Turned txns s o v u → v.sure ≡ true → v.pass.least < length v.seen → IsHistory (revisions v.seen)
whole_then txns s o v u t sure less =
    let up : t.world.young + 1 ≡ length t.world.history = t.kept.young t.sees.up in
    let young : t.world.young ≡ v.pass.least = t.sees.sure sure in
    let long : length v.seen ≡ length (take v.pass.seen t.world.history) = ap length t.sees.seen in
    let all : v.seen ≡ t.world.history = t.sees.seen ∙ take_all v.pass.seen t.world.history (omega (arith, up, young, long, length-take v.pass.seen t.world.history, less)) in
    subst (λ h. IsHistory (revisions h)) (sym all) t.kept.history

pub first_of : (v u : View) → Course v u → v.section ≡ Some Begun → u.section ≡ None → v.sure ≡ true → v.pass.least < length v.seen → IsHistory (revisions v.seen)
first_of v u (End _) begun none sure less = let e : Some Begun ≡ None = sym begun ∙ none in absurd cc
first_of v u (More txns s o _ m _ t rest) begun none sure less = whole_then txns s o v m t sure less

-- ---- the transaction stays one that may be committed

pub can_same : (v u : View) (x : Txn) (properties : List (List ℕ × List ℕ)) → u.seen ≡ v.seen → u.given ≡ v.given → CanCommit v x properties → CanCommit u x properties
can_same v u x properties seen given can = record {
  over = subst (λ h. IsTxnOver h x) (sym seen) can.over;
  based = subst (λ h. x.base < length h) (sym seen) can.based;
  given = subst (λ g. IsIn x.name g) (sym given) can.given;
  dated = can.dated;
}

pub can_landed : (head : ℕ) (v u : View) (x y : Txn) (properties : List (List ℕ × List ℕ)) → u.given ≡ v.given → LandedOn head u.seen x y → CanCommit v x properties → CanCommit u y properties
can_landed head v u x y properties given landed can = record {
  over = landed.over;
  based = omega (arith, landed.base, landed.there);
  given = subst (λ n. IsIn n u.given) (sym landed.name) (subst (λ g. IsIn x.name g) (sym given) can.given);
  dated = can.dated;
}

-- ---- the preparation

pub can_looked : (head : ℕ) (v m : View) (x : Txn) (properties : List (List ℕ × List ℕ)) → Looked head v m → CanCommit v x properties → CanCommit m x properties
can_looked head v m x properties l can = can_same v m x properties (ap {A = View} (λ z. z.seen) l.is) (ap {A = View} (λ z. z.given) l.is) can

pub based_low : (head : ℕ) (v m : View) (x : Txn) (properties : List (List ℕ × List ℕ)) → Looked head v m → CanCommit v x properties → x.base ≤ head
based_low head v m x properties l can = omega (arith, l.seen, can.based)

-- no more was seen than the head
pub seen_low : (head : ℕ) (v m : View) → Looked head v m → length m.seen ≤ head + 1
seen_low head v m l = let e : length m.seen ≡ length v.seen = ap {A = View} (λ z. length z.seen) l.is in omega (arith, e, l.seen)

pub told : (head : ℕ) (v m : View) → Looked head v m → head ≤ m.pass.least
told head v m l = let e : m.pass.least ≡ head = ap {A = View} (λ z. z.pass.least) l.is in omega (arith, e)

pub full : {E : Type 0} {Says : Refusals E} {p : List (List ℕ × List ℕ)} (head : ℕ) (v m : View) (x : Txn) → 2147483647 ≤ head → Looked head v m → Refused Says p fault.RevsFull v m x x
full head v m x most l = record {
  moved = record { drifted = by_look head v m l; section = ap {A = View} (λ z. z.section) l.is };
  landings = Unmoved x;
  doubtless = looked_doubtless head v m l;
  left = ap {A = View} (λ z. z.left) l.is;
  cause = let e : m.pass.least ≡ head = ap {A = View} (λ z. z.pass.least) l.is in omega (arith, e, most);
}

pub not_landed : {E : Type 0} {Says : Refusals E} {p : List (List ℕ × List ℕ)} (refusal : E) (head : ℕ) (v m u : View) (x : Txn) → head < 2147483647 → Looked head v m → ReadOnly m u → Says refusal head u.seen x → Refused Says p (fault.Refused refusal) v u x x
not_landed {Says = Says} refusal head v m u x less l r says = record {
  moved = record { drifted = drifted_on v m u (by_look head v m l) (by_reads m u r); section = ap {A = View} (λ z. z.section) r.is ∙ ap {A = View} (λ z. z.section) l.is };
  landings = Unmoved x;
  doubtless = λ few. r.doubtless (looked_doubtless head v m l few);
  left = ap {A = View} (λ z. z.left) r.is ∙ ap {A = View} (λ z. z.left) l.is;
  cause = subst (λ n. (n < 2147483647) × Says refusal n u.seen x) (sym (ap {A = View} (λ z. z.pass.least) r.is ∙ ap {A = View} (λ z. z.pass.least) l.is)) (less, says);
}

pub not_made : {E : Type 0} {Says : Refusals E} {p : List (List ℕ × List ℕ)} (refusal : E) (head : ℕ) (v m u : View) (x y : Txn) → head < 2147483647 → Looked head v m → ReadOnly m u → LandedOn head u.seen x y → Says refusal y.base u.seen y → Refused Says p (fault.Refused refusal) v u x y
not_made {Says = Says} refusal head v m u x y less l r landed says = record {
  moved = record { drifted = drifted_on v m u (by_look head v m l) (by_reads m u r); section = ap {A = View} (λ z. z.section) r.is ∙ ap {A = View} (λ z. z.section) l.is };
  landings = LandedMore x x y head u.seen (Unmoved x) (none_more u.seen u.seen refl) landed;
  doubtless = λ few. r.doubtless (looked_doubtless head v m l few);
  left = ap {A = View} (λ z. z.left) r.is ∙ ap {A = View} (λ z. z.left) l.is;
  cause = let e : u.pass.least ≡ head = ap {A = View} (λ z. z.pass.least) r.is ∙ ap {A = View} (λ z. z.pass.least) l.is in (omega (arith, e, less), subst (λ n. Says refusal n u.seen y) (landed.base ∙ sym e) says);
}

-- what a marshalling gives
abbrev pub Marshalled : (Txn → Revision → List ℕ → Type 0) → ℕ → Made → List (List ℕ × List ℕ) → View → Txn → ℕ → Type 0
Marshalled holds rev made properties u y number = (bytes : List ℕ) × (next : Revision) × holds y next bytes × IsNext (revisions (take rev u.seen)) (entry_of number y properties) next
    × BytesShow (take rev u.seen ++ record { revision = next; bytes = bytes } ∷ [])
    × (made.rev ≡ rev) × (rev ≡ length u.seen → IsMade u properties rev made.rev_file made.props_file made.properties.items made.current.items)

pub marshal_shown : (head next : ℕ) (m u : View) → next ≡ head + 1 → ReadOnly m u → BytesShow (take next u.seen)
marshal_shown head next m u e r = r.shown next (omega (arith, e))

pub prepared : (holds : Txn → Revision → List ℕ → Type 0) (head : ℕ) (made : Made) (properties : List (List ℕ × List ℕ)) (v m u : View) (x y : Txn) → Looked head v m → ReadOnly m u → LandedOn head u.seen x y → CanCommit v x properties
    → ((number : ℕ) → Marshalled holds (head + 1) made properties u y number) → IsReady holds (record { head = head; made = made }) properties v u x y
prepared holds head made properties v m u x y l r landed can all = record {
  moved = record { drifted = drifted_on v m u (by_look head v m l) (by_reads m u r); section = ap {A = View} (λ z. z.section) r.is ∙ ap {A = View} (λ z. z.section) l.is };
  doubtless = λ few. r.doubtless (looked_doubtless head v m l few);
  left = ap {A = View} (λ z. z.left) r.is ∙ ap {A = View} (λ z. z.left) l.is;
  from = can;
  landings = LandedMore x x y head u.seen (Unmoved x) (none_more u.seen u.seen refl) landed;
  can = can_landed head v u x y properties (ap {A = View} (λ z. z.given) r.is ∙ ap {A = View} (λ z. z.given) l.is) landed can;
  base = landed.base;
  rev = (all 0).5;
  above = l.least;
  seen = omega (arith, landed.there);
  least = ap {A = View} (λ z. z.pass.least) r.is ∙ ap {A = View} (λ z. z.pass.least) l.is;
  sure = ap {A = View} (λ z. z.sure) r.is ∙ ap {A = View} (λ z. z.sure) l.is;
  within = λ held.
      let least : m.pass.least ≡ head = ap {A = View} (λ z. z.pass.least) l.is in
      let seen : length m.seen ≡ length v.seen = ap {A = View} (λ z. length z.seen) l.is in
      let more = r.within (ap {A = View} (λ z. z.sure) l.is ∙ held) (omega (arith, least, seen, l.seen)) in
      omega (arith, least, more);
  to_come = λ number. let a = all number in (a.0, a.1, a.2, record { is = a.3; shows = a.4; written = λ whole. subst (λ n. IsMade u properties n made.rev_file made.props_file made.properties.items made.current.items) (sym a.5) (a.6 whole) });
}

-- the premises of a marshalling
pub can_marshal : (head : ℕ) (v m u : View) (x y : Txn) (p q : List (List ℕ × List ℕ)) → q ≡ p → Looked head v m → ReadOnly m u → LandedOn head u.seen x y → CanCommit v x p → CanCommit u y q
can_marshal head v m u x y p q same l r landed can = subst (λ z. CanCommit u y z) (sym same) (can_landed head v u x y p (ap {A = View} (λ z. z.given) r.is ∙ ap {A = View} (λ z. z.given) l.is) landed can)

pub marshalled_for : (holds : Txn → Revision → List ℕ → Type 0) (rev next number : ℕ) (made : Made) (p q : List (List ℕ × List ℕ)) (u : View) (y : Txn) → next ≡ rev → q ≡ p → Marshalled holds next made q u y number → Marshalled holds rev made p u y number
marshalled_for holds rev next number made p q u y e same w = subst (λ n. Marshalled holds n made p u y number) e (subst (λ z. Marshalled holds next made z u y number) same w)

-- ---- the turn

pub found_stuck : {E : Type 0} {Says : Refusals E} (holds : Txn → Revision → List ℕ → Type 0) (place : DiskPlace) (ready : Ready) (properties : List (List ℕ × List ℕ)) (v u m : View) (x y : Txn) → IsReady holds ready properties v u x y → FoundStuck place u m → Refused Says properties (fault.Stuck place) v m x y
found_stuck holds place ready properties v u m x y r f = record {
  moved = record { drifted = drifted_on v u m r.moved.drifted (by_finding place u m f); section = ap {A = View} (λ z. z.section) f.is ∙ r.moved.section };
  landings = landings_later u.seen m.seen x y (by_finding place u m f).grows r.landings;
  doubtless = λ few. found_doubtless place u m f (r.doubtless few);
  left = ap {A = View} (λ z. z.left) f.is ∙ r.left;
  cause = ap {A = View} (λ z. z.pass.stuck) f.is;
}

-- what is known with the lock held and the youngest number told
pub drifted_in : (holds : Txn → Revision → List ℕ → Type 0) (young : ℕ) (ready : Ready) (properties : List (List ℕ × List ℕ)) (v u m n : View) (x y : Txn) → IsReady holds ready properties v u x y → LockTaken u m → Looked young m n → Drifted v n
drifted_in holds young ready properties v u m n x y r t l = drifted_on v m n (drifted_on v u m r.moved.drifted (by_taking u m t)) (by_look young m n l)

pub doubtless_in : (holds : Txn → Revision → List ℕ → Type 0) (young : ℕ) (ready : Ready) (properties : List (List ℕ × List ℕ)) (v u m n : View) (x y : Txn) → IsReady holds ready properties v u x y → LockTaken u m → Looked young m n → BringsNoDoubt v n
doubtless_in holds young ready properties v u m n x y r t l = λ few. looked_doubtless young m n l (taken_doubtless u m t (r.doubtless few))

pub left_in : (holds : Txn → Revision → List ℕ → Type 0) (young : ℕ) (ready : Ready) (properties : List (List ℕ × List ℕ)) (v u m n : View) (x y : Txn) → IsReady holds ready properties v u x y → LockTaken u m → Looked young m n → n.left ≡ v.left
left_in holds young ready properties v u m n x y r t l = ap {A = View} (λ z. z.left) l.is ∙ ap {A = View} (λ z. z.left) t.is ∙ r.left

-- who gives the lock in a section that may be left leaves in doubt what it did before
pub given_left : (s : Section) (v u : View) (k : Step) → v.section ≡ Some s → is_quiet s ≡ true → LockGiven k v u → u.left ≡ v.left
given_left s v u k at quiet g = ap {A = View} (λ z. z.left) g.is ∙ ap (λ o. left_by o v.left) at ∙ quiet_left s v.left quiet

pub may_let_go : (young : ℕ) (u m n : View) → LockTaken u m → Looked young m n → MayGive n
may_let_go young u m n t l = record { inside = Begun; is = ap {A = View} (λ z. z.section) l.is ∙ ap {A = View} (λ z. z.section) t.is; quiet = refl }

pub lost : (holds : Txn → Revision → List ℕ → Type 0) (young : ℕ) (ready : Ready) (properties : List (List ℕ × List ℕ)) (v u m n o : View) (x y : Txn) → v.section ≡ None → IsReady holds ready properties v u x y → LockTaken u m → Looked young m n → LockGiven (step.GiveLock n.number) n o → Lost properties v o x y
lost holds young ready properties v u m n o x y none r t l g = record {
  moved = record { drifted = drifted_on v n o (drifted_in holds young ready properties v u m n x y r t l) (by_giving (step.GiveLock n.number) n o g); section = ap {A = View} (λ z. z.section) g.is ∙ sym none };
  doubtless = λ few. given_doubtless (step.GiveLock n.number) n o g (doubtless_in holds young ready properties v u m n x y r t l few);
  left = given_left Begun n o (step.GiveLock n.number) (ap {A = View} (λ z. z.section) l.is ∙ ap {A = View} (λ z. z.section) t.is) refl g ∙ left_in holds young ready properties v u m n x y r t l;
  from = r.from;
  landings = landings_later u.seen o.seen x y (none_more o.seen u.seen (ap {A = View} (λ z. z.seen) g.is ∙ ap {A = View} (λ z. z.seen) l.is ∙ ap {A = View} (λ z. z.seen) t.is)) r.landings;
  can = can_same u o y properties (ap {A = View} (λ z. z.seen) g.is ∙ ap {A = View} (λ z. z.seen) l.is ∙ ap {A = View} (λ z. z.seen) t.is) (ap {A = View} (λ z. z.given) g.is ∙ ap {A = View} (λ z. z.given) l.is ∙ ap {A = View} (λ z. z.given) t.is) r.can;
}

module _ (holds : Txn → Revision → List ℕ → Type 0) (ready : Ready) (properties : List (List ℕ × List ℕ)) (v u n : View) (x y : Txn) (r : IsReady holds ready properties v u x y) (section : n.section ≡ Some Begun) (sure : n.sure ≡ true) (least : n.pass.least ≡ ready.head) (seen : n.seen ≡ u.seen) (given : n.given ≡ u.given) (layout : n.layout ≡ u.layout) (drifted : Drifted v n) (within : length n.seen ≤ ready.head + 1) where
  length_is : ready.head + 1 ≡ length u.seen
  length_is = let e : length n.seen ≡ length u.seen = ap length seen in omega (arith, e, r.seen, within)

  abbrev pub bytes : List ℕ
  bytes = (r.to_come n.number).0

  abbrev pub next : Revision
  next = (r.to_come n.number).1

  pub held : holds y next bytes
  held = (r.to_come n.number).2

  first : take (ready.head + 1) u.seen ≡ n.seen
  first = take_all (ready.head + 1) u.seen (omega (arith, length_is)) ∙ sym seen

  pub next_is : IsNext (revisions n.seen) (entry_of n.number y properties) next
  next_is = subst (λ h. IsNext (revisions h) (entry_of n.number y properties) next) first (r.to_come n.number).3.is

  pub shows : BytesShow (n.seen ++ record { revision = next; bytes = bytes } ∷ [])
  shows = subst (λ h. BytesShow (h ++ record { revision = next; bytes = bytes } ∷ [])) first (r.to_come n.number).3.shows

  -- the head isn't the last that there may be
  pub not_full : n.pass.least < 2147483647
  not_full = let e : length n.seen ≡ length u.seen = ap length seen in omega (arith, e, least, r.seen, next_is.limit, revisions_length n.seen)

  pub may_adopt : MayAdopt n y properties next bytes
  may_adopt =
      let can = can_same u n y properties seen given r.can in
      let e : length n.seen ≡ length u.seen = ap length seen in
      record { begun = section; sure = sure; seen = omega (arith, least, e, length_is); given = can.given; over = can.over; dated = can.dated; next_is = next_is; shows = shows; fits = omega (arith, next_is.limit, revisions_length n.seen) }

  pub is_made : IsMade n properties ready.made.rev ready.made.rev_file ready.made.props_file ready.made.properties.items ready.made.current.items
  is_made =
      let i = (r.to_come n.number).3.written length_is in
      record { number = i.number ∙ ap length (sym seen); rev_named = i.rev_named ∙ ap (λ k. file_name k (file.Revision ready.made.rev)) (sym layout); props_named = i.props_named ∙ ap (λ k. file_name k (file.Props ready.made.rev)) (sym layout); dump = i.dump; line = i.line; fits = subst (λ h. length h < 2 ^ 32) (sym seen) i.fits }

  landings_here : Landings n.seen x y
  landings_here = landings_later u.seen n.seen x y (none_more n.seen u.seen seen) r.landings

  over_here : IsTxnOver n.seen x
  over_here = txn_later v.seen n.seen x drifted.grows (omega (arith, r.from.based)) r.from.over

  history_at : (o : View) → Published y properties next bytes n o → IsHistory (revisions n.seen)
  history_at o p = first_of n o p.course section (ap {A = View} (λ z. z.section) p.is) sure may_adopt.seen

  pub committed : (o : View) → BringsNoDoubt v n → n.left ≡ v.left → Published y properties next bytes n o → Committed ready.made.rev properties v o x y
  committed o brings kept p = record {
    landings = landings_here;
    history = history_at o p;
    handed_in = subst (λ k. IsNext (revisions n.seen) (entry_of k x properties) next) drifted.number (entry_back n.seen n.number properties next x y (history_at o p) over_here landings_here next_is);
    before = n.seen;
    next = recorded (coming_of n y properties next bytes);
    is = ap {A = View} (λ z. z.seen) p.is;
    number = is_made.number;
    begins = drifted.grows;
    base = ap (λ b. b + 1) r.base ∙ sym r.rev;
    above = omega (arith, r.above, r.rev);
    is_next = subst (λ k. IsNext (revisions n.seen) (entry_of k y properties) next) drifted.number next_is;
    shows = shows;
    given = ap {A = View} (λ z. z.given) p.is ∙ drifted.given;
    still = λ stuck. ap {A = View} (λ z. is_some z.pass.stuck) p.is ∙ drifted.still stuck;
    full = λ full. ap {A = View} (λ z. z.full) p.is ∙ drifted.full full;
    since = ap {A = View} (λ z. z.since) p.is ∙ drifted.since;
    opened = ap {A = View} (λ z. z.opened) p.is ∙ drifted.opened;
    mine = ap {A = View} (λ z. z.pass.mine) p.is ∙ ap (λ k. n.pass.mine ++ k ∷ []) (sym is_made.number) ∙ ap (λ l. l ++ ready.made.rev ∷ []) drifted.mine;
    outside = ap {A = View} (λ z. z.section) p.is;
    doubtless = λ few. same_faults n o (ap {A = View} (λ z. z.pass.faults) p.is) (brings few);
    left = ap {A = View} (λ z. z.left) p.is ∙ kept;
    course = course_on v n o drifted.course p.course;
  }

  abbrev pub to_come_here : Coming
  to_come_here = coming_of n y properties next bytes

  -- a commit that failed once its revision's file was put wrote the revision to come
  pub wrote : (place : CommitPlace) (o : View) → StoppedAt place to_come_here n o → Wrote properties v o x to_come_here
  wrote place o s =
      let history = first_of n o (by_stopping place to_come_here n o s).course section (ap {A = View} (λ z. z.section) s.is) sure may_adopt.seen in
      record {
        before = n.seen;
        seen = none_more o.seen n.seen (ap {A = View} (λ z. z.seen) s.is);
        begins = drifted.grows;
        history = history;
        is_next = subst (λ k. IsNext (revisions n.seen) (entry_of k x properties) next) drifted.number (entry_back n.seen n.number properties next x y history over_here landings_here next_is);
        lands = λ h later hist follows. subst (λ k. IsNext (revisions h) (entry_of k x properties) next) drifted.number
            (entry_back h n.number properties next x y hist (txn_later v.seen h x (begins_on v.seen n.seen h drifted.grows later) (omega (arith, r.from.based)) r.from.over) (landings_later n.seen h x y later landings_here) follows);
      }

  pub failed_at : {E : Type 0} {Says : Refusals E} (place : CommitPlace) (o : View) → BringsNoDoubt v n → n.left ≡ v.left → v.section ≡ None → StoppedAt place to_come_here n o → Refused Says properties (fault.DiskFault place) v o x y
  failed_at place o brings kept none s = record {
    left = stopped_left place to_come_here v n o (Wrote properties v o x) kept (wrote place o s) s;
    moved = record { drifted = drifted_on v n o drifted (by_stopping place to_come_here n o s); section = ap {A = View} (λ z. z.section) s.is ∙ sym none };
    landings = landings_later n.seen o.seen x y (by_stopping place to_come_here n o s).grows landings_here;
    doubtless = λ certain few. stopped_doubtless place to_come_here n o s certain (brings few);
    cause = (n, drifted, to_come_here, s);
  }

  pub not_written : {E : Type 0} {Says : Refusals E} (refusal : E) (o : View) → BringsNoDoubt v n → n.left ≡ v.left → v.section ≡ None → LockGiven (step.GiveLock n.number) n o → ((head : ℕ) (h : List Recorded) (z : Txn) → Says refusal head h z) → Refused Says properties (fault.Refused refusal) v o x y
  not_written refusal o brings kept none g says = record {
    left = given_left Begun n o (step.GiveLock n.number) section refl g ∙ kept;
    moved = record { drifted = drifted_on v n o drifted (by_giving (step.GiveLock n.number) n o g); section = ap {A = View} (λ z. z.section) g.is ∙ sym none };
    landings = landings_later n.seen o.seen x y (by_giving (step.GiveLock n.number) n o g).grows landings_here;
    doubtless = λ few. given_doubtless (step.GiveLock n.number) n o g (brings few);
    cause = let e : o.pass.least ≡ n.pass.least = ap {A = View} (λ z. z.pass.least) g.is in (omega (arith, e, not_full), says o.pass.least o.seen y);
  }

  pub short_at : {E : Type 0} {Says : Refusals E} (f : CommitFault E) (o : View) → BringsNoDoubt v n → n.left ≡ v.left → v.section ≡ None → EndsShort Says to_come_here f n o → Refused Says properties f v o x y
  short_at fault.RevsFull o brings kept none s = absurd s
  short_at (fault.Stuck place) o brings kept none s = absurd s
  short_at (fault.Refused refusal) o brings kept none s = not_written refusal o brings kept none s.0 s.1
  short_at (fault.DiskFault place) o brings kept none s = failed_at place o brings kept none s

-- the lock was taken, and the youngest number is still the head
module _ (holds : Txn → Revision → List ℕ → Type 0) (young : ℕ) (ready : Ready) (properties : List (List ℕ × List ℕ)) (v u m n : View) (x y : Txn) (r : IsReady holds ready properties v u x y) (t : LockTaken u m) (l : Looked young m n) (same : young ≡ ready.head) where
  pub section_at : n.section ≡ Some Begun
  section_at = ap {A = View} (λ z. z.section) l.is ∙ ap {A = View} (λ z. z.section) t.is

  pub sure_at : n.sure ≡ true
  sure_at = ap {A = View} (λ z. z.sure) l.is ∙ ap {A = View} (λ z. is_held z.section) t.is

  pub least_at : n.pass.least ≡ ready.head
  least_at = ap {A = View} (λ z. z.pass.least) l.is ∙ same

  pub seen_at : n.seen ≡ u.seen
  seen_at = ap {A = View} (λ z. z.seen) l.is ∙ ap {A = View} (λ z. z.seen) t.is

  pub given_at : n.given ≡ u.given
  given_at = ap {A = View} (λ z. z.given) l.is ∙ ap {A = View} (λ z. z.given) t.is

  pub layout_at : n.layout ≡ u.layout
  layout_at = ap {A = View} (λ z. z.layout) l.is ∙ ap {A = View} (λ z. z.layout) t.is

  pub within_at : length n.seen ≤ ready.head + 1
  within_at = let e : length n.seen ≡ length m.seen = ap {A = View} (λ z. length z.seen) l.is in omega (arith, e, l.seen, same)

  abbrev pub bytes_at : List ℕ
  bytes_at = bytes holds ready properties v u n x y r section_at sure_at least_at seen_at given_at layout_at (drifted_in holds young ready properties v u m n x y r t l) within_at

  abbrev pub next_at : Revision
  next_at = next holds ready properties v u n x y r section_at sure_at least_at seen_at given_at layout_at (drifted_in holds young ready properties v u m n x y r t l) within_at

  pub held_at : holds y next_at bytes_at
  held_at = held holds ready properties v u n x y r section_at sure_at least_at seen_at given_at layout_at (drifted_in holds young ready properties v u m n x y r t l) within_at

  pub adopts_at : MayAdopt n y properties next_at bytes_at
  adopts_at = may_adopt holds ready properties v u n x y r section_at sure_at least_at seen_at given_at layout_at (drifted_in holds young ready properties v u m n x y r t l) within_at

  pub made_at : IsMade n properties ready.made.rev ready.made.rev_file ready.made.props_file ready.made.properties.items ready.made.current.items
  made_at = is_made holds ready properties v u n x y r section_at sure_at least_at seen_at given_at layout_at (drifted_in holds young ready properties v u m n x y r t l) within_at

  pub commits_at : (o : View) → Published y properties next_at bytes_at n o → Committed ready.made.rev properties v o x y
  commits_at o p = committed holds ready properties v u n x y r section_at sure_at least_at seen_at given_at layout_at (drifted_in holds young ready properties v u m n x y r t l) within_at o (doubtless_in holds young ready properties v u m n x y r t l) (left_in holds young ready properties v u m n x y r t l) p

  pub fails_at : {E : Type 0} {Says : Refusals E} (f : CommitFault E) (o : View) → v.section ≡ None → EndsShort Says (coming_of n y properties next_at bytes_at) f n o → Refused Says properties f v o x y
  fails_at f o none s = short_at holds ready properties v u n x y r section_at sure_at least_at seen_at given_at layout_at (drifted_in holds young ready properties v u m n x y r t l) within_at f o (doubtless_in holds young ready properties v u m n x y r t l) (left_in holds young ready properties v u m n x y r t l) none s

-- ---- one turn after another

pub landings_on : (h : List Recorded) (x y z : Txn) → Landings h x y → Landings h y z → Landings h x z
landings_on h x y z a (Unmoved _) = a
landings_on h x y z a (LandedMore _ m _ head seen b begins landed) = LandedMore x m z head seen (landings_on h x y m a b) begins landed

pub committed_on : (rev : ℕ) (p : List (List ℕ × List ℕ)) (v m o : View) (x y z : Txn) → Drifted v m → BringsNoDoubt v m → m.left ≡ v.left → CanCommit v x p → Landings m.seen x y → Committed rev p m o y z → Committed rev p v o x z
committed_on rev p v m o x y z d brings kept can landings c = record {
  left = c.left ∙ kept;
  landings = landings_on c.before x y z first c.landings;
  history = c.history;
  handed_in = entry_back c.before v.number p c.next.revision x y c.history (txn_later v.seen c.before x (begins_on v.seen m.seen c.before d.grows c.begins) (omega (arith, can.based)) can.over) first
      (subst (λ k. IsNext (revisions c.before) (entry_of k y p) c.next.revision) d.number c.handed_in);
  before = c.before;
  next = c.next;
  is = c.is;
  number = c.number;
  begins = begins_on v.seen m.seen c.before d.grows c.begins;
  base = c.base;
  above = omega (arith, d.least, c.above);
  is_next = subst (λ k. IsNext (revisions c.before) (entry_of k z p) c.next.revision) d.number c.is_next;
  shows = c.shows;
  mine = c.mine ∙ ap (λ l. l ++ rev ∷ []) d.mine;
  given = c.given ∙ d.given;
  still = λ stuck. c.still (d.still stuck);
  full = λ full. c.full (d.full full);
  since = c.since ∙ d.since;
  opened = c.opened ∙ d.opened;
  outside = c.outside;
  doubtless = λ few. c.doubtless (brings few);
  course = course_on v m o d.course c.course;
}
  where
    first : Landings c.before x y
    first = landings_later m.seen c.before x y c.begins landings

left_on : (v m o : View) (W V : Coming → Type 0) → m.left ≡ v.left → ((c : Coming) → W c → V c) → LeavesDoubt W m o → LeavesDoubt V v o
left_on v m o W V kept more (inl same) = inl (same ∙ kept)
left_on v m o W V kept more (inr (c, is, w)) = inr (c, is, more c w)

fault_left : {E : Type 0} (f : CommitFault E) (v m o : View) (W V : Coming → Type 0) → m.left ≡ v.left → ((c : Coming) → W c → V c) → FaultLeft f W m o → FaultLeft f V v o
fault_left fault.RevsFull v m o W V kept more same = same ∙ kept
fault_left (fault.Stuck place) v m o W V kept more same = same ∙ kept
fault_left (fault.Refused refusal) v m o W V kept more same = same ∙ kept
fault_left (fault.DiskFault place) v m o W V kept more w = left_on v m o W V kept more w

-- who wrote the landing of a transaction that was landed on the way wrote that of the first
wrote_on : (p : List (List ℕ × List ℕ)) (v m o : View) (x y : Txn) (c : Coming) → Drifted v m → CanCommit v x p → Landings m.seen x y → Wrote p m o y c → Wrote p v o x c
wrote_on p v m o x y c d can landings w =
    let first = landings_later m.seen w.before x y w.begins landings in
    let begins = begins_on v.seen m.seen w.before d.grows w.begins in
    record {
      before = w.before;
      seen = w.seen;
      begins = begins;
      history = w.history;
      is_next = entry_back w.before v.number p c.revision x y w.history (txn_later v.seen w.before x begins (omega (arith, can.based)) can.over) first (subst (λ k. IsNext (revisions w.before) (entry_of k y p) c.revision) d.number w.is_next);
      lands = λ h later hist follows. entry_back h v.number p c.revision x y hist (txn_later v.seen h x (begins_on v.seen w.before h begins later) (omega (arith, can.based)) can.over) (landings_later w.before h x y later first)
          (subst (λ k. IsNext (revisions h) (entry_of k y p) c.revision) d.number (w.lands h later hist follows));
    }

pub refused_on : {E : Type 0} {Says : Refusals E} (p : List (List ℕ × List ℕ)) (f : CommitFault E) (v m o : View) (x y z : Txn) → Drifted v m → BringsNoDoubt v m → m.left ≡ v.left → CanCommit v x p → m.section ≡ v.section → Landings m.seen x y → Refused Says p f m o y z → Refused Says p f v o x z
refused_on {Says = Says} p f v m o x y z d brings kept can section landings r = record {
  left = fault_left f v m o (Wrote p m o y) (Wrote p v o x) kept (λ c w. wrote_on p v m o x y c d can landings w) r.left;
  moved = record { drifted = drifted_on v m o d r.moved.drifted; section = r.moved.section ∙ section };
  landings = landings_on o.seen x y z (landings_later m.seen o.seen x y r.moved.drifted.grows landings) r.landings;
  doubtless = unless_on f (BringsNoDoubt m o) (BringsNoDoubt v o) (λ later few. later (brings few)) r.doubtless;
  cause = cause_on Says f r.cause;
}
  where
    cause_on : {F : Type 0} (W : Refusals F) (g : CommitFault F) → Cause W g m o z → Cause W g v o z
    cause_on W fault.RevsFull c = c
    cause_on W (fault.Stuck place) c = c
    cause_on W (fault.Refused refusal) c = c
    cause_on W (fault.DiskFault place) c = (c.0, drifted_on v m c.0 d c.1, c.2, c.3)

pub turn_on : (came : Option ℕ) (p : List (List ℕ × List ℕ)) (v m o : View) (x y z : Txn) → Lost p v m x y → IsTurn came p m o y z → IsTurn came p v o x z
turn_on (Some rev) p v m o x y z l t = committed_on rev p v m o x y z l.moved.drifted l.doubtless l.left l.from l.landings t
turn_on None p v m o x y z l t = record {
  moved = record { drifted = drifted_on v m o l.moved.drifted t.moved.drifted; section = t.moved.section ∙ l.moved.section };
  doubtless = λ few. t.doubtless (l.doubtless few);
  left = t.left ∙ l.left;
  from = l.from;
  landings = landings_on o.seen x y z (landings_later m.seen o.seen x y t.moved.drifted.grows l.landings) t.landings;
  can = t.can;
}

pub refused_after : {E : Type 0} {Says : Refusals E} (f : CommitFault E) (p : List (List ℕ × List ℕ)) (v m o : View) (x y z : Txn) → Lost p v m x y → Refused Says p f m o y z → Refused Says p f v o x z
refused_after f p v m o x y z l r = refused_on p f v m o x y z l.moved.drifted l.doubtless l.left l.from l.moved.section l.landings r

-- ---- the last turn

pub stuck_first : {E : Type 0} {Says : Refusals E} {p : List (List ℕ × List ℕ)} (place : DiskPlace) (v m : View) (x : Txn) → FoundStuck place v m → Refused Says p (fault.Stuck place) v m x x
stuck_first place v m x f = record { left = ap {A = View} (λ z. z.left) f.is; moved = record { drifted = by_finding place v m f; section = ap {A = View} (λ z. z.section) f.is }; landings = Unmoved x; doubtless = found_doubtless place v m f; cause = ap {A = View} (λ z. z.pass.stuck) f.is }

pub can_taken : (v m : View) (x : Txn) (p : List (List ℕ × List ℕ)) → LockTaken v m → CanCommit v x p → CanCommit m x p
can_taken v m x p t can = can_same v m x p (ap {A = View} (λ z. z.seen) t.is) (ap {A = View} (λ z. z.given) t.is) can

pub begun_then : (v m u : View) → LockTaken v m → u.section ≡ m.section → u.section ≡ Some Begun
begun_then v m u t same = same ∙ ap {A = View} (λ z. z.section) t.is

pub let_go_of : (v m u : View) → LockTaken v m → u.section ≡ m.section → MayGive u
let_go_of v m u t same = record { inside = Begun; is = begun_then v m u t same; quiet = refl }

-- the lock is no part of what was written
wrote_taken : (p : List (List ℕ × List ℕ)) (v m u o : View) (x : Txn) (c : Coming) → LockTaken v m → o.seen ≡ u.seen → Wrote p m u x c → Wrote p v o x c
wrote_taken p v m u o x c t same w = record {
  before = w.before;
  seen = subst (λ h. Begins h w.before) (sym same) w.seen;
  begins = subst (λ h. Begins w.before h) (ap {A = View} (λ z. z.seen) t.is) w.begins;
  history = w.history;
  is_next = subst (λ k. IsNext (revisions w.before) (entry_of k x p) c.revision) (ap {A = View} (λ z. z.number) t.is) w.is_next;
  lands = λ h later hist follows. subst (λ k. IsNext (revisions h) (entry_of k x p) c.revision) (ap {A = View} (λ z. z.number) t.is) (w.lands h later hist follows);
}

pub refused_last : {E : Type 0} {Says : Refusals E} {p : List (List ℕ × List ℕ)} (f : CommitFault E) (v m u o : View) (x y : Txn) → v.section ≡ None → LockTaken v m → Refused Says p f m u x y → LockGiven (step.GiveLock u.number) u o → Refused Says p f v o x y
refused_last {Says = Says} {p = p} f v m u o x y none t r g = record {
  left = last_left f r.left;
  moved = record { drifted = drifted_on v u o (drifted_on v m u (by_taking v m t) r.moved.drifted) (by_giving (step.GiveLock u.number) u o g); section = ap {A = View} (λ z. z.section) g.is ∙ sym none };
  landings = landings_later u.seen o.seen x y (by_giving (step.GiveLock u.number) u o g).grows r.landings;
  doubtless = unless_on f (BringsNoDoubt m u) (BringsNoDoubt v o) (λ between few. given_doubtless (step.GiveLock u.number) u o g (between (taken_doubtless v m t few))) r.doubtless;
  cause = cause_given Says f r.cause;
}
  where
    taken : m.left ≡ v.left
    taken = ap {A = View} (λ z. z.left) t.is

    gave : o.left ≡ u.left
    gave = given_left Begun u o (step.GiveLock u.number) (begun_then v m u t r.moved.section) refl g

    seen : o.seen ≡ u.seen
    seen = ap {A = View} (λ z. z.seen) g.is

    last_left : {F : Type 0} (g : CommitFault F) → FaultLeft g (Wrote p m u x) m u → FaultLeft g (Wrote p v o x) v o
    last_left fault.RevsFull kept = gave ∙ kept ∙ taken
    last_left (fault.Stuck place) kept = gave ∙ kept ∙ taken
    last_left (fault.Refused refusal) kept = gave ∙ kept ∙ taken
    last_left (fault.DiskFault place) (inl kept) = inl (gave ∙ kept ∙ taken)
    last_left (fault.DiskFault place) (inr (c, is, w)) = inr (c, gave ∙ is, wrote_taken p v m u o x c t seen w)

    same : o.pass ≡ u.pass
    same = ap {A = View} (λ z. z.pass) g.is

    cause_given : {F : Type 0} (W : Refusals F) (g : CommitFault F) → Cause W g m u y → Cause W g v o y
    cause_given W fault.RevsFull c = subst (λ p. 2147483647 ≤ p.least) (sym same) c
    cause_given W (fault.Stuck place) c = subst (λ p. p.stuck ≡ Some place) (sym same) c
    cause_given W (fault.Refused refusal) c = (subst (λ p. p.least < 2147483647) (sym same) c.0, subst (λ h. W refusal o.pass.least h y) (sym seen) (subst (λ p. W refusal p.least u.seen y) (sym same) c.1))
    cause_given W (fault.DiskFault place) c =
        let e : Some Begun ≡ None = sym (begun_then v m u t r.moved.section) ∙ ap {A = View} (λ z. z.section) c.3.is in absurd cc

module _ (holds : Txn → Revision → List ℕ → Type 0) (ready : Ready) (p : List (List ℕ × List ℕ)) (v m u : View) (x y : Txn) (t : LockTaken v m) (r : IsReady holds ready p m u x y) where
  pub last_section : u.section ≡ Some Begun
  last_section = begun_then v m u t r.moved.section

  pub last_held : is_held m.section ≡ true
  last_held = ap {A = View} (λ z. is_held z.section) t.is

  abbrev pub last_bytes : List ℕ
  last_bytes = bytes holds ready p m u u x y r last_section (r.sure ∙ last_held) r.least refl refl refl r.moved.drifted (r.within last_held)

  abbrev pub last_next : Revision
  last_next = next holds ready p m u u x y r last_section (r.sure ∙ last_held) r.least refl refl refl r.moved.drifted (r.within last_held)

  pub last_holds : holds y last_next last_bytes
  last_holds = held holds ready p m u u x y r last_section (r.sure ∙ last_held) r.least refl refl refl r.moved.drifted (r.within last_held)

  pub last_adopts : MayAdopt u y p last_next last_bytes
  last_adopts = may_adopt holds ready p m u u x y r last_section (r.sure ∙ last_held) r.least refl refl refl r.moved.drifted (r.within last_held)

  pub last_made : IsMade u p ready.made.rev ready.made.rev_file ready.made.props_file ready.made.properties.items ready.made.current.items
  last_made = is_made holds ready p m u u x y r last_section (r.sure ∙ last_held) r.least refl refl refl r.moved.drifted (r.within last_held)

  pub last_commits : (o : View) → CanCommit v x p → Published y p last_next last_bytes u o → Committed ready.made.rev p v o x y
  last_commits o can published = committed_on ready.made.rev p v m o x x y (by_taking v m t) (taken_doubtless v m t) (ap {A = View} (λ z. z.left) t.is) can (Unmoved x) (committed holds ready p m u u x y r last_section (r.sure ∙ last_held) r.least refl refl refl r.moved.drifted (r.within last_held) o r.doubtless r.left published)

  last_doubtless : BringsNoDoubt v u
  last_doubtless = λ few. r.doubtless (taken_doubtless v m t few)

  abbrev pub last_coming : Coming
  last_coming = coming_of u y p last_next last_bytes

  last_stopped : {E : Type 0} {Says : Refusals E} (place : CommitPlace) (o : View) → v.section ≡ None → StoppedAt place last_coming u o → Refused Says p (fault.DiskFault place) v o x y
  last_stopped place o none s = record {
    left = stopped_left place last_coming v u o (Wrote p v o x) (r.left ∙ ap {A = View} (λ z. z.left) t.is)
        (wrote_taken p v m o o x last_coming t refl (wrote holds ready p m u u x y r last_section (r.sure ∙ last_held) r.least refl refl refl r.moved.drifted (r.within last_held) place o s)) s;
    moved = record { drifted = drifted_on v u o (drifted_on v m u (by_taking v m t) r.moved.drifted) (by_stopping place last_coming u o s); section = ap {A = View} (λ z. z.section) s.is ∙ sym none };
    landings = landings_later u.seen o.seen x y (by_stopping place last_coming u o s).grows r.landings;
    doubtless = λ certain few. stopped_doubtless place last_coming u o s certain (last_doubtless few);
    cause = (u, drifted_on v m u (by_taking v m t) r.moved.drifted, last_coming, s);
  }

  last_unwritten : {E : Type 0} {Says : Refusals E} (refusal : E) (o : View) → v.section ≡ None → LockGiven (step.GiveLock u.number) u o → ((head : ℕ) (h : List Recorded) (z : Txn) → Says refusal head h z) → Refused Says p (fault.Refused refusal) v o x y
  last_unwritten refusal o none g says = record {
    left = given_left Begun u o (step.GiveLock u.number) last_section refl g ∙ r.left ∙ ap {A = View} (λ z. z.left) t.is;
    moved = record { drifted = drifted_on v u o (drifted_on v m u (by_taking v m t) r.moved.drifted) (by_giving (step.GiveLock u.number) u o g); section = ap {A = View} (λ z. z.section) g.is ∙ sym none };
    landings = landings_later u.seen o.seen x y (by_giving (step.GiveLock u.number) u o g).grows r.landings;
    doubtless = λ few. given_doubtless (step.GiveLock u.number) u o g (last_doubtless few);
    cause =
        let e : o.pass.least ≡ u.pass.least = ap {A = View} (λ z. z.pass.least) g.is in
        (omega (arith, e, not_full holds ready p m u u x y r last_section (r.sure ∙ last_held) r.least refl refl refl r.moved.drifted (r.within last_held)), says o.pass.least o.seen y);
  }

  pub last_fails : {E : Type 0} {Says : Refusals E} (f : CommitFault E) (o : View) → v.section ≡ None → EndsShort Says last_coming f u o → Refused Says p f v o x y
  last_fails fault.RevsFull o none s = absurd s
  last_fails (fault.Stuck place) o none s = absurd s
  last_fails (fault.Refused refusal) o none s = last_unwritten refusal o none s.0 s.1
  last_fails (fault.DiskFault place) o none s = last_stopped place o none s

-- ---- what a pass has seen, after calls with the lock

pub locked_grows : (young : ℕ) (u m n : View) → LockTaken u m → Looked young m n → Begins n.seen u.seen
locked_grows young u m n t l = begins_on u.seen m.seen n.seen (by_taking u m t).grows (by_look young m n l).grows

pub published_grows : (txn : Txn) (p : List (List ℕ × List ℕ)) (next : Revision) (bytes : List ℕ) (v u : View) → Published txn p next bytes v u → Begins u.seen v.seen
published_grows txn p next bytes v u published = (recorded (coming_of v txn p next bytes) ∷ [], ap {A = View} (λ z. z.seen) published.is)

pub short_grows : {E : Type 0} (Says : Refusals E) (x : Coming) (f : CommitFault E) (v u : View) → EndsShort Says x f v u → Begins u.seen v.seen
short_grows Says x fault.RevsFull v u s = absurd s
short_grows Says x (fault.Stuck place) v u s = absurd s
short_grows Says x (fault.Refused refusal) v u s = (by_giving (step.GiveLock v.number) v u s.0).grows
short_grows Says x (fault.DiskFault place) v u s = (by_stopping place x v u s).grows

-- ---- for answers

pub not_lost : (rev : ℕ) → Some rev ≡ None → ⊥
not_lost rev none = cc

pub turn_is : (o came : Option ℕ) (p : List (List ℕ × List ℕ)) (v u : View) (x y : Txn) → o ≡ came → IsTurn o p v u x y → IsTurn came p v u x y
turn_is o came p v u x y same t = subst (λ z. IsTurn z p v u x y) same t

pub can_next : (p q : List (List ℕ × List ℕ)) (v m : View) (x y : Txn) → q ≡ p → Lost p v m x y → CanCommit m y q
can_next p q v m x y same l = subst (λ z. CanCommit m y z) (sym same) l.can

pub turn_after : (came : Option ℕ) (p q : List (List ℕ × List ℕ)) (v m o : View) (x y z : Txn) → q ≡ p → Lost p v m x y → IsTurn came q m o y z → IsTurn came p v o x z
turn_after came p q v m o x y z same l t = turn_on came p v m o x y z l (subst (λ r. IsTurn came r m o y z) same t)

module _ (K : View → Type 0) (M : List Recorded → Txn → Type 0) (p q : List (List ℕ × List ℕ)) (v m : View) (x y : Txn) (same : q ≡ p) (l : Lost p v m x y) where
  pub all_turns : {E : Type 0} (r : Result (Option ℕ) E) → IfOk r (λ came. (u : View) × (z : Txn) × K u × M u.seen z × IsTurn came q m u y z) → IfOk r (λ came. (u : View) × (z : Txn) × K u × M u.seen z × IsTurn came p v u x z)
  all_turns r w = IfOk-weaker r _ _ (λ came a. (a.0, a.1, a.2, a.3, turn_after came p q v m a.0 x y a.1 same l a.4)) w

  pub all_commits : {E : Type 0} (r : Result ℕ E) → IfOk r (λ rev. (u : View) × (z : Txn) × K u × M u.seen z × Committed rev q m u y z) → IfOk r (λ rev. (u : View) × (z : Txn) × K u × M u.seen z × Committed rev p v u x z)
  all_commits r w = IfOk-weaker r _ _ (λ rev a. (a.0, a.1, a.2, a.3, turn_after (Some rev) p q v m a.0 x y a.1 same l a.4)) w

  pub all_refusals : {X E : Type 0} (Says : Refusals E) (r : Result X (CommitFault E)) → IfErr r (λ f. (u : View) × (z : Txn) × K u × M u.seen z × Refused Says q f m u y z) → IfErr r (λ f. (u : View) × (z : Txn) × K u × M u.seen z × Refused Says p f v u x z)
  all_refusals Says r w = IfErr-weaker r _ _ (λ f a. (a.0, a.1, a.2, a.3, refused_after f p v m a.0 x y a.1 l (subst (λ z. Refused Says z f m a.0 y a.1) same a.4))) w

pub of_rev : (rev same : ℕ) (p : List (List ℕ × List ℕ)) (v u : View) (x y : Txn) → same ≡ rev → Committed rev p v u x y → Committed same p v u x y
of_rev rev same p v u x y e c = subst (λ n. Committed n p v u x y) (sym e) c

-- the same properties by another name
pub ready_as : (holds : Txn → Revision → List ℕ → Type 0) (ready : Ready) (p q : List (List ℕ × List ℕ)) (v u : View) (x y : Txn) → q ≡ p → IsReady holds ready p v u x y → IsReady holds ready q v u x y
ready_as holds ready p q v u x y same r = subst (λ z. IsReady holds ready z v u x y) (sym same) r

pub committed_as : (rev : ℕ) (p q : List (List ℕ × List ℕ)) (v u : View) (x y : Txn) → q ≡ p → Committed rev q v u x y → Committed rev p v u x y
committed_as rev p q v u x y same c = subst (λ z. Committed rev z v u x y) same c
