-- What the commit of a pass answers.
use Rattle.std.specs.Prelude.{◌≡◌, ◌<◌, ◌≤◌, ℕ, List, Bool, true, false, Some}
use Rattle.fsfs_base.specs.declared.places.place.DiskPlace.{DiskPlace}
use Rattle.fsfs_base.specs.declared.places.place.DiskPlace.TheVariants as place
use Rattle.fsfs_machine.specs.declared.machine.Recorded.{Recorded}
use Rattle.fsfs_machine.specs.declared.machine.Coming.{Coming}
use Rattle.fsfs_machine.specs.declared.machine.Txn.{Txn}
use Rattle.fsfs_machine.specs.declared.machine.Went.{Went}
use Rattle.fsfs_machine.specs.declared.machine.Went.TheVariants.{Fine}
use Rattle.fsfs_machine.specs.declared.machine.Step.TheVariants.{PurgeSpent}
use Rattle.fsfs_machine.specs.Machine.{is_fine_in}
use Rattle.fsfs_turn.specs.Alone.{BringsNoDoubt}
use Rattle.fsfs_turn.specs.Learning.{with_spent}
use Rattle.fsfs_turn.specs.Views.{View}
use Rattle.fsfs_begin.specs.Purged.{HasPurged, HasNotPurged}
use Rattle.fsfs_commit.specs.Courses.{StoppedAt}
use Rattle.fsfs_commit.specs.Replies.{Committed, Drifted, LeavesDoubt, Moved, Wrote, brings_doubt}
use Rattle.fsfs_commit.specs.Works.{Landings}
use Rattle.fsfs_commit.specs.Transaction.Dating.{IsDatedAt}
use Rattle.fsfs_commit.specs.Transaction.Refusals.{IsClashAt}
use Rattle.fsfs_repo.specs.declared.txns.answers.CommitBar.{CommitBar}
use Rattle.fsfs_repo.specs.declared.txns.answers.CommitBar.TheVariants as bars
use Rattle.fsfs_repo.specs.declared.txns.answers.CommitAnswer.{CommitAnswer}
use Rattle.fsfs_repo.specs.declared.txns.answers.CommitAnswer.TheVariants as answers

-- Then what is left of the transaction of this name is purged, by one step more: its files are gone, or the call failed and it may be listed
-- still.
abbrev pub IsDropped : (View → Type 0) → Bool → ℕ → View → Type 0
IsDropped knows true name m = (u : View) × knows u × HasPurged (with_spent name) (PurgeSpent m.number 0 Fine) m u
IsDropped knows false name m = (u : View) × (went : Went) × knows u × (is_fine_in went ≡ false) × HasNotPurged place.Remove (with_spent name) (PurgeSpent m.number 0 went) m u

-- The transaction x was handed back: nothing was added, and it stands for y, which is x landed on the way, or x, and has its name.
pub record IsBack {X : Type 0} (back : List Recorded → Txn → X → Type 0) (v u : View) (x y : Txn) (txn : X) : Type 0 where
  pub moved : Moved v u
  pub landings : Landings u.seen x y
  pub name : y.name ≡ x.name
  pub doubtless : BringsNoDoubt v u
  pub left : u.left ≡ v.left
  pub stands : back u.seen y txn

-- why nothing was added: y clashes with the youngest revision that the pass was told of, which isn't the last that there may be, first at
-- this path; or else. Of a store that is known to stand no damage is told, nor that the transaction isn't whole. Which path is past a limit
-- the transaction that is handed back says (`IfPastLimit`).
abbrev pub Bars : CommitBar → View → Txn → Type 0
Bars (bars.Conflict path head) u y = (head ≡ u.pass.least) × (head < 2147483647) × IsClashAt path head u.seen y
Bars bars.RevsFull u y = 2147483647 ≤ u.pass.least
Bars (bars.Stuck at) u y = u.pass.stuck ≡ Some at
Bars (bars.Wrong wrong) u y = ⊥
Bars (bars.PastLimit limit) u y = Unit {0}
Bars bars.Lacking u y = ⊥
Bars bars.Memory u y = Unit {0}

-- A call of the section failed at this place, last of all, and the lock was given or left stuck there; or a read of the merge failed, which
-- tells the pass nothing.
abbrev pub FailsAt : DiskPlace → View → View → Type 0
FailsAt (place.Commit call) v u = (m : View) × Drifted v m × (c : Coming) × StoppedAt call c m u
FailsAt place.Read v u = Unit {0}
FailsAt place.MakeBench v u = ⊥
FailsAt place.List v u = ⊥
FailsAt place.Remove v u = ⊥
FailsAt (place.Begin call) v u = ⊥
FailsAt (place.Open call) v u = ⊥
FailsAt (place.Create call) v u = ⊥
FailsAt (place.Pack call) v u = ⊥

-- nothing was added, and the transaction is no more
abbrev pub IsNoMore : (View → Type 0) → View → View → Txn → Type 0
IsNoMore knows v u x = Moved v u × ((gone : Bool) × IsDropped knows gone x.name u)

-- ENDS: the revision was added, with these properties, by the entry of x; or what became of x. A revision is left in doubt only by a call
-- that failed at a place which does that, and it is the revision that this commit was to add.
abbrev pub Ends : {X : Type 0} → (View → Type 0) → (List Recorded → Txn → X → Type 0) → List (List ℕ × List ℕ) → View → Txn → CommitAnswer X → Type 0
Ends knows back properties v x (answers.Committed rev purged) = (m : View) × (y : Txn) × Committed rev properties v m x y × IsDropped knows purged x.name m
Ends knows back properties v x (answers.Barred bar txn) = (u : View) × (y : Txn) × knows u × IsBack back v u x y txn × Bars bar u y
Ends knows back properties v x (answers.DiskFault at) = (u : View) × FailsAt at v u × (brings_doubt at ≡ false → BringsNoDoubt v u) × LeavesDoubt (Wrote properties v u x) v u × IsNoMore knows v u x
Ends knows back properties v x answers.BenchFault = (u : View) × BringsNoDoubt v u × (u.left ≡ v.left) × IsNoMore knows v u x

-- MEETS: so it ends, with the moment as the date
abbrev pub Meets : {X : Type 0} → (View → Type 0) → (List Recorded → Txn → X → Type 0) → ℕ → List (List ℕ × List ℕ) → View → Txn → CommitAnswer X → Type 0
Meets knows back micros properties v x (answers.Committed rev purged) = (dated : List (List ℕ × List ℕ)) × IsDatedAt micros properties dated × Ends knows back dated v x (answers.Committed rev purged)
Meets knows back micros properties v x (answers.Barred bar txn) = Ends knows back properties v x (answers.Barred bar txn)
Meets knows back micros properties v x (answers.DiskFault at) = (dated : List (List ℕ × List ℕ)) × IsDatedAt micros properties dated × Ends knows back dated v x (answers.DiskFault at)
Meets knows back micros properties v x answers.BenchFault = Ends knows back properties v x answers.BenchFault

-- a fact of the transaction that is handed back
abbrev pub IfBack : {X : Type 0} → CommitAnswer X → (X → Type 0) → Type 0
IfBack (answers.Barred bar txn) P = P txn
IfBack answer P = Unit {0}

-- a fact, where its files are gone behind a commit
abbrev pub IfPurged : {X : Type 0} → CommitAnswer X → Type 0 → Type 0
IfPurged (answers.Committed rev purged) P = purged ≡ true → P
IfPurged answer P = Unit {0}

-- a fact, where a call of the disk failed: of the section, or a read of the merge; or the purge behind a commit did
abbrev pub IfFailed : {X : Type 0} → CommitAnswer X → Type 0 → Type 0
IfFailed (answers.Committed rev purged) P = purged ≡ false → P
IfFailed (answers.DiskFault at) P = P
IfFailed answer P = Unit {0}

-- whether a bench is told to have failed, as a count
abbrev pub bench_faults_told : {X : Type 0} → CommitAnswer X → ℕ
bench_faults_told (answers.Committed rev purged) = 0
bench_faults_told (answers.Barred bar txn) = 0
bench_faults_told (answers.DiskFault at) = 0
bench_faults_told answers.BenchFault = 1
