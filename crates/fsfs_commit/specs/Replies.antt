-- The answers of a commit, and their causes.
use Rattle.std.specs.Prelude.{◌≡◌, ◌⊎◌, ◌<◌, ◌≤◌, ◌+◌, ℕ, List, [], ◌∷◌, ◌++◌, length, take, Bool, true, false, Option, Some, None, is_some}
use Rattle.fsfs_tree.specs.Revisions.{Revision}
use Rattle.fsfs_tree.specs.Histories.{IsHistory}
use Rattle.fsfs_model.specs.Flat.Transactions.{IsNext}
use Rattle.fsfs_machine.specs.declared.machine.Recorded.{Recorded}
use Rattle.fsfs_machine.specs.declared.machine.Coming.{Coming}
use Rattle.fsfs_machine.specs.declared.machine.Txn.{Txn}
use Rattle.fsfs_base.specs.declared.places.place.DiskPlace.{DiskPlace}
use Rattle.fsfs_base.specs.declared.places.place.DiskPlace.TheVariants.{Commit}
use Rattle.fsfs_machine.specs.Machine.{revisions, entry_of}
use Rattle.fsfs_turn.specs.Alone.{BringsNoDoubt}
use Rattle.fsfs_turn.specs.Bytes.{BytesShow}
use Rattle.fsfs_machine.specs.declared.machine.Step.TheVariants.{GiveLock}
use Rattle.fsfs_turn.specs.Views.{View, Begins, is_held, LockGiven}
use Rattle.fsfs_turn.specs.Courses.{Course}
use Rattle.fsfs_commit.specs.declared.made.Made.{Made}
use Rattle.fsfs_commit.specs.declared.committing.Ready.{Ready}
use Rattle.fsfs_commit.specs.declared.committing.CommitFault.{CommitFault}
use Rattle.fsfs_commit.specs.declared.committing.CommitFault.TheVariants.{RevsFull, Stuck, Refused as Refuses, DiskFault}
use Rattle.fsfs_commit.specs.Courses.{IsMade, StoppedAt, leaves_doubt}
use Rattle.fsfs_commit.specs.Works.{CanCommit, Landings}

-- the pass added nothing: it saw more, was told more, and faults came
pub record Drifted (v u : View) : Type 0 where
  pub number : u.number ≡ v.number
  pub layout : u.layout ≡ v.layout
  pub since : u.since ≡ v.since
  pub opened : u.opened ≡ v.opened
  pub mine : u.pass.mine ≡ v.pass.mine
  pub least : v.pass.least ≤ u.pass.least
  pub given : u.given ≡ v.given
  -- a pass that found the lock stuck knows so still
  pub still : is_some v.pass.stuck ≡ true → is_some u.pass.stuck ≡ true
  -- and one that met the last number of a name knows still that no name is left
  pub full : v.full ≡ true → u.full ≡ true
  pub grows : Begins u.seen v.seen
  pub course : Course v u

-- and it is in the section in which it was
pub record Moved (v u : View) : Type 0 where
  pub drifted : Drifted v u
  pub section : u.section ≡ v.section

-- the revision to come over the first part of what was seen that ends with the head
pub record IsToCome (head : ℕ) (made : Made) (bytes : List ℕ) (number : ℕ) (properties : List (List ℕ × List ℕ)) (u : View) (y : Txn) (next : Revision) : Type 0 where
  pub is : IsNext (revisions (take (head + 1) u.seen)) (entry_of number y properties) next
  pub shows : BytesShow (take (head + 1) u.seen ++ record { revision = next; bytes = bytes } ∷ [])
  pub written : head + 1 ≡ length u.seen → IsMade u properties made.rev made.rev_file made.props_file made.properties.items made.current.items

-- what was left in doubt was so before; or it is a revision of which this is known
abbrev pub LeavesDoubt : (Coming → Type 0) → View → View → Type 0
LeavesDoubt W v u = (u.left ≡ v.left) ⊎ ((c : Coming) × (u.left ≡ Some c) × W c)

-- The revision is the next of a history that lies between what the pass had seen and what it has seen now, by the entry of x. Where that history
-- goes on, and the revision follows it by its own entry, it does so by that of x too: its entry may have been landed on the way.
pub record Wrote (properties : List (List ℕ × List ℕ)) (v u : View) (x : Txn) (c : Coming) : Type 0 where
  pub before : List Recorded
  pub seen : Begins u.seen before
  pub begins : Begins before v.seen
  pub history : IsHistory (revisions before)
  pub is_next : IsNext (revisions before) (entry_of v.number x properties) c.revision
  pub lands : (h : List Recorded) → Begins h before → IsHistory (revisions h) → IsNext (revisions h) c.entry c.revision → IsNext (revisions h) (entry_of v.number x properties) c.revision

-- all is made for the revision that follows the head, on which the transaction stands
pub record IsReady (holds : Txn → Revision → List ℕ → Type 0) (ready : Ready) (properties : List (List ℕ × List ℕ)) (v u : View) (x y : Txn) : Type 0 where
  pub moved : Moved v u
  pub doubtless : BringsNoDoubt v u
  pub left : u.left ≡ v.left
  pub from : CanCommit v x properties
  pub landings : Landings u.seen x y
  pub can : CanCommit u y properties
  pub base : y.base ≡ ready.head
  pub rev : ready.made.rev ≡ ready.head + 1
  pub above : v.pass.least ≤ ready.head
  pub seen : ready.head + 1 ≤ length u.seen
  pub least : u.pass.least ≡ ready.head
  pub sure : u.sure ≡ is_held v.section
  -- where it holds the lock, it has seen no more
  pub within : is_held v.section ≡ true → length u.seen ≤ ready.head + 1
  pub to_come : (number : ℕ) → (bytes : List ℕ) × (next : Revision) × holds y next bytes × IsToCome ready.head ready.made bytes number properties u y next

-- COMMITTED: the revision is the next of those before it, of the entry of the landed transaction; the pass's own grew by it alone
pub record Committed (rev : ℕ) (properties : List (List ℕ × List ℕ)) (v u : View) (x y : Txn) : Type 0 where
  pub before : List Recorded
  pub landings : Landings before x y
  pub next : Recorded
  pub is : u.seen ≡ before ++ next ∷ []
  pub number : rev ≡ length before
  pub begins : Begins before v.seen
  pub base : y.base + 1 ≡ rev
  pub above : v.pass.least < rev
  pub history : IsHistory (revisions before)
  -- of the transaction as it was landed, and so of the one that was handed in
  pub is_next : IsNext (revisions before) (entry_of v.number y properties) next.revision
  pub handed_in : IsNext (revisions before) (entry_of v.number x properties) next.revision
  pub shows : BytesShow (before ++ next ∷ [])
  pub mine : u.pass.mine ≡ v.pass.mine ++ rev ∷ []
  pub since : u.since ≡ v.since
  pub opened : u.opened ≡ v.opened
  pub given : u.given ≡ v.given
  pub still : is_some v.pass.stuck ≡ true → is_some u.pass.stuck ≡ true
  -- and one that met the last number of a name knows still that no name is left
  pub full : v.full ≡ true → u.full ≡ true
  pub outside : u.section ≡ None
  pub doubtless : BringsNoDoubt v u
  pub left : u.left ≡ v.left
  pub course : Course v u

-- a turn that was lost to another commit
pub record Lost (properties : List (List ℕ × List ℕ)) (v u : View) (x y : Txn) : Type 0 where
  pub moved : Moved v u
  pub doubtless : BringsNoDoubt v u
  pub left : u.left ≡ v.left
  pub from : CanCommit v x properties
  pub landings : Landings u.seen x y
  pub can : CanCommit u y properties

abbrev pub IsTurn : Option ℕ → List (List ℕ × List ℕ) → View → View → Txn → Txn → Type 0
IsTurn (Some rev) properties v u x y = Committed rev properties v u x y
IsTurn None properties v u x y = Lost properties v u x y

-- what a draft's refusals say of a landing on a revision
abbrev pub Refusals : Type 0 → Type 1
Refusals E = E → ℕ → List Recorded → Txn → Type 0

-- with the lock held: the draft could not be written, and the lock was given; or the call at a place failed
abbrev pub EndsShort : {E : Type 0} → Refusals E → Coming → CommitFault E → View → View → Type 0
EndsShort Says x RevsFull v u = ⊥
EndsShort Says x (Stuck place) v u = ⊥
EndsShort Says x (Refuses refusal) v u = LockGiven (GiveLock v.number) v u × ((head : ℕ) (h : List Recorded) (y : Txn) → Says refusal head h y)
EndsShort Says x (DiskFault place) v u = StoppedAt place x v u

-- why a commit was refused, in what the pass knows after it; a draft's refusal is of the transaction as it stood then, and of the youngest
-- revision that the pass was told of, which isn't the last that there may be; a fault of the disk is that of the section that came last
abbrev pub Cause : {E : Type 0} → Refusals E → CommitFault E → View → View → Txn → Type 0
Cause Says RevsFull v u y = 2147483647 ≤ u.pass.least
Cause Says (Stuck place) v u y = u.pass.stuck ≡ Some place
Cause Says (Refuses refusal) v u y = (u.pass.least < 2147483647) × Says refusal u.pass.least u.seen y
Cause Says (DiskFault place) v u y = (m : View) × Drifted v m × (x : Coming) × StoppedAt place x m u

-- a fault there leaves the revision that a commit was to add in doubt
abbrev pub brings_doubt : DiskPlace → Bool
brings_doubt (Commit place) = leaves_doubt place
brings_doubt place = false

-- a fact, unless the call failed at a place that leaves the revision in doubt
abbrev pub UnlessDoubt : {E : Type 0} → CommitFault E → Type 0 → Type 0
UnlessDoubt RevsFull P = P
UnlessDoubt (Stuck place) P = P
UnlessDoubt (Refuses refusal) P = P
UnlessDoubt (DiskFault place) P = brings_doubt (Commit place) ≡ false → P

-- what is left in doubt is what was, unless a call of the section failed: then it may be a revision of which this is known
abbrev pub FaultLeft : {E : Type 0} → CommitFault E → (Coming → Type 0) → View → View → Type 0
FaultLeft RevsFull W v u = u.left ≡ v.left
FaultLeft (Stuck place) W v u = u.left ≡ v.left
FaultLeft (Refuses refusal) W v u = u.left ≡ v.left
FaultLeft (DiskFault place) W v u = LeavesDoubt W v u

-- REFUSED: nothing was added; the transaction stands on the head of the last landing, or as it was. What is left in doubt is the revision that
-- this commit was to add.
pub record Refused {E : Type 0} (Says : Refusals E) (properties : List (List ℕ × List ℕ)) (fault : CommitFault E) (v u : View) (x y : Txn) : Type 0 where
  pub moved : Moved v u
  pub landings : Landings u.seen x y
  pub doubtless : UnlessDoubt fault (BringsNoDoubt v u)
  pub left : FaultLeft fault (Wrote properties v u x) v u
  pub cause : Cause Says fault v u y

-- a fault of the disk, also one for which the draft refused, comes only where the count rose
abbrev pub RoseIfDisk : {E : Type 0} → (E → Type 0) → Type 0 → CommitFault E → Type 0
RoseIfDisk is_disk_fault rose RevsFull = Unit {0}
RoseIfDisk is_disk_fault rose (Stuck place) = Unit {0}
RoseIfDisk is_disk_fault rose (Refuses refusal) = is_disk_fault refusal → rose
RoseIfDisk is_disk_fault rose (DiskFault place) = rose
