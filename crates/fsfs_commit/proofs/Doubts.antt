-- Which answers of a commit bring no fault that leaves a revision in doubt.
use Rattle.std.proofs.Common.{◌≡◌, ◌∙◌, false, refl, ap}
use Rattle.fsfs_base.specs.declared.places.place.DiskPlace.TheVariants.{Commit}
use Rattle.fsfs_base.specs.declared.places.place.CommitPlace.{CommitPlace}
use Rattle.fsfs_base.specs.declared.places.place.CommitPlace.TheVariants.{RenameCurrent, FirmCurrent}
use Rattle.fsfs_machine.specs.declared.machine.Coming.{Coming}
use Rattle.fsfs_turn.specs.Alone.{BringsNoDoubt, leaves_stuck}
use Rattle.fsfs_turn.specs.Views.{View}
use Rattle.fsfs_turn.proofs.Doubts.{fault_more}
use Rattle.fsfs_commit.specs.declared.committing.CommitFault.{CommitFault}
use Rattle.fsfs_commit.specs.declared.committing.CommitFault.TheVariants as fault
use Rattle.fsfs_commit.specs.Courses.{StoppedAt, leaves_doubt}
use Rattle.fsfs_commit.specs.Replies.{UnlessDoubt, brings_doubt}

-- a commit leaves the lock stuck where it leaves its revision in doubt
stuck_in_doubt : (place : CommitPlace) → leaves_stuck (Commit place) ≡ leaves_doubt place
stuck_in_doubt RenameCurrent = refl
stuck_in_doubt FirmCurrent = refl
stuck_in_doubt place = refl

pub stopped_doubtless : (place : CommitPlace) (x : Coming) (v u : View) → StoppedAt place x v u → brings_doubt (Commit place) ≡ false → BringsNoDoubt v u
stopped_doubtless place x v u s none = fault_more (Commit place) v u (ap {A = View} (λ z. z.pass.faults) s.is) (stuck_in_doubt place ∙ none)

-- ---- an answer

pub unless_on : {E : Type 0} (f : CommitFault E) (P Q : Type 0) → (P → Q) → UnlessDoubt f P → UnlessDoubt f Q
unless_on fault.RevsFull P Q more p = more p
unless_on (fault.Stuck place) P Q more p = more p
unless_on (fault.Refused refusal) P Q more p = more p
unless_on (fault.DiskFault place) P Q more p = λ none. more (p none)
