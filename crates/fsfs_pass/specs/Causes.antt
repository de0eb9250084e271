-- Why the lock is as it is.
use Rattle.std.specs.Prelude.{◌≡◌, ◌⊎◌, ◌≤◌, ℕ, List, true, false, Option, Some, is_some}
use mathlib.Core.Option.{some}
use lib.ListN.{get_elem?}
use Rattle.fsfs_machine.specs.declared.machine.Coming.{Coming}
use Rattle.fsfs_turn.specs.Alone.{are_harmless, is_doubtful_at}
use Rattle.fsfs_turn.specs.Views.{is_held}
use Rattle.fsfs_pass.specs.declared.seats.seat_view.SeatView.{SeatView}
use Rattle.fsfs_pass.specs.Seats.{is_left}

-- the section of the pass is to leave the lock stuck only by a fault of its own that leaves a revision in doubt
abbrev pub IsSound : SeatView → Type 0
IsSound v = are_harmless v.pass.faults ≡ true → is_doubtful_at v.section ≡ false

-- the pass holds the lock, or met a fault that leaves it stuck
abbrev pub HasLock : ℕ → SeatView → Type 0
HasLock lock v = ((lock ≡ 1) × (is_held v.section ≡ true)) ⊎ (are_harmless v.pass.faults ≡ false)

-- Whose the revision is with which the lock is stuck: a pass that left one in doubt left this one, and one of the seats that haven't left did.
pub record Doubts (views : List SeatView) (stuck : Option Coming) : Type 0 where
  pub tied : (j : ℕ) (v : SeatView) → get_elem? views j ≡ some v → is_left v.kin.stage ≡ false → (x : Coming) → v.left ≡ Some x → stuck ≡ Some x
  pub whose : (x : Coming) → stuck ≡ Some x → (j : ℕ) × (v : SeatView) × (get_elem? views j ≡ some v) × (is_left v.kin.stage ≡ false) × (v.left ≡ Some x)

-- What is true of the word LOCK and all seats that haven't left: who found the lock stuck found it so for good; and where it isn't free, one of
-- them holds it, or met a fault that left it stuck.
pub record Causes (views : List SeatView) (lock : ℕ) : Type 0 where
  pub sound : (j : ℕ) (v : SeatView) → get_elem? views j ≡ some v → is_left v.kin.stage ≡ false → IsSound v
  pub found : (j : ℕ) (v : SeatView) → get_elem? views j ≡ some v → is_left v.kin.stage ≡ false → is_some v.pass.stuck ≡ true → 2 ≤ lock
  pub cause : (lock ≡ 0) ⊎ ((j : ℕ) × (v : SeatView) × (get_elem? views j ≡ some v) × (is_left v.kin.stage ≡ false) × HasLock lock v)
