-- What the first pass knows of a store that was just opened.
use Rattle.std.specs.Prelude.{◌≡◌, ℕ, [], length, Bool, true, false, Option, Some, None, IfSome}
use Rattle.fsfs_disk.specs.Trace.{Trace, files_now}
use Rattle.fsfs_stands.specs.Files.{StandsFor}
use Rattle.fsfs_create.specs.Known.{HoldBytes}
use Rattle.fsfs_machine.specs.Machine.{revisions}
use Rattle.fsfs_turn.specs.Opening.{given_before, opened_at}
use Rattle.fsfs_pass.specs.declared.seats.seat_view.SeatView.{SeatView}

-- The disk told this trace before its names were made firm. The pass is in no section, and has seen the history that the files stood for; it has
-- added nothing, and met no fault. Images are spoken of since the names were made firm, as of passes that may pack, or may not.
pub record SeesAllSo (packs : Bool) (t : Trace) (v : SeatView) : Type 0 where
  pub told : v.told ≡ true
  pub outside : v.section ≡ None
  pub since : v.since ≡ record (opened_at t.first t.operations) { packs = packs }
  pub opened : v.opened ≡ length v.seen
  pub stands : StandsFor (files_now t) (revisions v.seen)
  -- these had the bytes beside each revision
  pub bytes : HoldBytes (files_now t) v.seen
  pub mine : v.pass.mine ≡ []
  pub faults : v.pass.faults ≡ []
  pub stuck : v.pass.stuck ≡ None
  pub left : v.left ≡ None

-- no pass may pack
abbrev pub SeesAll : Trace → SeatView → Type 0
SeesAll t v = SeesAllSo false t v

-- the names that had been given then are those below this number, and passes may pack, or may not
abbrev pub HasNames : Bool → Option Trace → ℕ → SeatView → Type 0
HasNames packs told number v = IfSome told (λ _. (v.given ≡ given_before number) × (v.since.packs ≡ packs))

-- where it told one
abbrev pub SeesAllOf : Bool → Option Trace → SeatView → Type 0
SeesAllOf packs None v = Unit {0}
SeesAllOf packs (Some t) v = SeesAllSo packs t v
