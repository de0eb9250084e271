-- What is found at a path.
use Rattle.std.specs.Prelude.{◌≡◌, Option, Some, None, Result, Ok, Err}
use Rattle.fsfs_revision.specs.declared.wrong.Wrong.{Wrong}
use Rattle.fsfs_revision.specs.declared.wrong.ReadError.{ReadError}
use Rattle.fsfs_revision.specs.declared.wrong.ReadError.TheVariants as errors
use Rattle.fsfs_dag.specs.Views.{entry_values, AreBefore}
use Rattle.fsfs_revision.specs.Shows.Reading.{offset_of}
use Rattle.fsfs_merge.specs.declared.clash.three.Target.{Target}
use Rattle.fsfs_merge.specs.declared.clash.turn.Listing.{Listing}
use Rattle.fsfs_merge.specs.declared.clash.turn.Halt.TheVariants as halts
use Rattle.fsfs_merge.specs.declared.clash.turn.Turn.{Turn}
use Rattle.fsfs_merge.specs.declared.clash.turn.Turn.TheVariants as turns
use Rattle.fsfs_merge.specs.Clash.Lists.{Lists}

abbrev pub lists_value : Listing → Lists
lists_value l = record { link = l.link; base = entry_values l.base.items; head = entry_values l.head.items; own = entry_values l.own.items }

-- want of memory, or a failure of the disk: nothing is wrong
abbrev pub IsFailure : ReadError → Type 0
IsFailure (errors.Wrong w) = ⊥
IsFailure errors.OutOfMemory = Unit {0}
IsFailure errors.DiskFault = Unit {0}

-- what is found is what is read
abbrev pub IsTurn : (Result (Option Lists) Wrong → Type 0) → Turn → Type 0
IsTurn R (turns.Down lists) = R (Ok (Some (lists_value lists)))
IsTurn R (turns.Halts halts.Clash) = R (Ok None)
IsTurn R (turns.Halts (halts.Wrong w)) = R (Err w)

abbrev pub turn_of : Option Listing → Turn
turn_of None = turns.Halts halts.Clash
turn_of (Some lists) = turns.Down lists

-- damage is found, and a failure is not
abbrev pub wrong_turn : ReadError → Result Turn ReadError
wrong_turn (errors.Wrong w) = Ok (turns.Halts (halts.Wrong w))
wrong_turn errors.OutOfMemory = Err errors.OutOfMemory
wrong_turn errors.DiskFault = Err errors.DiskFault

abbrev pub turned : Result (Option Listing) ReadError → Result Turn ReadError
turned (Ok lists) = Ok (turn_of lists)
turned (Err e) = wrong_turn e

-- the base's directory stands there, and what it names before it
abbrev pub IsHome : Listing → Option Target → Type 0
IsHome lists None = ⊥
IsHome lists (Some t) = (lists.home ≡ offset_of t.id.place) × AreBefore lists.home lists.base.items

abbrev pub IsTurnIn : Option Target → Turn → Type 0
IsTurnIn base (turns.Down lists) = IsHome lists base
IsTurnIn base (turns.Halts halt) = Unit {0}
