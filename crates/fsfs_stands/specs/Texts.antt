-- What a look at a revision prints, as a reading that writes.
--
-- Each is a relation `R : List ℕ → End → Type 0`: `R text end` says that the bytes of all revisions give this text, and why it ends
-- there. It is the whole text; or the text before what is refused, and what is refused; or what comes before a place at which a
-- failure stops the look, which says nothing of the bytes.
use Rattle.std.specs.Prelude.{◌≡◌, ◌⊎◌, ℕ, List, [], Ok, Err}
use Rattle.fsfs_base.specs.Paths.{Path}
use Rattle.fsfs_revision.specs.Told.{RevisionBytes}
use Rattle.fsfs_revision.specs.declared.wrong.Wrong.{Wrong}
use Rattle.fsfs_revision.specs.Shows.Reading.{Met, MetAt}
use Rattle.fsfs_stands.specs.declared.look_fault.LookFault.{LookFault}
use Rattle.fsfs_stands.specs.declared.look_fault.LookFault.TheVariants as faults

pub data End : Type 0 where
  Whole : End
  Refused : LookFault → End
  Stopped : End

-- nothing is written, for this reason
abbrev pub Nothing : End → List ℕ → End → Type 0
Nothing why text end = (text ≡ []) × (end ≡ why)

-- the reading of a path, and then the text of what is met there
abbrev pub AtPath : RevisionBytes → ℕ → Path → (Met → List ℕ → End → Type 0) → List ℕ → End → Type 0
AtPath look rev path R text end =
    Nothing Stopped text end
    ⊎ (((w : Wrong) × MetAt look rev path (Err w) × Nothing (Refused (faults.Wrong w)) text end)
    ⊎ ((met : Met) × MetAt look rev path (Ok met) × R met text end))
