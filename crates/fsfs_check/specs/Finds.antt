-- What a check that prints nothing answers.
use Rattle.std.specs.Prelude.{◌≡◌, ℕ, Result, Ok, Err}
use Rattle.fsfs_base.specs.declared.small_fault.SmallFault.{SmallFault}
use Rattle.fsfs_revision.specs.Told.{RevisionBytes}
use Rattle.fsfs_revision.specs.declared.wrong.Refusal.TheVariants.{Small}
use Rattle.fsfs_revision.specs.declared.wrong.Wrong.TheVariants.{Refused}
use Rattle.fsfs_look.specs.declared.look_error.LookError.{LookError}
use Rattle.fsfs_look.specs.declared.look_error.LookError.TheVariants.{Fault, DiskFault, OutOfMemory, WriteFault}
use Rattle.fsfs_stands.specs.declared.look_fault.LookFault.{LookFault}
use Rattle.fsfs_stands.specs.declared.look_fault.LookFault.TheVariants.{Wrong, NotFound, NotDir, NotFile}
use Rattle.fsfs_sound.specs.Laws.{ShowsOpenHistory}
use Rattle.fsfs_verify.specs.Texts.{IsFirstDamage}

-- it is wrong with a revision up to the youngest, and the revisions before that one show a history
abbrev pub IsWrong : RevisionBytes → RevisionBytes → ℕ → LookFault → Type 0
IsWrong look props youngest (Wrong w) = (n : ℕ) × IsFirstDamage look props youngest n w
IsWrong look props youngest (NotFound names) = ⊥
IsWrong look props youngest (NotDir names) = ⊥
IsWrong look props youngest NotFile = ⊥

-- WHAT IS ANSWERED: that the revisions up to the youngest show a history no text of which is a delta; or what is wrong with one. Else the
-- disk failed, or memory was wanting; no write does.
abbrev pub Finds : RevisionBytes → RevisionBytes → ℕ → Result (Unit {0}) LookError → Type 0
Finds look props youngest (Ok done) = ShowsOpenHistory look props youngest
Finds look props youngest (Err (Fault why)) = IsWrong look props youngest why
Finds look props youngest (Err DiskFault) = Unit {0}
Finds look props youngest (Err OutOfMemory) = Unit {0}
Finds look props youngest (Err WriteFault) = ⊥

-- the floor, as the files say; or why they don't
abbrev pub IsFloor : Result ℕ SmallFault → Result ℕ LookError → Type 0
IsFloor said (Ok floor) = said ≡ Ok floor
IsFloor said (Err (Fault why)) = (fault : SmallFault) × (said ≡ Err fault) × (why ≡ Wrong (Refused (Small fault)))
IsFloor said (Err DiskFault) = Unit {0}
IsFloor said (Err OutOfMemory) = Unit {0}
IsFloor said (Err WriteFault) = ⊥
