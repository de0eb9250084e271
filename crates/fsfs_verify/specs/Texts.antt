-- What a check of all revisions prints, as a reading that writes: a line for each revision until something is wrong with one.
use Rattle.std.specs.Prelude.{◌≡◌, ◌≤◌, ◌++◌, ℕ, zero, suc, List, [], codes, decimal}
use Rattle.fsfs_revision.specs.Told.{RevisionBytes}
use Rattle.fsfs_revision.specs.declared.wrong.Wrong.{Wrong}
use Rattle.fsfs_stands.specs.Texts.{End, Whole, Refused, Stopped}
use Rattle.fsfs_stands.specs.declared.look_fault.LookFault.TheVariants as faults
use Rattle.fsfs_sound.specs.Damaged.{IsDamaged}
use Rattle.fsfs_sound.specs.Laws.{ShowsOpenHistory}

-- the line of a revision with which nothing is wrong
abbrev pub verified_line : ℕ → List ℕ
verified_line rev = (codes "* Verified revision " ++ decimal rev) ++ codes ".\n"

-- those of the revisions before n
abbrev pub verified_lines : ℕ → List ℕ
verified_lines zero = []
verified_lines (suc n) = verified_lines n ++ verified_line n

-- the revisions before n show a history, if there are any
abbrev pub ShowsBefore : RevisionBytes → RevisionBytes → ℕ → Type 0
ShowsBefore look props zero = Unit {0}
ShowsBefore look props (suc top) = ShowsOpenHistory look props top

-- this is wrong with revision n, and the revisions before it show a history
pub record IsFirstDamage (look props : RevisionBytes) (youngest n : ℕ) (w : Wrong) : Type 0 where
  pub upto : n ≤ youngest
  pub damaged : IsDamaged look props n w
  pub before : ShowsBefore look props n

-- The lines of all revisions, which show a history; or those before the first with which something is wrong, and what. A failure stops
-- it behind some lines.
abbrev pub VerifyText : RevisionBytes → RevisionBytes → ℕ → List ℕ → End → Type 0
VerifyText look props youngest text Whole = (text ≡ verified_lines (suc youngest)) × ShowsOpenHistory look props youngest
VerifyText look props youngest text (Refused (faults.Wrong w)) = (n : ℕ) × IsFirstDamage look props youngest n w × (text ≡ verified_lines n)
VerifyText look props youngest text (Refused (faults.NotFound names)) = ⊥
VerifyText look props youngest text (Refused (faults.NotDir names)) = ⊥
VerifyText look props youngest text (Refused faults.NotFile) = ⊥
VerifyText look props youngest text Stopped = (n : ℕ) × (n ≤ suc youngest) × ShowsBefore look props n × (text ≡ verified_lines n)
