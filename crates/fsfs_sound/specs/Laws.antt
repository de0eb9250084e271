-- That the check of all revisions is right both ways.
use Rattle.std.specs.Prelude.{◌≡◌, ◌≤◌, ℕ, suc, List, length}
use Rattle.fsfs_tree.specs.Revisions.{Revision}
use Rattle.fsfs_revision.specs.Told.{RevisionBytes}
use Rattle.fsfs_revision.specs.declared.wrong.Wrong.{Wrong}
use Rattle.fsfs_stands.specs.History.{ShowsHistory}
use Rattle.fsfs_sound.specs.OpenTexts.{HasOpenTexts}
use Rattle.fsfs_sound.specs.Revisions.{IsSoundRevision}
use Rattle.fsfs_sound.specs.Damaged.{IsDamaged}

-- the bytes and the property files of the revisions up to top show a history whose texts are all read
pub record ShowsOpenHistory (look props : RevisionBytes) (top : ℕ) : Type 0 where
  pub history : List Revision
  pub count : length history ≡ suc top
  pub shown : ShowsHistory look props history
  pub open_texts : HasOpenTexts history

-- where each revision keeps the rules by itself, all of them show a history
abbrev pub SoundRevisionsShowAHistory : Type 0
SoundRevisionsShowAHistory = (look props : RevisionBytes) (top : ℕ) → ((r : ℕ) → r ≤ top → IsSoundRevision look props r) → ShowsOpenHistory look props top

-- and where they show one, nothing is wrong with any of them
abbrev pub HistoriesHaveNoDamage : Type 0
HistoriesHaveNoDamage = (look props : RevisionBytes) (top r : ℕ) (w : Wrong) → ShowsOpenHistory look props top → r ≤ top → IsDamaged look props r w → ⊥
