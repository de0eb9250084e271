-- What becomes of the labels that are kept, where the label of a transaction is to go.
use Rattle.std.specs.Prelude.{◌≡◌, ◌⊎◌, List, Bool, true, false, Option, option_map}
use Rattle.fsfs_disk.specs.Labels.{Label, without_label}
use Rattle.fsfs_repo.specs.declared.txns.answers.CommitAnswer.{CommitAnswer}
use Rattle.fsfs_repo.specs.declared.txns.answers.CommitAnswer.TheVariants as answers

-- it went, and no other; or the disk failed to drop it: all stay, or all but this one
abbrev pub Unlists : Bool → Label → Type 0 → Option (List Label) → Option (List Label) → Type 0
Unlists true l rose old new = new ≡ option_map (without_label l) old
Unlists false l rose old new = rose × ((new ≡ old) ⊎ (new ≡ option_map (without_label l) old))

-- Behind a commit it is to go, unless the transaction is handed back: then all labels are as they were.
abbrev pub LeavesLabels : {X : Type 0} → CommitAnswer X → Label → Type 0 → Option (List Label) → Option (List Label) → Type 0
LeavesLabels (answers.Committed rev purged) l rose old new = Unlists purged l rose old new
LeavesLabels (answers.Barred bar txn) l rose old new = new ≡ old
LeavesLabels (answers.DiskFault at) l rose old new = (gone : Bool) × Unlists gone l rose old new
LeavesLabels answers.BenchFault l rose old new = (gone : Bool) × Unlists gone l rose old new
