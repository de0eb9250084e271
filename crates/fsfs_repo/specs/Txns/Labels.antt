-- What becomes of the labels that a pass meets, where the label of a transaction is to go.
use Rattle.std.specs.Prelude.{List, Bool, true, false, Option}
use Rattle.fsfs_disk.specs.Labels.{Label, without_label}
use Rattle.fsfs_turn.specs.Labels.{KeepsLabels, MayRelabel, Relabels}
use Rattle.fsfs_repo.specs.declared.txns.answers.CommitAnswer.{CommitAnswer}
use Rattle.fsfs_repo.specs.declared.txns.answers.CommitAnswer.TheVariants as answers

-- it went, and no other; or the disk failed to drop it: all stay that the call met, or all but this one
abbrev pub Unlists : Bool → Bool → Label → Type 0 → Option (List Label) → Option (List Label) → Type 0
Unlists bound true l rose old new = Relabels bound (without_label l) old new
Unlists bound false l rose old new = rose × MayRelabel bound (without_label l) old new

-- Behind a commit it is to go, unless the transaction is handed back: then the commit made nothing of the labels.
abbrev pub LeavesLabels : {X : Type 0} → Bool → CommitAnswer X → Label → Type 0 → Option (List Label) → Option (List Label) → Type 0
LeavesLabels bound (answers.Committed rev purged) l rose old new = Unlists bound purged l rose old new
LeavesLabels bound (answers.Barred bar txn) l rose old new = KeepsLabels bound old new
LeavesLabels bound (answers.DiskFault at) l rose old new = (gone : Bool) × Unlists bound gone l rose old new
LeavesLabels bound answers.BenchFault l rose old new = (gone : Bool) × Unlists bound gone l rose old new
