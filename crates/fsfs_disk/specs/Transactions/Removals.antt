-- What removing transactions in turn leaves.
use Rattle.std.specs.Prelude.{◌≡◌, ℕ, List, [], ◌∷◌, take, true, Option, Some, None, option_map, IfSome, Result, Ok, Err, if◌then◌else◌}
use Rattle.fsfs_base.specs.Files.{Files}
use Rattle.fsfs_disk.specs.Labels.{Label, has_label, without_label}
use Rattle.fsfs_disk.specs.Trace.{Trace, IsImage, labels_now}
use Rattle.fsfs_disk.specs.Transactions.Txns.{pair_of, txn_label}
use Rattle.fsfs_disk.specs.declared.transactions.removing.RemovalFault.{RemovalFault}
use Rattle.fsfs_disk.specs.declared.transactions.removing.RemovalFault.TheVariants.{NoTxn, Failed}

-- the first of these that there isn't, as they are removed in turn
abbrev pub first_lacking : List (ℕ × ℕ) → List Label → Option (ℕ × ℕ)
first_lacking [] labels = None
first_lacking (txn ∷ txns) labels = if has_label (txn_label txn) labels then first_lacking txns (without_label (txn_label txn) labels) else Some txn

-- the labels that are left of them: without those before that
abbrev pub labels_left : List (ℕ × ℕ) → List Label → List Label
labels_left [] labels = labels
labels_left (txn ∷ txns) labels = if has_label (txn_label txn) labels then labels_left txns (without_label (txn_label txn) labels) else labels

-- the labels now are made of those before
abbrev pub HasLabels : (List Label → List Label) → Option Trace → Option Trace → Type 0
HasLabels left old new = option_map labels_now new ≡ option_map (λ t. left (labels_now t)) old

-- the labels are those before
abbrev pub HasSameLabels : Option Trace → Option Trace → Type 0
HasSameLabels old new = option_map labels_now new ≡ option_map labels_now old

-- All were removed, or those before the first that there isn't. A failure leaves what removing some first of them leaves.
abbrev pub Removes : List (ℕ × ℕ) → Option Trace → Option Trace → Result (Unit {0}) RemovalFault → Type 0
Removes txns old new (Ok done) = HasLabels (labels_left txns) old new × IfSome old (λ t. first_lacking txns (labels_now t) ≡ None)
Removes txns old new (Err (NoTxn name)) = HasLabels (labels_left txns) old new × IfSome old (λ t. first_lacking txns (labels_now t) ≡ Some (pair_of name))
Removes txns old new (Err Failed) = (n : ℕ) × HasLabels (labels_left (take n txns)) old new

-- one fact for a failure of the disk, another for a transaction that there isn't
abbrev pub IfFailed : Type 0 → Type 0 → RemovalFault → Type 0
IfFailed failed lacking (NoTxn name) = lacking
IfFailed failed lacking Failed = failed

-- what a crash could have left then
abbrev pub IsImageOf : Option Trace → Files → Type 0
IsImageOf told m = (t : Trace) → told ≡ Some t → IsImage t.first t.operations m

abbrev pub WasKept : Option Trace → Label → Type 0
WasKept told label = IfSome told (λ t. has_label label (labels_now t) ≡ true)
