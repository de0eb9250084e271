-- Which labels the passes at a table leave as they are: all but those of transactions whose names were given since it began, and those of packs
-- where its passes may pack: who holds the lock makes and drops them.
use Rattle.std.specs.Prelude.{◌≡◌, ℕ, List, Bool, true, Option, IfSome}
use Rattle.fsfs_disk.specs.Labels.{Label, Txn as TxnLabel, Pack as PackLabel, HotCopy, has_label}
use Rattle.fsfs_disk.specs.Trace.{Trace, labels_now}
use Rattle.fsfs_machine.specs.Kept.{AllBelow, IsIn}

-- it is the label of a transaction whose name is above all of these; or of a pack, where passes may pack
abbrev pub IsAboveAll : Bool → List ℕ → Label → Type 0
IsAboveAll packs names (TxnLabel base name) = AllBelow name names
IsAboveAll packs names (PackLabel shard) = packs ≡ true
IsAboveAll packs names HotCopy = ⊥

-- KEEPS OTHERS: each other label is kept where it was, and nowhere else.
abbrev pub KeepsOthers : Bool → List ℕ → List Label → List Label → Type 0
KeepsOthers packs names old new = (l : Label) → (IsAboveAll packs names l → ⊥) → has_label l new ≡ has_label l old

-- where the disk tells
abbrev pub KeepsOthersOf : Bool → List ℕ → Option Trace → Option Trace → Type 0
KeepsOthersOf packs names old new = IfSome old (λ a. IfSome new (λ b. KeepsOthers packs names (labels_now a) (labels_now b)))

-- each of the names that are given is above all of these
abbrev pub AreAbove : List ℕ → List ℕ → Type 0
AreAbove names given = (k : ℕ) → IsIn k given → AllBelow k names
