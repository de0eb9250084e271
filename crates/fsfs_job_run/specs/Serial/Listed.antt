-- What jobs leave of the labels that the disk keeps. A transaction is listed as long as its label is kept.
use Rattle.std.specs.Prelude.{◌≡◌, ◌≤◌, ◌+◌, ℕ, List, [], ◌∷◌, length, false, Option, IfSome, option_map}
use Rattle.fsfs_disk.specs.Labels.{Label, has_label, without_label, AreLeft}
use Rattle.fsfs_disk.specs.Transactions.Txns.{txn_label}

-- without those of these transactions, by their bases and numbers
abbrev pub without_txns : List (ℕ × ℕ) → List Label → List Label
without_txns [] labels = labels
without_txns (txn ∷ txns) labels = without_txns txns (without_label (txn_label txn) labels)

-- each of these has this number or a greater one
abbrev pub AreFrom : ℕ → List (ℕ × ℕ) → Type 0
AreFrom least [] = Unit {0}
AreFrom least (txn ∷ txns) = (least ≤ txn.1) × AreFrom least txns

-- LEAVES LISTED: transactions were begun, at most so many, with names of this number or greater ones, and none of them is listed. All others that
-- were listed are, and no more.
pub record LeavesListed (least most : ℕ) (old new : Option (List Label)) : Type 0 where
  pub begun : List (ℕ × ℕ)
  pub few : length begun ≤ most
  pub names : AreFrom least begun
  pub left : new ≡ option_map (without_txns begun) old

-- none of these was listed
abbrev pub AreUnlisted : List (ℕ × ℕ) → Option (List Label) → Type 0
AreUnlisted [] told = Unit {0}
AreUnlisted (txn ∷ txns) told = IfSome told (λ labels. has_label (txn_label txn) labels ≡ false) × AreUnlisted txns told

-- ---- the laws

-- each label that is kept then was kept before
abbrev pub NoneIsLeft : Type 0
NoneIsLeft = (least most : ℕ) (old new : Option (List Label)) → LeavesListed least most old new → IfSome old (λ labels. IfSome new (AreLeft labels))

-- they are the same, where none was kept that has the name of one that was begun
abbrev pub AllAreKept : Type 0
AllAreKept = (least most : ℕ) (old new : Option (List Label)) (lists : LeavesListed least most old new) → AreUnlisted lists.begun old → new ≡ old

-- those of one run behind another
abbrev pub ListingsGoOn : Type 0
ListingsGoOn = (least m n : ℕ) (old mid new : Option (List Label)) → LeavesListed least m old mid → LeavesListed least n mid new → LeavesListed least (m + n) old new
