-- The names of transactions.
use Rattle.std.specs.Prelude.{ℕ, List, ◌∷◌, ◌++◌}
use Rattle.std.specs.Fmt.{decimal}
use Rattle.fsfs_base.specs.Grammar.Base36.{base36}
use Rattle.fsfs_base.specs.Grammar.Numeral.{IsPlain, numeral_at}
use Rattle.fsfs_base.specs.Grammar.Cuts.{IsCutOf, parts_at}
use Rattle.fsfs_base.specs.Fields.RevNums.{IsRev, rev_at}
use Rattle.std.specs.Prelude.{Option}

-- `<base revision>-<base36>`
abbrev pub IsTxnName : List ℕ → ℕ × ℕ → Type 0
IsTxnName = IsCutOf 45 IsRev (IsPlain 36 170581728179578208255)

-- the text of a transaction's name
abbrev pub txn_text : ℕ → ℕ → List ℕ
txn_text base number = decimal base ++ 45 ∷ base36 number

-- reading
abbrev pub txn_name_at : List ℕ → Option (ℕ × ℕ)
txn_name_at = parts_at 45 rev_at (numeral_at 36 170581728179578208255)
