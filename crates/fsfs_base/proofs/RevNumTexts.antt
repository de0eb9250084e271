-- Revision numbers are read exactly.
use Rattle.std.proofs.Common.{ℕ, ◌≤◌, List, arith}
use Rattle.fsfs_base.specs.Grammar.Numeral.{digit}
use Rattle.fsfs_base.specs.Grammar.Cuts.{Lacks}
use Rattle.fsfs_base.proofs.Spelling.{Spells, numeral_spells, plain_lacks}
use Rattle.fsfs_base.specs.Fields.RevNums.{last_rev, IsRev, rev_at}

pub rev_spells : Spells IsRev rev_at
rev_spells = numeral_spells 10 last_rev (omega arith)

-- a revision's text has digits alone
pub rev_text_lacks : (c : ℕ) → 10 ≤ digit c → (t : List ℕ) (rev : ℕ) → IsRev t rev → Lacks c t
rev_text_lacks c high = plain_lacks 10 last_rev c high
