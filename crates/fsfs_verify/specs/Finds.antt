-- What a check answers.
use Rattle.std.specs.Prelude.{Result, MatchResult}
use Rattle.fsfs_revision.specs.declared.wrong.Wrong.{Wrong}
use Rattle.fsfs_revision.specs.declared.wrong.ReadError.{ReadError}
use Rattle.fsfs_revision.specs.Damage.Readings.{IfWrong}

-- what holds where nothing is wrong, and what is wrong where something is; a failure says neither
abbrev pub Finds : {T : Type 0} → (T → Type 0) → (Wrong → Type 0) → Result T ReadError → Type 0
Finds P D result = MatchResult result P (IfWrong D)
