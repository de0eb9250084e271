-- Reading that needs memory.
use Rattle.std.specs.Prelude.{◌≡◌, ℕ, Result, Ok, Err}
use Rattle.fsfs_base.specs.declared.grammar.read_error.ReadError.{ReadError}
use Rattle.fsfs_base.specs.declared.grammar.read_error.ReadError.TheVariants as errors

-- what a function returned, seen by view, is what reading gives, unless memory ran out
abbrev pub Fails : {Y : Type 0} → ReadError → Result Y ℕ → Type 0
Fails errors.OutOfMemory read = Unit {0}
Fails (errors.Left left) read = read ≡ Err left

abbrev pub GivesOrMemory : {X Y : Type 0} → (X → Y) → Result X ReadError → Result Y ℕ → Type 0
GivesOrMemory view (Ok x) read = read ≡ Ok (view x)
GivesOrMemory view (Err e) read = Fails e read
