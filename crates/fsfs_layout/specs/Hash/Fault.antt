-- A dump that is not in its form.
use Rattle.std.specs.Prelude.{ℕ, List}
use Rattle.fsfs_base.specs.Grammar.Relations.{IsFaultAt}
use Rattle.fsfs_layout.specs.declared.hash.error.HashError.{HashError}
use Rattle.fsfs_layout.specs.declared.hash.error.HashError.TheVariants as errors

abbrev pub IsOutOfMemory : HashError → Type 0
IsOutOfMemory errors.OutOfMemory = Unit {0}
IsOutOfMemory (errors.Fault fault) = ⊥

-- a fault is at the first byte after which no text of the grammar goes on; want of memory may come anywhere
abbrev pub IsExact : (List ℕ → List (List ℕ × List ℕ) → Type 0) → List ℕ → HashError → Type 0
IsExact G bytes errors.OutOfMemory = Unit {0}
IsExact G bytes (errors.Fault fault) = IsFaultAt G bytes fault.at
