-- Calls that change nothing of the repository.
use Rattle.std.specs.Prelude.{◌≡◌, ℕ, List, ◌++◌, true, Option, Some, None}
use Rattle.fsfs_folders.specs.System.CallRecord.{CallRecord, Create, MayMake, names_now}
use Rattle.fsfs_folders.specs.Told.{trace_of}
use Rattle.fsfs_folders.specs.Keeping.{keeps, are_names_firm, are_folders_firm}

-- the calls go on and keep to the rules, the names and what is told stay, and what was firm stays so
pub record GoesOnQuietly (r s : CallRecord) : Type 0 where
  pub keeping : keeps r.first r.calls ≡ true → keeps s.first s.calls ≡ true
  pub told : trace_of s ≡ trace_of r
  pub names : names_now s ≡ names_now r
  pub firm : (folders : List (List ℕ)) → are_names_firm folders r.calls ≡ true → are_names_firm folders s.calls ≡ true
  pub settled : are_folders_firm r.calls ≡ true → are_folders_firm s.calls ≡ true

abbrev pub IsQuiet : Option CallRecord → Option CallRecord → Type 0
IsQuiet None new = new ≡ None
IsQuiet (Some r) None = ⊥
IsQuiet (Some r) (Some s) = GoesOnQuietly r s

-- these folders were synced, and nothing else was done that takes away from what is firm
abbrev pub IsSynced : List (List ℕ) → Option CallRecord → Option CallRecord → Type 0
IsSynced folders None new = Unit {0}
IsSynced folders (Some r) None = ⊥
IsSynced folders (Some r) (Some s) = (more : List (List ℕ)) → are_names_firm (folders ++ more) r.calls ≡ true → are_names_firm more s.calls ≡ true

-- a file was made, if it was, and then nothing changed of the repository
abbrev pub MakesQuietly : List ℕ → Option CallRecord → Option CallRecord → Type 0
MakesQuietly path old new = (mid : Option CallRecord) × MayMake (Create path) old mid × IsQuiet mid new
