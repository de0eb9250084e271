-- A check behind the jobs of a run of svnjobs.
use Rattle.std.specs.Prelude.{ℕ, Bool, true, false, [], Option, Some, None, IfSome, Result}
use Rattle.fsfs_disk.specs.Trace.{Trace, files_now}
use Rattle.fsfs_layout.specs.declared.layout.Layout.{Layout}
use Rattle.fsfs_revision.specs.RevBytes.{props_bytes, rev_bytes}
use Rattle.fsfs_look.specs.declared.look_error.LookError.{LookError}
use Rattle.fsfs_cli.specs.declared.faults.fault.Fault.{Fault}
use Rattle.fsfs_check.specs.Finds.{Finds}
use Rattle.fsfs_top.specs.Looks.{IsFaultOf}

-- it found nothing wrong
abbrev pub is_sound : Option Fault → Bool
is_sound None = true
is_sound (Some fault) = false

-- What a check answered, by its fault or none, of the revisions up to the youngest in the files that the disk has: `finds`, whatever these are.
-- `rose` says that the disk's count of faults rose in it. No write fails.
pub record IsChecked (rose : Type 0) (layout : Layout) (youngest : ℕ) (told : Option Trace) (unsound : Option Fault) : Type 0 where
  pub result : Result (Unit {0}) LookError
  pub finds : IfSome told (λ t. Finds (rev_bytes layout (files_now t)) (props_bytes layout (files_now t)) youngest result)
  pub fault_is : IsFaultOf rose ⊥ [] result unsound
