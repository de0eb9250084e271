-- What a trace says after one call more.
use Rattle.std.proofs.Common.{◌≡◌, ℕ, List, inl, inr, ⊎_elim, refl, sym, ap, subst}
use Rattle.std.specs.Prelude.{Option, Some, None, Result, Ok, Err, OnOk, OnErr, IfSome, IsSome, IfOk, option_map}
use Rattle.std.specs.Prelude.{Bool, true, false}
use Rattle.fsfs_base.specs.Files.{Files}
use Rattle.fsfs_base.proofs.FileLemmas.{get_new}
use Rattle.fsfs_disk.specs.Labels.{Label}
use Rattle.fsfs_disk.specs.Trace.{Trace, NameChange, Put, Adopt, DropLabel, Performs, PerformsIfThere, FailsAt, FailsToPut, FailsToAdopt, file_at, files_now}

-- a file that was put is there
pub file_at-put : (old new : Option Trace) (name bytes : List ℕ) → Performs (Put name bytes) old new → IfSome new (λ t. IsSome (file_at t name))
file_at-put None new name bytes performed = subst (λ o. IfSome o (λ t. IsSome (file_at t name))) (sym performed) tt
file_at-put (Some t) new name bytes performed =
    subst (λ o. IfSome o (λ t. IsSome (file_at t name))) (sym performed) (subst (λ b. IsSome b) (sym (get_new (files_now t) name bytes)) refl)

-- a call ended in one of the two ways
pub ended : {T E : Type 0} (change : NameChange) (old new : Option Trace) (result : Result T E) → OnOk result (Performs change old new) → OnErr result (FailsAt change old new) → FailsAt change old new
ended change old new (Ok x) done failed = inr (inr done)
ended change old new (Err e) done failed = failed

pub ended_put : {T E : Type 0} (name bytes : List ℕ) (old new : Option Trace) (result : Result T E) → OnOk result (Performs (Put name bytes) old new) → OnErr result (FailsToPut name bytes old new) → FailsToPut name bytes old new
ended_put name bytes old new (Ok x) done failed = inr (inr (bytes, done))
ended_put name bytes old new (Err e) done failed = failed

-- a call that may find nothing to do ended in one of three ways
pub ended_if_there : {E : Type 0} (change : NameChange) (old new : Option Trace) (result : Result Bool E) → IfOk result (λ there. PerformsIfThere there change old new) → OnErr result (FailsAt change old new) → FailsAt change old new
ended_if_there change old new (Ok true) done failed = inr (inr done)
ended_if_there change old new (Ok false) done failed = inl done
ended_if_there change old new (Err e) done failed = failed

pub fails_to_adopt : (change : NameChange) (old new : Option Trace) (without : Files → Files) (held left : Option Files) → FailsToAdopt change old new without held left → FailsAt change old new
fails_to_adopt change old new without held left failed = ⊎_elim (λ w. ⊎_elim (λ e. inl e) (λ a. inr (inl a)) w.0) (λ w. inr (inr w.0)) failed

pub ended_adopt : {T E : Type 0} (change : NameChange) (old new : Option Trace) (without : Files → Files) (held left : Option Files) (result : Result T E)
    → OnOk result (Performs change old new) → OnErr result (FailsToAdopt change old new without held left) → FailsAt change old new
ended_adopt change old new without held left (Ok x) done failed = inr (inr done)
ended_adopt change old new without held left (Err e) done failed = fails_to_adopt change old new without held left failed
