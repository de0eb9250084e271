-- What a disk tells of its files.
use Rattle.std.proofs.Common.{ℕ, List, refl, subst}
use Rattle.std.specs.Prelude.{Option, Some, None, IfSome}
use Rattle.fsfs_disk.specs.Trace.{Trace, file_at}
use Rattle.fsfs_disk.specs.WholeFiles.DiskParts.{TellsFile}

-- a fact about the file that a disk has is one about the file that it tells
pub told_file : (told : Option Trace) (name : List ℕ) (file : Option (List ℕ)) (P : Option (List ℕ) → Type 0) → IfSome told (λ t. P (file_at t name)) → TellsFile told name file → P file
told_file told name file P h t =
    let Q : Option Trace → Type 0 = λ o. IfSome o (λ u. P (file_at u name)) in
    let here : P (file_at t.trace name) = subst Q t.told_is h in
    subst P t.file_is here

-- and the other way round
pub file_told : (told : Option Trace) (name : List ℕ) (P : Option (List ℕ) → Type 0) → ((file : Option (List ℕ)) → TellsFile told name file → P file) → IfSome told (λ t. P (file_at t name))
file_told None name P f = tt
file_told (Some t) name P f = f (file_at t name) (record { trace = t; told_is = refl; file_is = refl })
