-- A part in which nothing stands yet.
use Rattle.std.proofs.Common.{◌≡◌, List, ℕ, [], ◌∷◌, Bool, true, false, refl, sym, subst}
use Rattle.std.specs.Prelude.{Option, None, if◌then◌else◌, Result, Ok, Err, IfOk}
use Rattle.fsfs_folders.specs.System.CallRecord.{CallRecord, Contents}
use Rattle.fsfs_folders.specs.System.Listing.{is_entry}
use Rattle.fsfs_folders.specs.BenchFiles.{HoldsNothing}
use Rattle.fsfs_memcalls.specs.Recorded.{of_folders}

either_none : (b : Bool) → ◌≡◌ {A = Option Contents} (if b then None else None) None
either_none true = refl
either_none false = refl

none_held : HoldsNothing (of_folders ([] ∷ []))
none_held name = either_none (is_entry name)

pub new_is_empty : {A E : Type 0} (record_of : A → CallRecord) (result : Result A E) → IfOk result (λ part. record_of part ≡ of_folders ([] ∷ [])) → IfOk result (λ part. HoldsNothing (record_of part))
new_is_empty record_of (Ok part) is = subst HoldsNothing (sym is) none_held
new_is_empty record_of (Err e) is = tt
