-- A file that was just written is there.
use Rattle.std.proofs.Common.{◌≡◌, ℕ, List, true, false, refl, sym, ap, subst}
use Rattle.std.specs.Prelude.{Option, Some, None, option_map, is_some, ◌&&◌}
use Rattle.std.specs.FinMap.{insert}
use Rattle.fsfs_base.specs.Files.{Files}
use Rattle.fsfs_base.proofs.FileLemmas.{get_new}
use Rattle.fsfs_disk.specs.Last.{is_last}

pub is_written : (old new : Option Files) (firm_to : List ℕ → ℕ) (name : List ℕ) (bytes : Files → List ℕ) → new ≡ option_map (λ m. insert m name (bytes m)) old → is_last new firm_to (Some name) false ≡ true
is_written None new firm_to name bytes same = subst (λ o. is_last o firm_to (Some name) false ≡ true) (sym same) refl
is_written (Some m) new firm_to name bytes same =
    subst (λ o. is_last o firm_to (Some name) false ≡ true) (sym same) (ap (λ o. is_some o && true) (get_new m name (bytes m)))
