-- What tests of a text tell.
use Rattle.std.proofs.Common.{◌≡◌, ◌⊎◌, ℕ, zero, suc, List, [], ◌∷◌, Bool, true, false, ⊎_elim, refl, sym, ap, get_or, ◌∙◌, arith}
use Rattle.std.proofs.lemmas.Bool.{and_parts, not-true, eq-eqb, le-leb}
use Rattle.std.specs.Prelude.{◌<◌, ◌≤◌, ◌==◌, ◌||◌, ◌&&◌, not, nat_le, length}
use Rattle.fsfs_folders.specs.System.Paths.{has_slash}
use Rattle.fsfs_folders.specs.System.Listing.{is_entry}
use Rattle.fsfs_folders.proofs.PathLemmas.{or_right, lacks_slash}
use Rattle.fsfs_folders.specs.Told.{is_in_bench, is_inner_folder}
use Rattle.fsfs_base.specs.Files.{same_text}

slash_at : (text : List ℕ) (k : ℕ) → k < length text → get_or text k 0 ≡ 47 → has_slash text ≡ true
slash_at [] k lt e = absurd (omega (arith, lt))
slash_at (c ∷ cs) zero lt e = ap (λ b. b || has_slash cs) (eq-eqb c 47 e)
slash_at (c ∷ cs) (suc k) lt e = or_right (c == 47) (has_slash cs) (slash_at cs k (omega (arith, lt)) e)

pub slash_tested : (text : List ℕ) (r : Bool) → (r ≡ true → (k : ℕ) × (k < length text) × (get_or text k 0 ≡ 47)) × ((k : ℕ) → k < length text → get_or text k 0 ≡ 47 → r ≡ true) → r ≡ has_slash text
slash_tested text true tests = let at = tests.0 refl in sym (slash_at text at.0 at.1 at.2)
slash_tested text false tests = sym (lacks_slash text (λ k lt e. let h : false ≡ true = tests.1 k lt e in cc))

-- a name is an entry where it has no slash and isn't empty
pub entry_tested : (name : List ℕ) (slash : Bool) → slash ≡ has_slash name → length name ≤ 128 → (length name == 0) ≡ false → not slash ≡ is_entry name
entry_tested [] slash e fits some = let h : true ≡ false = some in cc
entry_tested (c ∷ cs) slash e fits some = ap not e ∙ sym (with_true (not (has_slash (c ∷ cs))) (nat_le (length (c ∷ cs)) 128) (le-leb (length (c ∷ cs)) 128 fits))
  where
    with_true : (x y : Bool) → y ≡ true → (x && y) ≡ x
    with_true true y h = h
    with_true false y h = refl

-- a name is that of an inner folder where it isn't empty and in no bench
pub inner_tested : (name : List ℕ) (bench : Bool) → bench ≡ is_in_bench name → (length name == 0) ≡ false → not bench ≡ is_inner_folder name
inner_tested [] bench e some = let h : true ≡ false = some in cc
inner_tested (c ∷ cs) bench e some = ap not e

pub inner_parts : (path : List ℕ) → is_inner_folder path ≡ true → (same_text [] path ≡ false) × (is_in_bench path ≡ false)
inner_parts path e =
    let parts : (not (same_text [] path) ≡ true) × (not (is_in_bench path) ≡ true) = and_parts (not (same_text [] path)) (not (is_in_bench path)) e in
    (not-true (same_text [] path) parts.0, not-true (is_in_bench path) parts.1)
