-- A manifest says what its grammar says.
use Rattle.std.proofs.Common.{◌≡◌, ◌≤◌, ◌<◌, ℕ, ◌+◌, ◌-◌, List, ◌++◌, length, take, drop, sym, ap, subst, ◌∙◌, arith, append_assoc, refl}
use Rattle.std.specs.Prelude.{Result, Ok, Err}
use Rattle.std.proofs.lemmas.List.{take-append-drop}
use Rattle.std.proofs.lemmas.Grind.{common_steps}
use Rattle.fsfs_base.specs.declared.small_fault.SmallFile.{SmallFile}
use Rattle.fsfs_base.specs.declared.small_fault.SmallFile.TheVariants.{Manifest}
use Rattle.fsfs_base.specs.declared.small_fault.SmallFault.{SmallFault}
use Rattle.fsfs_base.specs.Grammar.Relations.{GoesOn, IsFaultAt}
use Rattle.fsfs_base.proofs.Readers.{all_found, all_again, all_exact}
use Rattle.fsfs_layout.specs.declared.layout.Layout.{Layout}
use Rattle.fsfs_layout.specs.Layouts.{shard_size}
use Rattle.fsfs_layout.specs.Small.{IsFaultOf}
use Rattle.fsfs_layout.specs.Manifest.{IsManifest}
use Rattle.fsfs_layout.specs.ManifestReading.{manifest_at}
use Rattle.fsfs_layout.proofs.Manifests.{layout_manifest}
use Rattle.fsfs_revision.specs.RevBytes.{placed, manifest_of}

-- a text goes wrong at one place
front_goes_on : {X : Type 0} (G : List ℕ → X → Type 0) (a b : ℕ) (bytes : List ℕ) → a + 1 ≤ b → GoesOn G (take b bytes) → GoesOn G (take (a + 1) bytes)
front_goes_on G a b bytes le w =
    let shorter : take (a + 1) (take b bytes) ≡ take (a + 1) bytes = grind (arith, common_steps) in
    let parts : take (a + 1) bytes ++ (drop (a + 1) (take b bytes) ++ w.more) ≡ take b bytes ++ w.more =
    ap (λ xs. xs ++ (drop (a + 1) (take b bytes) ++ w.more)) (sym shorter) ∙ sym (append_assoc (take (a + 1) (take b bytes)) (drop (a + 1) (take b bytes)) w.more) ∙ ap (λ xs. xs ++ w.more) (take-append-drop (a + 1) (take b bytes)) in
    record { more = drop (a + 1) (take b bytes) ++ w.more; value = w.value; text = let P : List ℕ → Type 0 = λ t. G t w.value in subst P (sym parts) w.text }

not_before : {X : Type 0} (G : List ℕ → X → Type 0) (bytes : List ℕ) (a b : ℕ) → IsFaultAt G bytes a → IsFaultAt G bytes b → a < b → ⊥
not_before G bytes a b v w lt = v.behind (omega (arith, w.within)) (front_goes_on G a b bytes (omega arith) w.before)

pub fault_same : {X : Type 0} (G : List ℕ → X → Type 0) (bytes : List ℕ) (a b : ℕ) → IsFaultAt G bytes a → IsFaultAt G bytes b → a ≡ b
fault_same G bytes a b v w = omega (arith, not_before G bytes a b v w, not_before G bytes b a w v)

pub manifest_ok : (n : Layout) (shard : ℕ) (bytes offsets : List ℕ) → IsManifest (shard_size n) bytes offsets → manifest_of n shard bytes ≡ Ok offsets
unfolding manifest_of
manifest_ok n shard bytes offsets is = ap (placed (Manifest shard) bytes) (all_again (layout_manifest n) bytes offsets is)

pub fault_is : (fault : SmallFault) (file : SmallFile) (at : ℕ) → fault.file ≡ file → fault.at ≡ at → (let f : SmallFault = record { file = file; at = at } in f) ≡ fault
fault_is fault file at e f = λ i. record { file = sym e i; at = sym f i }

placed_err : (n : Layout) (shard : ℕ) (bytes : List ℕ) (fault : SmallFault) → IsFaultOf (Manifest shard) (IsManifest (shard_size n)) bytes fault → ((offsets : List ℕ) → IsManifest (shard_size n) bytes offsets → ⊥) → (r : Result (List ℕ) ℕ) → manifest_at (shard_size n) bytes ≡ r → placed (Manifest shard) bytes r ≡ Err fault
placed_err n shard bytes fault is none (Ok offsets) e = absurd (none offsets (all_found (layout_manifest n) bytes offsets e))
placed_err n shard bytes fault is none (Err left) e =
    let w = all_exact (layout_manifest n) bytes left e in
    let at : fault.at ≡ length bytes - left = fault_same (IsManifest (shard_size n)) bytes fault.at (length bytes - left) is.place w.1 in
    ap (λ (f : SmallFault). Err f) (fault_is fault (Manifest shard) (length bytes - left) is.names at)

pub manifest_err : (n : Layout) (shard : ℕ) (bytes : List ℕ) (fault : SmallFault) → IsFaultOf (Manifest shard) (IsManifest (shard_size n)) bytes fault → ((offsets : List ℕ) → IsManifest (shard_size n) bytes offsets → ⊥) → manifest_of n shard bytes ≡ Err fault
unfolding manifest_of
manifest_err n shard bytes fault is none = placed_err n shard bytes fault is none (manifest_at (shard_size n) bytes) refl
