-- Files stay short over changes.
use Rattle.std.proofs.Common.{◌≡◌, ◌≤◌, ◌^◌, ℕ, List, Bool, true, false, length, cond, ⊎_elim, refl, sym, subst, ◌∙◌}
use Rattle.std.specs.Prelude.{Option, Some, None}
use Rattle.std.specs.Ordering.{nat_cmp, is_eq}
use Rattle.std.specs.Cmp.Lexicographic.{slice_cmp, nat_list_cmp_total}
use Rattle.std.specs.FinMap.{empty, get, insert, remove, get-insert, get-remove, get-empty}
use Rattle.fsfs_base.specs.Files.{Files, renamed}
use Rattle.fsfs_disk.specs.Benches.{HasShortFiles}
use Rattle.fsfs_disk.specs.Short.{IsShortChange}
use Rattle.fsfs_disk.specs.Trace.{NameChange, Put, Adopt, Rename, Remove, FirmNames, KeepLabel, DropLabel, ImageAfter, changed}

pub short_empty : HasShortFiles empty
short_empty name bytes at = let h : None ≡ Some bytes = sym (get-empty (slice_cmp nat_cmp) name) ∙ at in cc

pub short_insert : (m : Files) (name bytes : List ℕ) → HasShortFiles m → length bytes ≤ 2 ^ 62 → HasShortFiles (insert m name bytes)
short_insert m name bytes short few q found at = by_test (is_eq (slice_cmp nat_cmp q name)) (sym (get-insert nat_list_cmp_total m name bytes q) ∙ at) where
  by_test : (b : Bool) → cond b (Some bytes) (get m q) ≡ Some found → length found ≤ 2 ^ 62
  by_test true is = let same : bytes ≡ found = cc in subst (λ (bs : List ℕ). length bs ≤ 2 ^ 62) same few
  by_test false is = short q found is

pub short_remove : (m : Files) (name : List ℕ) → HasShortFiles m → HasShortFiles (remove m name)
short_remove m name short q found at = by_test (is_eq (slice_cmp nat_cmp q name)) (sym (get-remove nat_list_cmp_total m name q) ∙ at) where
  by_test : (b : Bool) → cond b None (get m q) ≡ Some found → length found ≤ 2 ^ 62
  by_test true is = cc
  by_test false is = short q found is

pub short_renamed : (m now : Files) (from to : List ℕ) → HasShortFiles m → HasShortFiles now → HasShortFiles (renamed m from to (get now from))
short_renamed m now from to short short_now = by_file (get now from) refl where
  by_file : (o : Option (List ℕ)) → get now from ≡ o → HasShortFiles (renamed m from to o)
  by_file None at = short_remove (remove m from) to (short_remove m from short)
  by_file (Some bytes) at = short_insert (remove m from) to bytes (short_remove m from short) (short_now from bytes at)

pub short_changed : (change : NameChange) (m : Files) → IsShortChange change → HasShortFiles m → HasShortFiles (changed change m)
short_changed (Put name bytes) m few short = short_insert m name bytes short few
short_changed (Adopt name bytes) m few short = short_insert m name bytes short few
short_changed (Rename from to) m few short = short_renamed m m from to short short
short_changed (Remove name) m few short = short_remove m name short
short_changed FirmNames m few short = short
short_changed (KeepLabel l) m few short = short
short_changed (DropLabel l) m few short = short

-- so are the images after a change
pub short_image : (change : NameChange) (now : Files) (Before : Files → Type 0) → IsShortChange change → HasShortFiles now → ((m : Files) → Before m → HasShortFiles m) → (m : Files) → ImageAfter change now Before m → HasShortFiles m
short_image (Put name bytes) now Before few short all m is = ⊎_elim (all m) (λ w. subst HasShortFiles (sym w.2) (short_insert w.0 name bytes (all w.0 w.1) few)) is
short_image (Adopt name bytes) now Before few short all m is = ⊎_elim (all m) (λ w. subst HasShortFiles (sym w.2) (short_insert w.0 name bytes (all w.0 w.1) few)) is
short_image (Rename from to) now Before few short all m is = ⊎_elim (all m) (λ w. subst HasShortFiles (sym w.2) (short_renamed w.0 now from to (all w.0 w.1) short)) is
short_image (Remove name) now Before few short all m is = ⊎_elim (all m) (λ w. subst HasShortFiles (sym w.2) (short_remove w.0 name (all w.0 w.1))) is
short_image FirmNames now Before few short all m is = subst HasShortFiles (sym is) short
short_image (KeepLabel l) now Before few short all m is = all m is
short_image (DropLabel l) now Before few short all m is = all m is
