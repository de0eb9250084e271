-- Pairs of bytes, seen as a list.
use Rattle.std.proofs.Common.{◌≡◌, ℕ, List, [], ◌∷◌, refl, ap, map, Vec, Global, Bor, Option, Some, None, Bool, true, false, cond}
use Rattle.std.specs.Option.{option_copied, option_map}
use Rattle.std.specs.Cmp.Lexicographic.{slice_cmp}
use Rattle.std.specs.declared.cmp.Ordering.{Ordering}
use Rattle.std.specs.declared.cmp.Ordering.TheVariants.{Less, Equal, Greater}
use Rattle.std.specs.Ordering.{nat_cmp, match_ordering}
use Rattle.std.specs.BTreeMap.{insert_entry, is_at}
use Rattle.std.specs.Map.{lookup, remove_entry}

abbrev pub Bytes : Type 0
Bytes = Vec ℕ Global

abbrev pub plain : List (Bytes × Bytes) → List (List ℕ × List ℕ)
plain es = map (λ p. (p.0.items, p.1.items)) es

abbrev pub key_cmp : Bytes → Bytes → Ordering
key_cmp x y = slice_cmp nat_cmp x.items y.items

pub set_plain : (es : List (Bytes × Bytes)) (k v : Bytes) → plain (insert_entry key_cmp es k v) ≡ insert_entry (slice_cmp nat_cmp) (plain es) k.items v.items
set_plain [] k v = refl
set_plain (e ∷ es) k v = by (slice_cmp nat_cmp k.items e.0.items) (set_plain es k v)
  where
    by : (o : Ordering) → plain (insert_entry key_cmp es k v) ≡ insert_entry (slice_cmp nat_cmp) (plain es) k.items v.items
        → plain (match_ordering o ((k, v) ∷ e ∷ es) ((e.0, v) ∷ es) (e ∷ insert_entry key_cmp es k v))
        ≡ match_ordering o ((k.items, v.items) ∷ (e.0.items, e.1.items) ∷ plain es) ((e.0.items, v.items) ∷ plain es) ((e.0.items, e.1.items) ∷ insert_entry (slice_cmp nat_cmp) (plain es) k.items v.items)
    by Less rest = refl
    by Equal rest = refl
    by Greater rest = ap (λ xs. (e.0.items, e.1.items) ∷ xs) rest

pub removed_plain : (es : List (Bytes × Bytes)) (name : List ℕ) → plain (remove_entry (λ k. is_at (slice_cmp nat_cmp name) k.items) es) ≡ remove_entry (is_at (slice_cmp nat_cmp name)) (plain es)
removed_plain [] name = refl
removed_plain (e ∷ es) name = by (is_at (slice_cmp nat_cmp name) e.0.items) (removed_plain es name)
  where
    by : (b : Bool) → plain (remove_entry (λ k. is_at (slice_cmp nat_cmp name) k.items) es) ≡ remove_entry (is_at (slice_cmp nat_cmp name)) (plain es)
        → plain (cond b es (e ∷ remove_entry (λ k. is_at (slice_cmp nat_cmp name) k.items) es)) ≡ cond b (plain es) ((e.0.items, e.1.items) ∷ remove_entry (is_at (slice_cmp nat_cmp name)) (plain es))
    by true rest = refl
    by false rest = ap (λ xs. (e.0.items, e.1.items) ∷ xs) rest

pub found_plain : (es : List (Bytes × Bytes)) (name : List ℕ) → option_map {U = List ℕ} (λ v. v.items) (lookup (λ k. is_at (slice_cmp nat_cmp name) k.items) es) ≡ lookup (is_at (slice_cmp nat_cmp name)) (plain es)
found_plain [] name = refl
found_plain (e ∷ es) name = by (is_at (slice_cmp nat_cmp name) e.0.items) (found_plain es name)
  where
    by : (b : Bool) → option_map {U = List ℕ} (λ v. v.items) (lookup (λ k. is_at (slice_cmp nat_cmp name) k.items) es) ≡ lookup (is_at (slice_cmp nat_cmp name)) (plain es)
        → option_map {U = List ℕ} (λ v. v.items) (cond b (Some e.1) (lookup (λ k. is_at (slice_cmp nat_cmp name) k.items) es)) ≡ cond b (Some e.1.items) (lookup (is_at (slice_cmp nat_cmp name)) (plain es))
    by true rest = refl
    by false rest = rest

pub through_reference : (o : Option (Bor Bytes)) → option_map {U = List ℕ} (λ r. r.now.items) o ≡ option_map {U = List ℕ} (λ v. v.items) (option_copied o)
through_reference None = refl
through_reference (Some r) = refl
