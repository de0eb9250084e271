-- Items by the texts of their paths, seen as a list.
use Rattle.std.proofs.Common.{◌≡◌, ℕ, List, [], ◌∷◌, refl, ap, map, Vec, Global, Bor, Option, Some, None, Bool, true, false, cond, ◌∙◌}
use Rattle.std.specs.Option.{option_copied, option_map}
use Rattle.std.specs.Cmp.Lexicographic.{slice_cmp}
use Rattle.std.specs.declared.cmp.Ordering.{Ordering}
use Rattle.std.specs.declared.cmp.Ordering.TheVariants.{Less, Equal, Greater}
use Rattle.std.specs.Ordering.{nat_cmp, match_ordering}
use Rattle.std.specs.BTreeMap.{insert_entry, is_at}
use Rattle.std.specs.Map.{lookup}
use Rattle.fsfs_base.specs.Paths.{Path, path_text}
use Rattle.fsfs_noderev.specs.declared.node_rev.CopySource.{CopySource}
use Rattle.fsfs_noderev.specs.declared.changes.item.ChangeItem.{ChangeItem}
use Rattle.fsfs_stands.specs.ChangedTexts.{ByText, in_order, source_value, source_at}

abbrev pub Key : Type 0
Key = Vec ℕ Global

abbrev pub plain : List (Key × ChangeItem) → ByText
plain es = map (λ e. (e.0.items, e.1)) es

abbrev pub key_cmp : Key → Key → Ordering
key_cmp x y = slice_cmp nat_cmp x.items y.items

pub put_plain : (es : List (Key × ChangeItem)) (k : Key) (v : ChangeItem) → plain (insert_entry key_cmp es k v) ≡ insert_entry (slice_cmp nat_cmp) (plain es) k.items v
put_plain [] k v = refl
put_plain (e ∷ es) k v = by (slice_cmp nat_cmp k.items e.0.items) (put_plain es k v)
  where
    by : (o : Ordering) → plain (insert_entry key_cmp es k v) ≡ insert_entry (slice_cmp nat_cmp) (plain es) k.items v
        → plain (match_ordering o ((k, v) ∷ e ∷ es) ((e.0, v) ∷ es) (e ∷ insert_entry key_cmp es k v))
        ≡ match_ordering o ((k.items, v) ∷ (e.0.items, e.1) ∷ plain es) ((e.0.items, v) ∷ plain es) ((e.0.items, e.1) ∷ insert_entry (slice_cmp nat_cmp) (plain es) k.items v)
    by Less rest = refl
    by Equal rest = refl
    by Greater rest = ap (λ xs. (e.0.items, e.1) ∷ xs) rest

found_plain : (es : List (Key × ChangeItem)) (name : List ℕ) → lookup (λ k. is_at (slice_cmp nat_cmp name) k.items) es ≡ lookup (is_at (slice_cmp nat_cmp name)) (plain es)
found_plain [] name = refl
found_plain (e ∷ es) name = by (is_at (slice_cmp nat_cmp name) e.0.items) (found_plain es name)
  where
    by : (b : Bool) → lookup (λ k. is_at (slice_cmp nat_cmp name) k.items) es ≡ lookup (is_at (slice_cmp nat_cmp name)) (plain es)
        → cond b (Some e.1) (lookup (λ k. is_at (slice_cmp nat_cmp name) k.items) es) ≡ cond b (Some e.1) (lookup (is_at (slice_cmp nat_cmp name)) (plain es))
    by true rest = refl
    by false rest = rest

module _ (es : List (Key × ChangeItem)) (p : Path) (name : List ℕ) (is : name ≡ path_text p) where
  item_is : lookup (λ k. is_at (slice_cmp nat_cmp name) k.items) es ≡ lookup (is_at (slice_cmp nat_cmp (path_text p))) (plain es)
  item_is = found_plain es name ∙ ap (λ (t : List ℕ). lookup (is_at (slice_cmp nat_cmp t)) (plain es)) is

  pub source_of_found : (o : Option ChangeItem) → o ≡ lookup (λ k. is_at (slice_cmp nat_cmp name) k.items) es → source_value o ≡ source_at (plain es) p
  source_of_found o e = ap source_value (e ∙ item_is)

-- what a reference to a source tells
pub through_source : (o : Option (Bor CopySource)) → option_map {U = ℕ × Path} (λ s. (s.now.rev, s.now.path)) o ≡ option_map {U = ℕ × Path} (λ (s : CopySource). (s.rev, s.path)) (option_copied o)
through_source None = refl
through_source (Some s) = refl

-- in the order of their texts
pub in_order_plain : (es : List (Key × ChangeItem)) → in_order (plain es) ≡ map (λ e. e.1) es
in_order_plain [] = refl
in_order_plain (e ∷ es) = ap (λ (items : List ChangeItem). e.1 ∷ items) (in_order_plain es)
