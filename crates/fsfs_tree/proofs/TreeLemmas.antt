-- A tree as a map, and the entries that it is kept in.
use Rattle.std.proofs.Common.{◌≡◌, List, [], ◌∷◌, refl, sym, ap, ◌∙◌, Some, cond}
use Rattle.std.specs.Cmp.{eq_by_cmp_equiv}
use Rattle.std.specs.FinMap.Entries.{by_order, put}
use Rattle.std.specs.List.{AllByRecursion}
use Rattle.std.specs.List.Sorted.{IsStrictlySortedBy}
use Rattle.std.specs.Map.{keys_of}
use Rattle.std.specs.declared.cmp.Ordering.TheVariants.{Less}
use Rattle.std.proofs.lemmas.List.{nil_from_length}
use Rattle.std.proofs.lemmas.Map.Keys.{sorted_head, sorted_tail}
use Rattle.std.specs.FinMap.{entries, entries-insert, empty, len-entries, len-empty, get, insert, find, from_entries, get-from_entries, get-insert, same_map, IsAntisymmetric, slice_cmp-IsAntisymmetric, nat_cmp-IsAntisymmetric}
use Rattle.std.specs.BTreeMap.{is_at}
use Rattle.std.specs.Ordering.{eq_by_cmp}
use Rattle.std.specs.Map.{lookup}
use Rattle.fsfs_base.specs.Paths.{Path, path_cmp, path_cmp_total}

pub exact_paths : IsAntisymmetric path_cmp
exact_paths = slice_cmp-IsAntisymmetric (slice_cmp-IsAntisymmetric nat_cmp-IsAntisymmetric)

find_is : {X : Type 0} (es : List (Path × X)) (q : Path) → find path_cmp q es ≡ lookup (is_at (path_cmp q)) es
find_is [] q = refl
find_is (e ∷ es) q = ap (cond (is_at (path_cmp q) e.0) (Some e.1)) (find_is es q)

-- what the map of the entries has at a path
pub get_is : {X : Type 0} (es : List (Path × X)) (q : Path) → get (from_entries {R = path_cmp} es) q ≡ lookup (is_at (path_cmp q)) es
get_is es q = get-from_entries path_cmp_total es q ∙ find_is es q

-- entries that differ at one path make maps that differ there
pub one_put : {X : Type 0} (es fs : List (Path × X)) (p : Path) (n : X) → ((q : Path) → lookup (is_at (path_cmp q)) fs ≡ cond (is_at (path_cmp p) q) (Some n) (lookup (is_at (path_cmp q)) es)) → from_entries {R = path_cmp} fs ≡ insert (from_entries es) p n
one_put es fs p n h = same_map path_cmp_total exact_paths _ _ (λ q.
    get_is fs q ∙ h q ∙ ap (λ b. cond b (Some n) (lookup (is_at (path_cmp q)) es)) ((eq_by_cmp_equiv path_cmp_total).symm p q)
    ∙ sym (get-insert path_cmp_total (from_entries es) p n q ∙ ap (cond (eq_by_cmp path_cmp q p) (Some n)) (get_is es q)))

-- a map made of entries in order has just these
pub entries_is : {X : Type 0} (es : List (Path × X)) → IsStrictlySortedBy path_cmp (keys_of es) → entries (from_entries {R = path_cmp} es) ≡ es
entries_is [] h = nil_from_length _ (sym (len-entries (empty {R = path_cmp})) ∙ len-empty path_cmp _)
entries_is (e ∷ es) h =
    entries-insert path_cmp_total (from_entries es) e.0 e.1
    ∙ ap (put path_cmp e.0 e.1) (entries_is es (sorted_tail path_cmp e.0 (keys_of es) h))
    ∙ first_put e es (sorted_head path_cmp e.0 (keys_of es) h)
  where
    first_put : {X : Type 0} (e : Path × X) (es : List (Path × X)) → AllByRecursion (λ y. path_cmp e.0 y ≡ Less) (keys_of es) → put path_cmp e.0 e.1 es ≡ e ∷ es
    first_put e [] h = refl
    first_put e (f ∷ es) h = ap (λ o. by_order o (e ∷ f ∷ es) ((f.0, e.1) ∷ es) (f ∷ put path_cmp e.0 e.1 es)) h.0
