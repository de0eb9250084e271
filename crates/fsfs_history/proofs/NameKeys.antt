-- Entries by their names, as a map of bytes finds them.
use Rattle.std.proofs.Common.{◌≡◌, ℕ, List, [], ◌∷◌, refl, sym, ap, ◌∙◌, Bor, Option, Some, None, Bool, true, false, cond}
use Rattle.std.specs.Option.{option_copied, option_map}
use Rattle.std.specs.BTreeMap.{insert_entry}
use Rattle.std.specs.Cmp.Lexicographic.{slice_cmp}
use Rattle.std.specs.Ordering.{nat_cmp, match_ordering, is_eq}
use Rattle.std.specs.declared.cmp.Ordering.{Ordering}
use Rattle.std.specs.declared.cmp.Ordering.TheVariants.{Less, Equal, Greater}
use Rattle.std.specs.Str.{bytes_eq}
use Rattle.std.proofs.lemmas.Map.Lookups.{exact_bytes}
use Rattle.std.proofs.lemmas.Map.Text.{is_eq-slice_cmp}
use Rattle.std.proofs.lemmas.Slice.Eq.{bytes_eq-Decides}
use Rattle.fsfs_base.specs.Paths.{PathName, same_name}
use Rattle.fsfs_base.proofs.PathLemmas.{same_name-refl, same_name-is}
use Rattle.fsfs_revision.specs.Shows.Reading.{DirEntry as EntryValue}
use Rattle.fsfs_dag.specs.Views.{entry_value}
use Rattle.fsfs_dag.specs.declared.directory.DirEntry.{DirEntry}
use Rattle.fsfs_history.proofs.TextKeys.{Key, key_cmp}
use Rattle.fsfs_history.specs.KeptDirs.{found_in}

abbrev same_key : PathName → Key → Bool
same_key name key = is_eq (slice_cmp nat_cmp name key.items)

key_is : (name : PathName) (key : Key) → same_key name key ≡ true → name ≡ key.items
key_is name key h = (bytes_eq-Decides name key.items).0 (sym (is_eq-slice_cmp name key.items) ∙ h)

bools : (a b : Bool) → (a ≡ true → b ≡ true) → (b ≡ true → a ≡ true) → a ≡ b
bools true b f g = sym (f refl)
bools false true f g = g refl
bools false false f g = refl

-- the map's test of a key is the test of a name
pub key_test : (name : PathName) (key : Key) (of : PathName) → key.items ≡ of → same_key name key ≡ same_name of name
key_test name key of is =
    bools (same_key name key) (same_name of name)
    (λ h. ap (λ (n : PathName). same_name of n) (key_is name key h ∙ is) ∙ same_name-refl of)
    (λ h. is_eq-slice_cmp name key.items ∙ (bytes_eq-Decides name key.items).1 (sym (same_name-is of name h) ∙ sym is))

-- one more is found by its name, and the others as before
pub put_found : (name : PathName) (es : List (Key × DirEntry)) (k : Key) (v : DirEntry) → found_in name (insert_entry key_cmp es k v) ≡ cond (same_key name k) (Some v) (found_in name es)
put_found name [] k v = refl
put_found name (e ∷ es) k v = by (key_cmp k e.0) refl (put_found name es k v)
  where
    apart : (a b : Bool) (rest : Option DirEntry) → (a ≡ true → b ≡ true → ⊥) → cond b (Some e.1) (cond a (Some v) rest) ≡ cond a (Some v) (cond b (Some e.1) rest)
    apart true true rest never = absurd (never refl refl)
    apart true false rest never = refl
    apart false true rest never = refl
    apart false false rest never = refl

    once : (a b : Bool) (rest : Option DirEntry) → a ≡ b → cond b (Some v) rest ≡ cond a (Some v) (cond b (Some e.1) rest)
    once true true rest is = refl
    once true false rest is = absurd cc
    once false true rest is = absurd cc
    once false false rest is = refl

    by : (o : Ordering) → o ≡ key_cmp k e.0 → found_in name (insert_entry key_cmp es k v) ≡ cond (same_key name k) (Some v) (found_in name es)
        → found_in name (match_ordering o ((k, v) ∷ e ∷ es) ((e.0, v) ∷ es) (e ∷ insert_entry key_cmp es k v)) ≡ cond (same_key name k) (Some v) (cond (same_key name e.0) (Some e.1) (found_in name es))
    by Less is rest = refl
    by Equal is rest =
        let one : k.items ≡ e.0.items = exact_bytes k.items e.0.items (sym is) in
        once (same_key name k) (same_key name e.0) (found_in name es) (ap (λ (t : List ℕ). is_eq (slice_cmp nat_cmp name t)) one)
    by Greater is rest =
        ap (λ (o : Option DirEntry). cond (same_key name e.0) (Some e.1) o) rest
        ∙ apart (same_key name k) (same_key name e.0) (found_in name es)
        (λ a b. let one : k.items ≡ e.0.items = sym (key_is name k a) ∙ key_is name e.0 b in let test : false ≡ true = ap is_eq is ∙ is_eq-slice_cmp k.items e.0.items ∙ (bytes_eq-Decides k.items e.0.items).1 one in absurd cc)

-- the same, of what the entries are
pub put_value : (name : PathName) (es : List (Key × DirEntry)) (k : Key) (v : DirEntry) (of : PathName) → k.items ≡ of
    → option_map entry_value (found_in name (insert_entry key_cmp es k v)) ≡ cond (same_name of name) (Some (entry_value v)) (option_map entry_value (found_in name es))
put_value name es k v of is = ap (option_map entry_value) (put_found name es k v) ∙ of_either (same_key name k) ∙ ap (λ (b : Bool). cond b (Some (entry_value v)) (option_map entry_value (found_in name es))) (key_test name k of is)
  where
    of_either : (b : Bool) → option_map entry_value (cond b (Some v) (found_in name es)) ≡ cond b (Some (entry_value v)) (option_map entry_value (found_in name es))
    of_either true = refl
    of_either false = refl

-- what a reference to an entry tells
pub through_entry : (o : Option (Bor DirEntry)) → option_map {U = EntryValue} (λ e. entry_value e.now) o ≡ option_map {U = EntryValue} entry_value (option_copied o)
through_entry None = refl
through_entry (Some e) = refl
