-- Entries as they lie in memory.
use Rattle.std.proofs.Common.{◌≡◌, ◌<◌, ◌+◌, ℕ, Bool, true, false, cond, List, [], ◌∷◌, ◌++◌, take, drop, length, get_or, refl, sym, ap, ◌∙◌, append_assoc}
use Rattle.std.specs.List.{filter}
use Rattle.std.specs.String.{string_bytes}
use Rattle.std.proofs.lemmas.List.{take_more, map-append, take-append-drop}
use Rattle.fsfs_base.specs.Paths.{PathName}
use Rattle.fsfs_revision.specs.Shows.Reading.{DirEntry}
use Rattle.fsfs_dag.specs.declared.directory.DirEntry.{DirEntry as ListedEntry}
use Rattle.fsfs_dag.specs.Views.{entry_value, entry_values}
use Rattle.fsfs_dag.specs.Listing.Lists.{kept_names}

value_one : (b : Bool) (e : ListedEntry) (F : List ListedEntry) (G : List DirEntry) → entry_values F ≡ G → entry_values (cond b (e ∷ F) F) ≡ cond b (entry_value e ∷ G) G
value_one true e F G h = ap (λ (t : List DirEntry). entry_value e ∷ t) h
value_one false e F G h = h

pub values_kept : (is : PathName → Bool) (es : List ListedEntry) → entry_values (filter (λ (e : ListedEntry). is (string_bytes e.name)) es) ≡ kept_names is (entry_values es)
values_kept is [] = refl
values_kept is (e ∷ es) = value_one (is (string_bytes e.name)) e (filter (λ (e : ListedEntry). is (string_bytes e.name)) es) (kept_names is (entry_values es)) (values_kept is es)

pub values_push : (all : List ListedEntry) (e : ListedEntry) → entry_values (all ++ e ∷ []) ≡ entry_values all ++ entry_value e ∷ []
values_push all e = map-append entry_value all (e ∷ [])

-- the entries in two parts
pub values_parts : (i : ℕ) (all : List ListedEntry) → entry_values (take i all) ++ entry_values (drop i all) ≡ entry_values all
values_parts i all = sym (map-append entry_value (take i all) (drop i all)) ∙ ap (λ (t : List ListedEntry). entry_values t) (take-append-drop i all)

-- and with one more between them
pub values_insert : (i : ℕ) (all : List ListedEntry) (e : ListedEntry) → entry_values (take i all ++ e ∷ drop i all) ≡ entry_values (take i all) ++ entry_value e ∷ entry_values (drop i all)
values_insert i all e = map-append entry_value (take i all) (e ∷ drop i all)

-- a copy of the next entry
pub copies_more : (before all more es : List ListedEntry) (i : ℕ) (x e : ListedEntry) → entry_values all ≡ entry_values before ++ entry_values (take i es) → more ≡ all ++ x ∷ [] → entry_value x ≡ entry_value e → i < length es → e ≡ get_or es i e
    → entry_values more ≡ entry_values before ++ entry_values (take (i + 1) es)
copies_more before all more es i x e so push copy within is =
    ap (λ (t : List ListedEntry). entry_values t) push ∙ values_push all x
    ∙ (λ j. so j ++ copy j ∷ [])
    ∙ append_assoc (entry_values before) (entry_values (take i es)) (entry_value e ∷ [])
    ∙ ap (λ (t : List DirEntry). entry_values before ++ t) (sym (values_push (take i es) e) ∙ ap (λ (t : List ListedEntry). entry_values t) (ap (λ (y : ListedEntry). take i es ++ y ∷ []) is ∙ sym (take_more es i e within)))
