-- The paths at which a copy puts something.
use Rattle.std.proofs.Common.{◌≡◌, ◌∙◌, ◌++◌, sym, ap, subst, refl, drop, length, List, ◌∷◌, Bool, true, false, cond, inl, inr, ◌⊎◌}
use Rattle.std.proofs.lemmas.List.{drop_at}
use Rattle.std.proofs.lemmas.Bool.{cases_Bool, or_cases, both_ways}
use Rattle.std.specs.List.{list_any}
use Rattle.std.specs.Ordering.{eq_by_cmp}
use Rattle.std.specs.Prelude.{is_some, ℕ, Option}
use mathlib.Core.Bool.{false≢true}
use Rattle.fsfs_base.specs.Paths.{Path, path_cmp, covers, same_path, paths_tie}
use Rattle.fsfs_tree.specs.Nodes.{Node, TreeFunction}
use Rattle.fsfs_model.specs.declared.flat.edit.Edit.{Edit}
use Rattle.fsfs_model.specs.declared.flat.edit.Edit.TheVariants.{MakeDir, MakeFile, Delete, Copy, PutText, SetProp}
use Rattle.fsfs_model.specs.Flat.Edits.{rest_after, with_node, with_copy, copied_node, with_text, with_prop, bytes_of, applied}
use Rattle.fsfs_base.proofs.PathLemmas.{covers-longer, split_at, same_path-is, same_path-refl}
use Rattle.fsfs_model.proofs.Filling.{same_path_is}
use Rattle.fsfs_model.proofs.Applied.{copied_some, away, left, in_place, with_text_some, with_prop_some}

abbrev pub puts : Edit → Bool
puts (MakeDir path) = true
puts (MakeFile path) = true
puts (Copy rev from to) = true
puts (Delete path) = false
puts (PutText path text) = false
puts (SetProp path name value) = false

pub put_there : (b old new : Bool) → new ≡ cond b true old → old ≡ true → new ≡ true
put_there b old new e h = e ∙ by b
  where
    by : (b : Bool) → cond b true old ≡ true
    by true = refl
    by false = h

-- one more source: what it was copied to is there now
pub added_or_left : (from to q source target : Path) (left rest : List Path) (new old : Bool) → left ≡ source ∷ rest → covers to q ≡ true → target ≡ to ++ drop (length from) source
    → new ≡ cond (eq_by_cmp path_cmp target q) true old
    → (old ≡ true) ⊎ (list_any (eq_by_cmp path_cmp (from ++ rest_after to q)) left ≡ true)
    → (new ≡ true) ⊎ (list_any (eq_by_cmp path_cmp (from ++ rest_after to q)) rest ≡ true)
added_or_left from to q source target left rest new old e h here now (inl there) = inl (put_there _ old new now there)
added_or_left from to q source target left rest new old e h here now (inr coming) = elim (or_cases _ _ (subst (λ xs. list_any (eq_by_cmp path_cmp (from ++ rest_after to q)) xs ≡ true) e coming)) [
  | inr w ↦ inr w
  | inl same ↦
      let is : source ≡ from ++ rest_after to q = sym (same_path_is _ _ same) in
      let at : target ≡ q = here ∙ ap (λ v. to ++ drop (length from) v) is ∙ ap (λ v. to ++ v) (drop_at from (rest_after to q) _ refl) ∙ split_at to q h in
      let tie : eq_by_cmp path_cmp target q ≡ true = ap (λ v. eq_by_cmp path_cmp v q) at ∙ sym (paths_tie q q) ∙ same_path-refl q in
      inl (now ∙ ap (λ b. cond b true old) tie)
]

-- a source that is not at or below where the copy is from
pub skipped : (from q rest_of source : Path) (left rest : List Path) (old : Bool) → left ≡ source ∷ rest → covers from source ≡ false
    → (old ≡ true) ⊎ (list_any (eq_by_cmp path_cmp (from ++ rest_of)) left ≡ true)
    → (old ≡ true) ⊎ (list_any (eq_by_cmp path_cmp (from ++ rest_of)) rest ≡ true)
skipped from q rest_of source left rest old e out (inl there) = inl there
skipped from q rest_of source left rest old e out (inr coming) = elim (or_cases _ _ (subst (λ xs. list_any (eq_by_cmp path_cmp (from ++ rest_of)) xs ≡ true) e coming)) [
  | inr w ↦ inr w
  | inl same ↦ absurd (both_ways _ out (subst (λ v. covers from v ≡ true) (same_path_is _ _ same) (covers-longer from rest_of)))
]

-- a path that an edit puts a node at
pub made_there : (t : TreeFunction) (p q : Path) (o : Option Node) (new old : Bool) → new ≡ cond (eq_by_cmp path_cmp p q) true old → is_some (with_node t p o q) ≡ true → is_some (t q) ≡ false → new ≡ true
made_there t p q o new old now h none = elim (cases_Bool (same_path q p)) [
  | inl same ↦
      let tie : eq_by_cmp path_cmp p q ≡ true = sym (paths_tie p q) ∙ ap (λ v. same_path p v) (same_path-is q p same) ∙ same_path-refl p in
      now ∙ ap (λ b. cond b true old) tie
  | inr other ↦ absurd (both_ways _ none (sym (ap (λ b. is_some (cond b o (t q))) other) ∙ h))
]

-- an edit that puts nothing new anywhere
pub nothing_new : (edit : Edit) (tree : ℕ → TreeFunction) (t : TreeFunction) (q : Path) → puts edit ≡ false → is_some (applied edit tree t q) ≡ true → is_some (t q) ≡ false → ⊥
nothing_new (MakeDir path) tree t q n h none = false≢true (sym n)
nothing_new (MakeFile path) tree t q n h none = false≢true (sym n)
nothing_new (Copy rev from to) tree t q n h none = false≢true (sym n)
nothing_new (Delete path) tree t q n h none = elim (cases_Bool (covers path q)) [
  | inl w ↦ both_ways _ (away t path q w) h
  | inr w ↦ both_ways _ none (sym (left t path q w) ∙ h)
]
nothing_new (PutText path text) tree t q n h none = both_ways _ none (sym (in_place t path (with_text text.items (t path)) (with_text_some text.items (t path)) q) ∙ h)
nothing_new (SetProp path name value) tree t q n h none = both_ways _ none (sym (in_place t path (with_prop name (bytes_of value) (t path)) (with_prop_some name (bytes_of value) (t path)) q) ∙ h)
