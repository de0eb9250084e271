-- Maps of what a function of paths gives: a landed tree, and the changed paths that marks come to.
use Rattle.std.proofs.Common.{◌≡◌, ℕ, List, [], ◌∷◌, ◌++◌, Bool, true, false, cond, ◌||◌, refl, sym, ap, ◌∙◌, Option, Some, None}
use Rattle.std.specs.Prelude.{map}
use Rattle.std.proofs.lemmas.Bool.{or_parts}
use Rattle.std.proofs.lemmas.List.Folds.{list_any-append}
use Rattle.std.specs.List.{list_any}
use Rattle.std.specs.Ordering.{eq_by_cmp}
use Rattle.std.specs.Cmp.{eq_by_cmp_equiv}
use Rattle.std.specs.FinMap.{FinMap, get, insert, empty, keys, get-empty, get-insert, contains_key-keys}
use Rattle.fsfs_base.specs.Paths.{Path, path_cmp, path_cmp_total, paths_tie, same_path}
use Rattle.fsfs_base.proofs.ResultLemmas.{none_of}
use Rattle.fsfs_tree.specs.declared.change_map.Change.{Change}
use Rattle.fsfs_tree.specs.Nodes.{Node}
use Rattle.fsfs_model.specs.declared.flat.mark.Mark.{Mark}
use Rattle.fsfs_model.specs.Flat.Marks.{effects}
use Rattle.fsfs_model.specs.Flat.Landing.{land, landed_at}
use Rattle.fsfs_model.specs.Flat.Folding.{fold}
use Rattle.fsfs_model.proofs.Filling.{same_path_is}
use Rattle.fsfs_model.proofs.FoldLemmas.{unmarked}

abbrev with_at : {X : Type 0} → Path → Option X → FinMap path_cmp X → FinMap path_cmp X
with_at k None m = m
with_at k (Some n) m = insert m k n

-- what f gives at these paths
abbrev filled : {X : Type 0} → List Path → (Path → Option X) → FinMap path_cmp X
filled [] f = empty
filled (k ∷ ks) f = with_at k (f k) (filled ks f)

none_either : {X : Type 0} (b : Bool) (o : Option X) → o ≡ None → cond b o None ≡ None
none_either true o e = e
none_either false o e = refl

got_filled : {X : Type 0} (f : Path → Option X) (ks : List Path) (q : Path) → get (filled ks f) q ≡ cond (list_any (eq_by_cmp path_cmp q) ks) (f q) None
got_filled f [] q = get-empty path_cmp q
got_filled {X} f (k ∷ ks) q = step (got_filled f ks q) (f k) refl (eq_by_cmp path_cmp q k) refl
  where
    step : get (filled ks f) q ≡ cond (list_any (eq_by_cmp path_cmp q) ks) (f q) None → (o : Option X) → f k ≡ o → (b : Bool) → eq_by_cmp path_cmp q k ≡ b
        → get (with_at k o (filled ks f)) q ≡ cond (b || list_any (eq_by_cmp path_cmp q) ks) (f q) None
    step rest None e false at = rest
    step rest None e true at = let nothing = ap f (same_path_is q k at) ∙ e in rest ∙ none_either (list_any (eq_by_cmp path_cmp q) ks) (f q) nothing ∙ sym nothing
    step rest (Some n) e false at = get-insert path_cmp_total (filled ks f) k n q ∙ ap (λ b. cond b (Some n) (get (filled ks f) q)) at ∙ rest
    step rest (Some n) e true at = get-insert path_cmp_total (filled ks f) k n q ∙ ap (λ b. cond b (Some n) (get (filled ks f) q)) at ∙ sym e ∙ ap f (sym (same_path_is q k at))

filled_is : {X : Type 0} (f : Path → Option X) (ks : List Path) → ((q : Path) → list_any (eq_by_cmp path_cmp q) ks ≡ false → f q ≡ None) → (q : Path) → get (filled ks f) q ≡ f q
filled_is f ks outside q = got_filled f ks q ∙ whole (list_any (eq_by_cmp path_cmp q) ks) refl
  where
    whole : (b : Bool) → list_any (eq_by_cmp path_cmp q) ks ≡ b → cond b (f q) None ≡ f q
    whole true e = refl
    whole false e = sym (outside q e)

-- ---- a landed tree

pub landed_tree : FinMap path_cmp Node → FinMap path_cmp Node → FinMap path_cmp Node → List Mark → ℕ → FinMap path_cmp Node
landed_tree a s t marks n = filled (keys a ++ (keys s ++ keys t)) (land (get a) (get s) (get t) marks n)

pub landed_tree_is : (a s t : FinMap path_cmp Node) (marks : List Mark) (n : ℕ) (q : Path) → get (landed_tree a s t marks n) q ≡ land (get a) (get s) (get t) marks n q
unfolding landed_tree
landed_tree_is a s t marks n q = filled_is (land (get a) (get s) (get t) marks n) (keys a ++ (keys s ++ keys t)) (λ p out.
    let one = or_parts (list_any (eq_by_cmp path_cmp p) (keys a)) (list_any (eq_by_cmp path_cmp p) (keys s ++ keys t)) (sym (list_any-append (eq_by_cmp path_cmp p) (keys a) (keys s ++ keys t)) ∙ out) in
    let two = or_parts (list_any (eq_by_cmp path_cmp p) (keys s)) (list_any (eq_by_cmp path_cmp p) (keys t)) (sym (list_any-append (eq_by_cmp path_cmp p) (keys s) (keys t)) ∙ one.1) in
    λ i. landed_at n (effects marks p) (none_of (get a p) (contains_key-keys a p ∙ one.0) i) (none_of (get s p) (contains_key-keys s p ∙ two.0) i) (none_of (get t p) (contains_key-keys t p ∙ two.1) i)) q

-- ---- changed paths

abbrev paths_of : List Mark → List Path
paths_of marks = map (λ (m : Mark). m.path) marks

at_marks : (marks : List Mark) (q : Path) → list_any (λ (m : Mark). same_path m.path q) marks ≡ list_any (eq_by_cmp path_cmp q) (paths_of marks)
at_marks [] q = refl
at_marks (m ∷ ms) q = λ i. (paths_tie m.path q ∙ (eq_by_cmp_equiv path_cmp_total).symm m.path q) i || at_marks ms q i

pub folded_changes : List Mark → FinMap path_cmp Change
folded_changes marks = filled (paths_of marks) (fold marks)

pub folded_changes_are : (marks : List Mark) (q : Path) → get (folded_changes marks) q ≡ fold marks q
unfolding folded_changes
folded_changes_are marks q = filled_is (fold marks) (paths_of marks) (λ p out. unmarked marks p (at_marks marks p ∙ out)) q
