-- Trees that are maps of finitely many paths.
use Rattle.std.proofs.Common.{◌≡◌, ◌∙◌, ℕ, List, [], ◌∷◌, ◌++◌, Bool, true, false, cond, ◌||◌, refl, sym, ap, subst, Option, Some, None, map}
use Rattle.std.specs.Prelude.{slice_get, is_some}
use Rattle.std.proofs.lemmas.Bool.{or_parts}
use Rattle.std.proofs.lemmas.List.Folds.{list_any-append}
use Rattle.std.proofs.Math.Seq.{drop-append_seam}
use Rattle.std.specs.List.{list_any}
use Rattle.std.specs.Ordering.{eq_by_cmp}
use Rattle.std.specs.Cmp.{eq_by_cmp_equiv}
use Rattle.std.specs.FinMap.{FinMap, get, insert, empty, keys, get-empty, get-insert, contains_key-keys}
use Rattle.fsfs_base.specs.Paths.{Path, path_cmp, path_cmp_total, paths_tie, covers}
use Rattle.fsfs_base.proofs.PathLemmas.{split_at}
use Rattle.fsfs_base.proofs.ResultLemmas.{none_of}
use Rattle.fsfs_base.specs.declared.kind.Kind.TheVariants.{File, Dir}
use Rattle.fsfs_tree.specs.Nodes.{Node, TreeFunction, empty_node}
use Rattle.fsfs_tree.specs.Revisions.{Revision, node_in, tree_of}
use Rattle.fsfs_model.specs.declared.flat.mark.Mark.{Mark}
use Rattle.fsfs_model.specs.Flat.Edits.{rest_after, with_node, without, with_copy, with_text, with_prop, copied_node}
use Rattle.fsfs_model.proofs.Filling.{same_path_is}
use Rattle.fsfs_script.specs.declared.job_lines.edit.Edit.{Edit}
use Rattle.fsfs_script.specs.declared.job_lines.edit.Edit.TheVariants.{MakeDir, MakeFile, Delete, Copy, Put, Prop}
use Rattle.fsfs_script.specs.declared.job_lines.job.Step.{Step}
use Rattle.fsfs_jobs.specs.Edits.{TakesSteps, edited, marks_of, with_file}
use Rattle.fsfs_job_run.specs.Serial.Trees.{EditedTreesAreMaps}

-- the path is among these
abbrev among : List Path → Path → Bool
among ks q = list_any (eq_by_cmp path_cmp q) ks

-- nothing stands at other paths than these
abbrev Within : List Path → TreeFunction → Type 0
Within ks t = (q : Path) → among ks q ≡ false → t q ≡ None

-- nothing stands beside finitely many paths
abbrev IsFinite : TreeFunction → Type 0
IsFinite t = (ks : List Path) × Within ks t

-- ---- a map of it

abbrev with_at : Path → Option Node → FinMap path_cmp Node → FinMap path_cmp Node
with_at k None m = m
with_at k (Some n) m = insert m k n

abbrev filled : List Path → TreeFunction → FinMap path_cmp Node
filled [] t = empty
filled (k ∷ ks) t = with_at k (t k) (filled ks t)

none_either : (b : Bool) (o : Option Node) → o ≡ None → cond b o None ≡ None
none_either true o e = e
none_either false o e = refl

got_filled : (t : TreeFunction) (ks : List Path) (q : Path) → get (filled ks t) q ≡ cond (among ks q) (t q) None
got_filled t [] q = get-empty path_cmp q
got_filled t (k ∷ ks) q = step (got_filled t ks q) (t k) refl (eq_by_cmp path_cmp q k) refl
  where
    step : get (filled ks t) q ≡ cond (among ks q) (t q) None → (o : Option Node) → t k ≡ o → (b : Bool) → eq_by_cmp path_cmp q k ≡ b → get (with_at k o (filled ks t)) q ≡ cond (b || among ks q) (t q) None
    step rest None e false at = rest
    step rest None e true at = let nothing = ap t (same_path_is q k at) ∙ e in rest ∙ none_either (among ks q) (t q) nothing ∙ sym nothing
    step rest (Some n) e false at = get-insert path_cmp_total (filled ks t) k n q ∙ ap (λ b. cond b (Some n) (get (filled ks t) q)) at ∙ rest
    step rest (Some n) e true at = get-insert path_cmp_total (filled ks t) k n q ∙ ap (λ b. cond b (Some n) (get (filled ks t) q)) at ∙ sym e ∙ ap t (sym (same_path_is q k at))

map_of : (t : TreeFunction) → IsFinite t → (m : FinMap path_cmp Node) × (get m ≡ t)
map_of t f = (filled f.0 t, λ i q. at q i)
  where
    whole : (q : Path) (b : Bool) → among f.0 q ≡ b → cond b (t q) None ≡ t q
    whole q true e = refl
    whole q false e = sym (f.1 q e)

    at : (q : Path) → get (filled f.0 t) q ≡ t q
    at q = got_filled t f.0 q ∙ whole q (among f.0 q) refl

-- ---- the trees of revisions

finite_in : (o : Option Revision) → IsFinite (node_in o)
finite_in None = ([], λ q out. refl)
finite_in (Some r) = (keys r.tree, λ q out. none_of (get r.tree q) (contains_key-keys r.tree q ∙ out))

finite_of : (h : List Revision) (r : ℕ) → IsFinite (tree_of h r)
finite_of h r = finite_in (slice_get h r)

-- ---- edits

with_finite : (t : TreeFunction) (p : Path) (node : Option Node) → IsFinite t → IsFinite (with_node t p node)
with_finite t p node f = (
  p ∷ f.0,
  λ q out.
      let parts = or_parts (eq_by_cmp path_cmp q p) (among f.0 q) out in
      ap (λ b. cond b node (t q)) (paths_tie q p ∙ parts.0) ∙ f.1 q parts.1,
)

without_finite : (t : TreeFunction) (p : Path) → IsFinite t → IsFinite (without t p)
without_finite t p f = (f.0, λ q out. by q out (covers p q))
  where
    by : (q : Path) → among f.0 q ≡ false → (b : Bool) → cond b None (t q) ≡ None
    by q out true = refl
    by q out false = f.1 q out

same_self : (p : Path) → eq_by_cmp path_cmp p p ≡ true
same_self p = (eq_by_cmp_equiv path_cmp_total).refl p

among_more : (g : Path → Path) (ks : List Path) (p k : Path) → (among ks p ≡ true → among (map g ks) (g p) ≡ true) → (b : Bool) → eq_by_cmp path_cmp p k ≡ b → (b || among ks p) ≡ true → (eq_by_cmp path_cmp (g p) (g k) || among (map g ks) (g p)) ≡ true
among_more g ks p k more true at w = ap (λ b. b || among (map g ks) (g p)) (ap (λ (z : Path). eq_by_cmp path_cmp (g p) (g z)) (sym (same_path_is p k at)) ∙ same_self (g p))
among_more g ks p k more false at w = or_true (eq_by_cmp path_cmp (g p) (g k)) (among (map g ks) (g p)) (more w)
  where
    or_true : (a b : Bool) → b ≡ true → (a || b) ≡ true
    or_true true b e = refl
    or_true false b e = e

among_map : (g : Path → Path) (ks : List Path) (p : Path) → among ks p ≡ true → among (map g ks) (g p) ≡ true
among_map g [] p e = absurd cc
among_map g (k ∷ ks) p e = among_more g ks p k (among_map g ks p) (eq_by_cmp path_cmp p k) refl e

copied_none : (r : ℕ) (p : Path) (o : Option Node) → o ≡ None → copied_node r p o ≡ None
copied_none r p o e = ap (λ (o : Option Node). copied_node r p o) e

copy_finite : (t : TreeFunction) (r : ℕ) (of : TreeFunction) (from to : Path) → IsFinite t → IsFinite of → IsFinite (with_copy t r of from to)
copy_finite t r of from to f s = (f.0 ++ map moved s.0, λ q out. by q (or_parts (among f.0 q) (among (map moved s.0) q) (sym (list_any-append (eq_by_cmp path_cmp q) f.0 (map moved s.0)) ∙ out)) (covers to q) refl)
  where
    moved : Path → Path
    moved p = to ++ rest_after from p

    back : (q : Path) → covers to q ≡ true → moved (from ++ rest_after to q) ≡ q
    back q c = ap (λ (z : Path). to ++ z) (drop-append_seam from (rest_after to q)) ∙ split_at to q c

    outside : (q : Path) → covers to q ≡ true → among (map moved s.0) q ≡ false → (b : Bool) → among s.0 (from ++ rest_after to q) ≡ b → b ≡ false
    outside q c out false e = refl
    outside q c out true e =
        let here : among (map moved s.0) q ≡ true = subst (λ (z : Path). among (map moved s.0) z ≡ true) (back q c) (among_map moved s.0 (from ++ rest_after to q) e) in
        let no : true ≡ false = sym here ∙ out in
        absurd cc

    by : (q : Path) → (among f.0 q ≡ false) × (among (map moved s.0) q ≡ false) → (b : Bool) → covers to q ≡ b → cond b (copied_node r (from ++ rest_after to q) (of (from ++ rest_after to q))) (t q) ≡ None
    by q out true c = copied_none r (from ++ rest_after to q) (of (from ++ rest_after to q)) (s.1 (from ++ rest_after to q) (let p = from ++ rest_after to q in let e = outside q c out.1 (among s.0 p) refl in e))
    by q out false c = f.1 q out.0

file_finite : (t : TreeFunction) (p : Path) → IsFinite t → IsFinite (with_file t p)
file_finite t p f = by (is_some (t p))
  where
    by : (b : Bool) → IsFinite (cond b t (with_node t p (Some (empty_node File))))
    by true = f
    by false = with_finite t p (Some (empty_node File)) f

edit_finite : (edit : Edit) (trees : ℕ → TreeFunction) (t : TreeFunction) → ((r : ℕ) → IsFinite (trees r)) → IsFinite t → IsFinite (edited edit trees t)
edit_finite (MakeDir path) trees t all f = with_finite t path (Some (empty_node Dir)) f
edit_finite (MakeFile path) trees t all f = with_finite t path (Some (empty_node File)) f
edit_finite (Delete path) trees t all f = without_finite t path f
edit_finite (Copy copy) trees t all f = copy_finite t copy.rev (trees copy.rev) copy.from copy.to f (all copy.rev)
edit_finite (Put put) trees t all f = with_finite (with_file t put.path) put.path (with_text put.text (with_file t put.path put.path)) (file_finite t put.path f)
edit_finite (Prop set) trees t all f = with_finite t set.path (with_prop set.name set.value (t set.path)) f

steps_finite : (trees : ℕ → TreeFunction) (last : ℕ) (steps : List Step) (t u : TreeFunction) (marks now : List Mark) → ((r : ℕ) → IsFinite (trees r)) → IsFinite t → TakesSteps trees last t marks steps u now → IsFinite u
steps_finite trees last [] t u marks now all f takes = subst IsFinite (sym takes.0) f
steps_finite trees last (step ∷ steps) t u marks now all f takes =
    steps_finite trees last steps (edited step.edit trees t) u (marks ++ marks_of step.edit trees t) now all (edit_finite step.edit trees t all f) takes.1

pub edited_maps : EditedTreesAreMaps
edited_maps h last base steps t marks takes = map_of t (steps_finite (tree_of h) last steps (tree_of h base) t [] marks (finite_of h) (finite_of h base) takes)
