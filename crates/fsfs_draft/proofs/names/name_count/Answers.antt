use Rattle.std.proofs.Common.{◌≡◌, ◌+◌, ℕ, Bool, true, false, not, ◌||◌, cond, Some, List, [], ◌∷◌, ◌++◌, take, refl, sym, ap, subst, ◌∙◌, arith}
use Rattle.std.specs.Prelude.{is_some}
use Rattle.std.specs.List.{list_any}
use Rattle.std.specs.String.{string_bytes}
use Rattle.std.specs.BTreeMap.{is_at}
use Rattle.std.specs.BTreeSet as set
use Rattle.std.specs.Ordering.{eq_by_cmp}
use Rattle.std.proofs.lemmas.List.{take_all}
use Rattle.std.proofs.lemmas.List.Folds.{list_any_more}
use Rattle.fsfs_base.specs.Paths.{PathName, Path, path_cmp, same_name, paths_tie}
use Rattle.fsfs_revision.specs.Shows.Reading.{named}
use Rattle.fsfs_dag.specs.declared.directory.DirEntry.{DirEntry}
use Rattle.fsfs_dag.specs.Views.{entry_value, entry_values}
use Rattle.fsfs_draft.specs.Names.{CountsNames}
use Rattle.fsfs_draft.proofs.Counting.{no_names, held_alike, one_more, one_name}
use Rattle.fsfs_draft.proofs.names.name_count.Goals as goal

-- an entry of the name
named_any : (x : PathName) (es : List DirEntry) → list_any (λ (e : DirEntry). same_name (string_bytes e.name) x) es ≡ is_some (named x (entry_values es))
named_any x [] = refl
named_any x (e ∷ es) = by (same_name (string_bytes e.name) x) (named_any x es)
  where
    by : (b : Bool) → list_any (λ (d : DirEntry). same_name (string_bytes d.name) x) es ≡ is_some (named x (entry_values es)) → (b || list_any (λ (d : DirEntry). same_name (string_bytes d.name) x) es) ≡ is_some (cond b (Some (entry_value e)) (named x (entry_values es)))
    by true rest = refl
    by false rest = rest

turned : (a b : Bool) → cond a true b ≡ (b || a)
turned true true = refl
turned true false = refl
turned false true = refl
turned false false = refl

added_one : (b added : Bool) (m n : ℕ) → added ≡ not b → n ≡ m + cond added 1 0 → m + cond b 0 1 ≡ n
added_one true added m n is e = let h = ap (λ (c : Bool). m + cond c 1 0) is in omega (arith, h, e)
added_one false added m n is e = let h = ap (λ (c : Bool). m + cond c 1 0) is in omega (arith, h, e)

pub loop-entry-init : goal.loop-entry-init
loop-entry-init c =
    let empty = c.new-seen.result in
    let none : (x : PathName) → false ≡ set.contains path_cmp empty (x ∷ []) = λ x. ap (λ (paths : List Path). list_any (is_at (path_cmp (x ∷ []))) paths) (sym c.new-seen.ensures.empty) in
    record {
      counts = subst (λ (n : ℕ). CountsNames (λ (x : PathName). set.contains path_cmp empty (x ∷ [])) n) (sym c.new-seen.ensures.len) (held_alike (λ (x : PathName). false) (λ (x : PathName). set.contains path_cmp empty (x ∷ [])) 0 none no_names);
      told = λ x. sym (none x);
    }

pub loop-entry-preserved : goal.loop-entry-preserved
loop-entry-preserved c =
    let old = c.loop-entry.seen in
    let new = c.insert.new.self in
    let name = string_bytes c.entry-item.result.name in
    let path : c.in_ok-path.path ≡ name ∷ [] = c.in_ok-path.ensures ∙ (λ i. c.root.ensures i ++ c.as_str.ensures.value i ∷ []) in
    let updates : (x : PathName) → set.contains path_cmp new (x ∷ []) ≡ cond (same_name name x) true (set.contains path_cmp old (x ∷ [])) = λ x.
    c.in_ok-insert.ensures.updates.0 (x ∷ []) ∙ ap (λ (p : Path). cond (eq_by_cmp path_cmp p (x ∷ [])) true (set.contains path_cmp old (x ∷ []))) path
    ∙ ap (λ (b : Bool). cond b true (set.contains path_cmp old (x ∷ []))) (sym (paths_tie (name ∷ []) (x ∷ [])) ∙ one_name name x) in
    record {
      counts = subst (λ (n : ℕ). CountsNames (λ (x : PathName). set.contains path_cmp new (x ∷ [])) n)
          (added_one (set.contains path_cmp old (name ∷ [])) c.in_ok-insert.field-0 (set.btree_set_len old) (set.btree_set_len new) (c.in_ok-insert.ensures.added ∙ ap (λ (p : Path). not (set.contains path_cmp old p)) path) c.in_ok-insert.ensures.len)
          (one_more (λ (x : PathName). set.contains path_cmp old (x ∷ [])) (λ (x : PathName). set.contains path_cmp new (x ∷ [])) (set.btree_set_len old) name c.loop-entry.invariant.counts updates);
      told = λ x. updates x ∙ turned (same_name name x) (set.contains path_cmp old (x ∷ [])) ∙ (λ i. c.loop-entry.invariant.told x i || same_name (string_bytes (c.entry-item.is i).name) x)
          ∙ sym (list_any_more (λ (e : DirEntry). same_name (string_bytes e.name) x) c.args.entries.now c.loop-entry.entry-index c.entry-item.result c.loop-entry-test.true);
    }

pub returns : goal.returns
returns c =
    let entries = c.args.entries.now in
    let seen = c.loop-entry.seen in
    let all : take c.loop-entry.entry-index entries ≡ entries = take_all c.loop-entry.entry-index entries (omega (arith, c.loop-entry-test.false)) in
    let alike : (x : PathName) → set.contains path_cmp seen (x ∷ []) ≡ is_some (named x (entry_values entries)) = λ x.
    c.loop-entry.invariant.told x ∙ ap (λ (es : List DirEntry). list_any (λ (e : DirEntry). same_name (string_bytes e.name) x) es) all ∙ named_any x entries in
    subst (λ (n : ℕ). CountsNames (λ (x : PathName). is_some (named x (entry_values entries))) n) (sym c.len.ensures.len)
    (held_alike (λ (x : PathName). set.contains path_cmp seen (x ∷ [])) (λ (x : PathName). is_some (named x (entry_values entries))) (set.btree_set_len seen) alike c.loop-entry.invariant.counts)
