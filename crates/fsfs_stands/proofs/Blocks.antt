-- The entries of a tree at a path and below it, in the order of their paths: the node at the path, and behind it those of each child.
use Rattle.std.proofs.Common.{◌≡◌, Bool, true, false, cond, ◌&&◌, not, T, List, [], ◌∷◌, ◌++◌, Option, Some, None, is_some, refl, sym, ap, subst, ◌∙◌, append_assoc, append-nil, drop, length, Ordering, Less, Equal, Greater, is_eq, flat_map}
use Rattle.std.proofs.lemmas.Bool.{and_from, false_from_ne_true, and_parts, both_ways, not-true}
use Rattle.std.specs.List.{AllByRecursion}
use Rattle.std.specs.Option.{option_or}
use Rattle.std.specs.Ordering.{eq_by_cmp, ordering_then}
use Rattle.std.specs.Cmp.{tied_itself}
use Rattle.std.specs.Cmp.Lexicographic.{nat_list_cmp_total}
use Rattle.std.specs.FinMap.{FinMap, get, entries, entries_sorted, retain_keys, get-entries, get-retain_keys}
use Rattle.std.specs.FinMap.Entries.{find, is_sorted, below_all, same_entries}
use Rattle.fsfs_base.specs.Paths.{PathName, Path, name_cmp, path_cmp, path_cmp_total, same_name, covers, is_above}
use Rattle.fsfs_tree.specs.Nodes.{Node}
use Rattle.fsfs_tree.specs.Trees.{IsTree}
use Rattle.fsfs_base.specs.declared.kind.Kind.TheVariants.{File, Dir}
use Rattle.fsfs_tree.proofs.TreeLemmas.{exact_paths}
use Rattle.fsfs_base.proofs.PathLemmas.{same_name-refl, covers-refl, covers-antisym, covers-longer, split_at}
use Rattle.fsfs_revision.specs.Shows.Reading.{DirEntry, named}
use Rattle.fsfs_revision.specs.Shows.ByTree.{IsEntryByTree}
use Rattle.fsfs_base.proofs.TwoTests.{both_hold}
use Rattle.fsfs_stands.proofs.SortedEntries.{all_append, IsBelow, below_is, sorted_append, find_append, keys_found}
use Rattle.fsfs_stands.proofs.EntryNames.{NamesRise}

-- ---- paths below a path

not_either : (a b : Bool) → not b ≡ true → not (a && b) ≡ true
not_either true b e = e
not_either false b e = refl

no_front : (p : Path) (x : PathName) (rest : Path) → not (covers (p ++ x ∷ rest) p) ≡ true
no_front [] x rest = refl
no_front (y ∷ p) x rest = not_either (same_name y y) (covers (p ++ x ∷ rest) p) (no_front p x rest)

longer_is_below : (p : Path) (x : PathName) (rest : Path) → is_above p (p ++ x ∷ rest) ≡ true
longer_is_below p x rest = and_from (covers p (p ++ x ∷ rest)) (not (covers (p ++ x ∷ rest) p)) (covers-longer p (x ∷ rest)) (no_front p x rest)

-- a path below another is that one with a name and more behind it
below_is_longer : (p q : Path) → is_above p q ≡ true → (x : PathName) × (rest : Path) × (q ≡ p ++ x ∷ rest)
below_is_longer p q above = by (drop (length p) q) (split_at p q (and_parts (covers p q) (not (covers q p)) above).0)
  where
    by : (rest : Path) → p ++ rest ≡ q → (x : PathName) × (rest : Path) × (q ≡ p ++ x ∷ rest)
    by [] e =
        let same : p ≡ q = sym (append-nil p) ∙ e in
        absurd (both_ways (covers q p) (not-true (covers q p) (and_parts (covers p q) (not (covers q p)) above).1) (subst (λ (x : Path). covers x p ≡ true) same (covers-refl p)))
    by (x ∷ rest) e = (x, rest, sym e)

before_longer : (p : Path) (x : PathName) (rest : Path) → path_cmp p (p ++ x ∷ rest) ≡ Less
before_longer [] x rest = refl
before_longer (y ∷ p) x rest = ap (λ (o : Ordering). ordering_then o (path_cmp p (p ++ x ∷ rest))) (tied_itself nat_list_cmp_total y) ∙ before_longer p x rest

before_below : (p q : Path) → is_above p q ≡ true → path_cmp p q ≡ Less
before_below p q above = let w = below_is_longer p q above in ap (path_cmp p) w.2 ∙ before_longer p w.0 w.1

-- what is below a child is before what is below a later one
before_later_child : (p : Path) (a b : PathName) (r s : Path) → name_cmp a b ≡ Less → path_cmp (p ++ a ∷ r) (p ++ b ∷ s) ≡ Less
before_later_child [] a b r s lt = ap (λ (o : Ordering). ordering_then o (path_cmp r s)) lt
before_later_child (y ∷ p) a b r s lt = ap (λ (o : Ordering). ordering_then o (path_cmp (p ++ a ∷ r) (p ++ b ∷ s))) (tied_itself nat_list_cmp_total y) ∙ before_later_child p a b r s lt

and_true : (b : Bool) → (b && true) ≡ b
and_true true = refl
and_true false = refl

child_covers : (p : Path) (a x : PathName) (r : Path) → covers (p ++ a ∷ []) (p ++ x ∷ r) ≡ same_name a x
child_covers [] a x r = and_true (same_name a x)
child_covers (y ∷ p) a x r = ap (λ (b : Bool). b && covers (p ++ a ∷ []) (p ++ x ∷ r)) (same_name-refl y) ∙ child_covers p a x r

tied_is : (o : Ordering) → is_eq o ≡ true → o ≡ Equal
tied_is Less e = absurd cc
tied_is Equal e = refl
tied_is Greater e = absurd cc

some_if : (b : Bool) (o : Option Node) → is_some (cond b o None) ≡ true → b ≡ true
some_if true o e = refl
some_if false o e = absurd cc

-- ---- blocks

module _ (tree : FinMap path_cmp Node) where
  -- the entries at a path and below it
  abbrev pub block : Path → List (Path × Node)
  block p = entries (retain_keys tree (covers p))

  find_block : (p q : Path) → find path_cmp q (block p) ≡ cond (covers p q) (get tree q) None
  find_block p q = sym (get-entries (retain_keys tree (covers p)) q) ∙ get-retain_keys tree (covers p) q (λ x tie. ap (covers p) (sym (exact_paths q x tie)))

  -- entries in order that answer as the tree does there
  block_is : (p : Path) (es : List (Path × Node)) → T (is_sorted path_cmp es) → ((q : Path) → find path_cmp q es ≡ cond (covers p q) (get tree q) None) → block p ≡ es
  block_is p es sorted found = same_entries path_cmp path_cmp_total exact_paths (block p) es (entries_sorted (retain_keys tree (covers p))) sorted (λ q. find_block p q ∙ sym (found q))

  node_then_below : (p q : Path) (n : Node) (below : Option Node) → get tree p ≡ Some n → below ≡ cond (is_above p q) (get tree q) None → cond (eq_by_cmp path_cmp q p) (Some n) below ≡ cond (covers p q) (get tree q) None
  node_then_below p q n below there is = by (eq_by_cmp path_cmp q p) (covers p q) (covers q p) refl refl refl is
    where
      by : (b c d : Bool) → eq_by_cmp path_cmp q p ≡ b → covers p q ≡ c → covers q p ≡ d → below ≡ cond (c && not d) (get tree q) None → cond b (Some n) below ≡ cond c (get tree q) None
      by true true d e f g h = sym (ap (get tree) (exact_paths q p (tied_is (path_cmp q p) e)) ∙ there)
      by true false d e f g h = absurd (both_ways (covers p q) f (subst (λ (x : Path). covers p x ≡ true) (sym (exact_paths q p (tied_is (path_cmp q p) e))) (covers-refl p)))
      by false true true e f g h = absurd (both_ways (eq_by_cmp path_cmp q p) e (subst (λ (x : Path). eq_by_cmp path_cmp x p ≡ true) (covers-antisym p q f g) (ap is_eq (tied_itself path_cmp_total p))))
      by false true false e f g h = h
      by false false d e f g h = h

  -- a block is its node, and behind it entries in order that answer as the tree does below
  head_block : (p : Path) (n : Node) (es : List (Path × Node)) → get tree p ≡ Some n → T (is_sorted path_cmp es) → ((q : Path) → find path_cmp q es ≡ cond (is_above p q) (get tree q) None) → block p ≡ (p, n) ∷ es
  head_block p n es there sorted found =
      let below = keys_found path_cmp path_cmp_total (λ k. path_cmp p k ≡ Less) es (λ q some. before_below p q (some_if (is_above p q) (get tree q) (ap is_some (sym (found q)) ∙ some))) in
      block_is p ((p, n) ∷ es) (both_hold (below_all path_cmp p es) (is_sorted path_cmp es) (below_is path_cmp p es below) sorted) (λ q. node_then_below p q n (find path_cmp q es) there (found q))

  -- ---- of a file

  -- nothing stands below what is no directory
  none_below : IsTree (get tree) → (p q : Path) → is_above p q ≡ true → ((n : Node) → get tree p ≡ Some n → n.kind ≡ Dir → ⊥) → get tree q ≡ None
  none_below is p q above not_dir = by (get tree q) refl
    where
      by : (o : Option Node) → get tree q ≡ o → o ≡ None
      by None e = refl
      by (Some m) e = let d = is.above p q above (ap is_some e) in absurd (not_dir d.0 d.1 d.2)

  no_dir : (n m : Node) (o : Option Node) → o ≡ Some n → n.kind ≡ File → o ≡ Some m → m.kind ≡ Dir → ⊥
  no_dir n m o e f g h =
      let same : n ≡ m = (let s = sym e ∙ g in cc) in
      let kinds : File ≡ Dir = sym f ∙ ap (λ (x : Node). x.kind) same ∙ h in
      cc

  pub file_block : IsTree (get tree) → (p : Path) (n : Node) → get tree p ≡ Some n → n.kind ≡ File → block p ≡ (p, n) ∷ []
  file_block is p n there file = head_block p n [] there tt (λ q. by q (is_above p q) refl)
    where
      by : (q : Path) (b : Bool) → is_above p q ≡ b → None ≡ cond b (get tree q) None
      by q true above = sym (none_below is p q above (λ m at dir. no_dir n m (get tree p) there file at dir))
      by q false above = refl

  -- ---- of a directory

  abbrev pub children : Path → List DirEntry → List (Path × Node)
  children p es = flat_map (λ e. block (p ++ e.name ∷ [])) es

  chosen : (b : Bool) (e : DirEntry) (o : Option DirEntry) (t : Option Node) → option_or (cond b t None) (cond (is_some o) t None) ≡ cond (is_some (cond b (Some e) o)) t None
  chosen true e o (Some n) = refl
  chosen true e None None = refl
  chosen true e (Some f) None = refl
  chosen false e o t = refl

  find_child : (p : Path) (x : PathName) (rest : Path) (es : List DirEntry) → find path_cmp (p ++ x ∷ rest) (children p es) ≡ cond (is_some (named x es)) (get tree (p ++ x ∷ rest)) None
  find_child p x rest [] = refl
  find_child p x rest (e ∷ es) =
      let q : Path = p ++ x ∷ rest in
      let first : find path_cmp q (block (p ++ e.name ∷ [])) ≡ cond (same_name e.name x) (get tree q) None = find_block (p ++ e.name ∷ []) q ∙ ap (λ (b : Bool). cond b (get tree q) None) (child_covers p e.name x rest) in
      find_append path_cmp q (block (p ++ e.name ∷ [])) (children p es) ∙ (λ i. option_or (first i) (find_child p x rest es i)) ∙ chosen (same_name e.name x) e (named x es) (get tree q)

  child_key : (p : Path) (a : PathName) (q : Path) → covers (p ++ a ∷ []) q ≡ true → (r : Path) × (q ≡ p ++ a ∷ r)
  child_key p a q under = let r = drop (length (p ++ a ∷ [])) q in (r, sym (split_at (p ++ a ∷ []) q under) ∙ append_assoc p (a ∷ []) r)

  outside : (p q : Path) (a : PathName) → is_above p q ≡ false → covers (p ++ a ∷ []) q ≡ false
  outside p q a apart = false_from_ne_true (covers (p ++ a ∷ []) q) (λ under.
      let r = child_key p a q under in
      both_ways (is_above p q) apart (subst (λ (x : Path). is_above p x ≡ true) (sym r.1) (longer_is_below p a r.0)))

  find_outside : (p q : Path) → is_above p q ≡ false → (es : List DirEntry) → find path_cmp q (children p es) ≡ None
  find_outside p q apart [] = refl
  find_outside p q apart (e ∷ es) =
      let first : find path_cmp q (block (p ++ e.name ∷ [])) ≡ None = find_block (p ++ e.name ∷ []) q ∙ ap (λ (b : Bool). cond b (get tree q) None) (outside p q e.name apart) in
      find_append path_cmp q (block (p ++ e.name ∷ [])) (children p es) ∙ (λ i. option_or (first i) (find_outside p q apart es i))

  module _ (is : IsTree (get tree)) (p : Path) (es : List DirEntry) (by_tree : (name : PathName) → IsEntryByTree (named name es) (get tree (p ++ name ∷ []))) where
    -- a child that no entry names has nothing below it
    named_or_none : (x : PathName) (rest : Path) (o : Option DirEntry) → IsEntryByTree o (get tree (p ++ x ∷ [])) → cond (is_some o) (get tree (p ++ x ∷ rest)) None ≡ get tree (p ++ x ∷ rest)
    named_or_none x rest (Some e) h = refl
    named_or_none x [] None h = sym h
    named_or_none x (y ∷ rest) None h =
        let above : is_above (p ++ x ∷ []) (p ++ x ∷ y ∷ rest) ≡ true = subst (λ (q : Path). is_above (p ++ x ∷ []) q ≡ true) (append_assoc p (x ∷ []) (y ∷ rest)) (longer_is_below (p ++ x ∷ []) y rest) in
        sym (none_below is (p ++ x ∷ []) (p ++ x ∷ y ∷ rest) above (λ n at dir. let e = sym h ∙ at in cc))

    find_children : (q : Path) → find path_cmp q (children p es) ≡ cond (is_above p q) (get tree q) None
    find_children q = by (is_above p q) refl
      where
        by : (b : Bool) → is_above p q ≡ b → find path_cmp q (children p es) ≡ cond b (get tree q) None
        by true above =
            let w = below_is_longer p q above in
            subst (λ (x : Path). find path_cmp x (children p es) ≡ get tree x) (sym w.2) (find_child p w.0 w.1 es ∙ named_or_none w.0 w.1 (named w.0 es) (by_tree w.0))
        by false above = find_outside p q above es

  block_key : (p : Path) (a : PathName) (q : Path) → is_some (find path_cmp q (block (p ++ a ∷ []))) ≡ true → (r : Path) × (q ≡ p ++ a ∷ r)
  block_key p a q some = child_key p a q (some_if (covers (p ++ a ∷ []) q) (get tree q) (ap is_some (sym (find_block (p ++ a ∷ []) q)) ∙ some))

  below_children : (p : Path) (a : PathName) (r : Path) (es : List DirEntry) → AllByRecursion (λ f. name_cmp a f.name ≡ Less) es → IsBelow path_cmp (p ++ a ∷ r) (children p es)
  below_children p a r [] h = tt
  below_children p a r (f ∷ es) h =
      all_append (λ e. path_cmp (p ++ a ∷ r) e.0 ≡ Less) (block (p ++ f.name ∷ [])) (children p es)
      (keys_found path_cmp path_cmp_total (λ k. path_cmp (p ++ a ∷ r) k ≡ Less) (block (p ++ f.name ∷ []))
      (λ q some. let s = block_key p f.name q some in ap (path_cmp (p ++ a ∷ r)) s.1 ∙ before_later_child p a f.name r s.0 h.0))
      (below_children p a r es h.1)

  sorted_children : (p : Path) (es : List DirEntry) → NamesRise es → T (is_sorted path_cmp (children p es))
  sorted_children p [] rise = tt
  sorted_children p (e ∷ es) rise =
      sorted_append path_cmp (block (p ++ e.name ∷ [])) (children p es) (entries_sorted (retain_keys tree (covers (p ++ e.name ∷ [])))) (sorted_children p es rise.1)
      (keys_found path_cmp path_cmp_total (λ k. IsBelow path_cmp k (children p es)) (block (p ++ e.name ∷ []))
      (λ q some. let r = block_key p e.name q some in subst (λ (k : Path). IsBelow path_cmp k (children p es)) (sym r.1) (below_children p e.name r.0 es rise.0)))

  pub directory_block : IsTree (get tree) → (p : Path) (n : Node) (es : List DirEntry) → get tree p ≡ Some n → NamesRise es → ((name : PathName) → IsEntryByTree (named name es) (get tree (p ++ name ∷ []))) → block p ≡ (p, n) ∷ children p es
  directory_block is p n es there rise by_tree = head_block p n (children p es) there (sorted_children p es rise) (find_children is p es by_tree)
