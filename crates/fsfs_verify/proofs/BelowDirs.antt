-- What stands below a directory, by its entries.
use Rattle.std.proofs.Common.{◌≡◌, ◌≤◌, ◌++◌, ◌+◌, ℕ, zero, suc, ◌<◌, List, [], ◌∷◌, length, take, drop, get_or, map, refl, sym, ap, subst, ◌∙◌, inl, inr, append_assoc, append-nil, arith}
use Rattle.std.specs.Prelude.{Option, Some, None, Result, Ok, Err}
use Rattle.std.proofs.lemmas.List.{map_more, take_all}
use Rattle.fsfs_base.specs.Paths.{PathName, Path}
use Rattle.fsfs_base.specs.declared.kind.Kind.{Kind}
use Rattle.fsfs_base.specs.declared.kind.Kind.TheVariants.{File, Dir}
use Rattle.fsfs_noderev.specs.declared.node_rev.NodeRev.{NodeRev}
use Rattle.fsfs_revision.specs.Told.{RevisionBytes}
use Rattle.fsfs_revision.specs.declared.wrong.Wrong.{Wrong}
use Rattle.fsfs_revision.specs.Shows.Reading.{DirEntry, EntriesOf, OfEntry, OfNamed, ChildOf, RootOf, Met, Stands, Lacking, InDirectory, OrLacking, MetFrom, MetAt, StandsAt, named}
use Rattle.fsfs_revision.specs.Shows.Chains.{copy_root_of}
use Rattle.fsfs_revision.proofs.OneAnswer.{ok_same}
use Rattle.fsfs_revision.proofs.OneEntry.{entries_one}
use Rattle.fsfs_revision.proofs.OneWalk.{stands_same}
use Rattle.fsfs_revision.proofs.Roots.{stands_rooted, rooted_stands, rooted_split}
use Rattle.fsfs_revision.proofs.Walks.{met_behind, in_dir, child_stands}

module _ (look : RevisionBytes) where
  -- what stands below a directory is its child
  pub child_at : (r : ℕ) (p : Path) (name : PathName) (dir v : NodeRev) → StandsAt look r p dir → StandsAt look r (p ++ name ∷ []) v → ChildOf look dir name (Ok (Some v))
  child_at r p name dir v above there =
      let g = stands_rooted look r (p ++ name ∷ []) v there in
      let a : NodeRev = g.1.0 in
      let two = rooted_split look a (copy_root_of a) p (name ∷ []) v g.0 g.1.2 in
      let m : NodeRev = two.0 in
      let here = rooted_stands look r p m two.1 (a, g.1.1, two.2) in
      let same : m ≡ dir = stands_same look r p m dir here above in
      let step = two.3 in
      let child : ChildOf look m name (Ok (Some v)) = subst (λ (x : NodeRev). ChildOf look m name (Ok (Some x))) (sym step.3.0) step.2 in
      subst (λ (x : NodeRev). ChildOf look x name (Ok (Some v))) same child

  -- a directory stands above what stands below it
  pub dir_above : (r : ℕ) (p : Path) (name : PathName) (v : NodeRev) → StandsAt look r (p ++ name ∷ []) v → (dir : NodeRev) × StandsAt look r p dir × (dir.kind ≡ Dir)
  dir_above r p name v there =
      let g = stands_rooted look r (p ++ name ∷ []) v there in
      let a : NodeRev = g.1.0 in
      let two = rooted_split look a (copy_root_of a) p (name ∷ []) v g.0 g.1.2 in
      let m : NodeRev = two.0 in
      let step = two.3 in
      (m, rooted_stands look r p m two.1 (a, g.1.1, two.2), step.0)

  -- and one above each directory
  pub dir_before : (r : ℕ) (front rest : Path) (v : NodeRev) → StandsAt look r (front ++ rest) v → v.kind ≡ Dir → (dir : NodeRev) × StandsAt look r front dir × (dir.kind ≡ Dir)
  dir_before r front [] v at kind = (v, subst (λ (p : Path). StandsAt look r p v) (append-nil front) at, kind)
  dir_before r front (name ∷ rest) v at kind =
      let e = dir_before r (front ++ name ∷ []) rest v (subst (λ (p : Path). StandsAt look r p v) (sym (append_assoc front (name ∷ []) rest)) at) kind in
      dir_above r front name e.0 e.1

  -- the root
  pub root_at : (r : ℕ) (v : NodeRev) → StandsAt look r [] v → RootOf look r (Ok v)
  root_at r v at =
      let same : v ≡ at.0 = (let e = at.2 in cc) in
      subst (λ (x : NodeRev). RootOf look r (Ok x)) (sym same) at.1

  -- ---- by an entry

  module _ (dir : NodeRev) (entries : List DirEntry) (read : EntriesOf look dir (Ok entries)) (name : PathName) where
    by_list : (v : NodeRev) → ChildOf look dir name (Ok (Some v)) → OfNamed look (named name entries) (Ok (Some v))
    by_list v child =
        let same = ok_same child.0 entries (entries_one look dir (Ok child.0) (Ok entries) child.1 read) in
        subst (λ (es : List DirEntry). OfNamed look (named name es) (Ok (Some v))) same child.2

    pub no_child : (v : NodeRev) → named name entries ≡ None → ChildOf look dir name (Ok (Some v)) → ⊥
    no_child v none child = by (named name entries) none (by_list v child)
      where
        by : (o : Option DirEntry) → o ≡ None → OfNamed look o (Ok (Some v)) → ⊥
        by None is of = cc
        by (Some e) is of = cc

    pub of_child : (v : NodeRev) (entry : DirEntry) → named name entries ≡ Some entry → ChildOf look dir name (Ok (Some v)) → OfEntry look entry (Ok v)
    of_child v entry is child = by (named name entries) is (by_list v child)
      where
        by : (o : Option DirEntry) → o ≡ Some entry → OfNamed look o (Ok (Some v)) → OfEntry look entry (Ok v)
        by None none of = absurd cc
        by (Some e) same of = let one : e ≡ entry = cc in subst (λ (x : DirEntry). OfEntry look x (Ok v)) one of

    pub child_of : (v : NodeRev) (entry : DirEntry) → named name entries ≡ Some entry → OfEntry look entry (Ok v) → ChildOf look dir name (Ok (Some v))
    child_of v entry is of = (entries, read, subst (λ (o : Option DirEntry). OfNamed look o (Ok (Some v))) (sym is) of)

    pub child_fails : (w : Wrong) (entry : DirEntry) → named name entries ≡ Some entry → OfEntry look entry (Err w) → ChildOf look dir name (Err w)
    child_fails w entry is of = inr (entries, read, subst (λ (o : Option DirEntry). OfNamed look o (Err w)) (sym is) of)

  -- ---- what is wrong on the way

  -- what is wrong with a child is met below it, too
  pub met_below : (r : ℕ) (p : Path) (name : PathName) (rest : Path) (dir : NodeRev) (w : Wrong) → StandsAt look r p dir → dir.kind ≡ Dir → ChildOf look dir name (Err w) → MetAt look r (p ++ name ∷ rest) (Err w)
  met_below r p name rest dir w at kind wrong = met_behind look r dir p (name ∷ rest) (Err w) at (in_dir dir.kind (length p) (ChildOf look dir name) (λ u. MetFrom look u (suc (length p)) rest) (Err w) kind (inl wrong))

  met_longer_in : (kind : Kind) (depth : ℕ) (R : Result (Option NodeRev) Wrong → Type 0) (S T : NodeRev → Result Met Wrong → Type 0) (w : Wrong) → ((u : NodeRev) → S u (Err w) → T u (Err w)) → InDirectory kind depth R S (Err w) → InDirectory kind depth R T (Err w)
  met_longer_in File depth R S T w f h = absurd cc
  met_longer_in Dir depth R S T w f (inl wrong) = inl wrong
  met_longer_in Dir depth R S T w f (inr h) = by h.0 h.1 h.2
    where
      by : (o : Option NodeRev) → R (Ok o) → OrLacking (suc depth) S o (Err w) → InDirectory Dir depth R T (Err w)
      by None child further = absurd cc
      by (Some u) child further = inr (Some u, child, f u further)

  met_longer_from : (p rest : Path) (v : NodeRev) (depth : ℕ) (w : Wrong) → MetFrom look v depth p (Err w) → MetFrom look v depth (p ++ rest) (Err w)
  met_longer_from [] rest v depth w h = absurd cc
  met_longer_from (name ∷ names) rest v depth w h =
      met_longer_in v.kind depth (ChildOf look v name) (λ u. MetFrom look u (suc depth) names) (λ u. MetFrom look u (suc depth) (names ++ rest)) w (λ u on. met_longer_from names rest u (suc depth) w on) h

  pub met_longer : (r : ℕ) (p rest : Path) (w : Wrong) → MetAt look r p (Err w) → MetAt look r (p ++ rest) (Err w)
  met_longer r p rest w (inl root) = inl root
  met_longer r p rest w (inr h) = inr (h.0, h.1, met_longer_from p rest h.0 0 w h.2)

  -- what is met at each name below a path is met further down
  pub met_further : (r : ℕ) (front rest : Path) (w : Wrong) → ((other : PathName) → MetAt look r (front ++ other ∷ []) (Err w)) → (name : PathName) → MetAt look r ((front ++ rest) ++ name ∷ []) (Err w)
  met_further r front [] w h name = subst (λ (p : Path). MetAt look r (p ++ name ∷ []) (Err w)) (sym (append-nil front)) (h name)
  met_further r front (x ∷ rest) w h name =
      subst (λ (p : Path). MetAt look r p (Err w)) (append_assoc front (x ∷ []) (rest ++ name ∷ []) ∙ sym (append_assoc front (x ∷ rest) (name ∷ []))) (met_longer r (front ++ x ∷ []) (rest ++ name ∷ []) w (h x))

-- ---- the names of a path, one by one

module _ {X : Type 0} (f : X → PathName) where
  pub prefix_rest : (xs : List X) (i : ℕ) → map f xs ≡ map f (take i xs) ++ map f (drop i xs)
  prefix_rest xs zero = refl
  prefix_rest [] (suc i) = refl
  prefix_rest (x ∷ xs) (suc i) = ap (λ (p : Path). f x ∷ p) (prefix_rest xs i)

  pub prefix_next : (xs : List X) (i : ℕ) (x : X) (above here : Path) → i < length xs → x ≡ get_or xs i x → above ≡ map f (take i xs) → here ≡ above ++ f x ∷ [] → here ≡ map f (take (i + 1) xs)
  prefix_next xs i x above here less at so far = far ∙ (λ k. so k ++ f (at k) ∷ []) ∙ sym (map_more f xs i x less)

  pub prefix_all : (xs : List X) (i : ℕ) (above : Path) → length xs ≤ i → above ≡ map f (take i xs) → above ≡ map f xs
  prefix_all xs i above le so = so ∙ ap (map f) (take_all i xs le)
