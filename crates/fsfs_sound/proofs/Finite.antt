-- Where each revision keeps the rules by itself, finitely many paths stand in a tree.
use Rattle.std.proofs.Common.{◌≡◌, ◌≤◌, ◌<◌, ◌⊎◌, ◌++◌, ℕ, zero, suc, Bool, true, false, cond, ◌||◌, nat_lt, List, [], ◌∷◌, refl, sym, subst, ◌∙◌, inl, inr, append_assoc, append-nil, arith}
use Rattle.std.specs.Prelude.{Ok, Option, Some, None, ◌&&◌, ◌==◌}
use Rattle.std.proofs.lemmas.Bool.{and_parts}
use Rattle.std.proofs.lemmas.Bool.Decides.{nat_tests}
use Rattle.std.proofs.lemmas.List.Folds.{list_any-append}
use Rattle.std.specs.Ordering.{eq_by_cmp}
use Rattle.fsfs_base.specs.Paths.{PathName, Path, path_cmp, same_name}
use Rattle.fsfs_base.specs.declared.kind.Kind.{Kind}
use Rattle.fsfs_base.specs.declared.kind.Kind.TheVariants.{File, Dir}
use Rattle.fsfs_base.proofs.PathLemmas.{same_name-is}
use Rattle.fsfs_noderev.specs.declared.node_id.NodeId.{NodeId}
use Rattle.fsfs_noderev.specs.declared.node_id.Place.{Place}
use Rattle.fsfs_noderev.specs.declared.node_id.Place.TheVariants as places
use Rattle.fsfs_noderev.specs.declared.node_rev.NodeRev.{NodeRev}
use Rattle.fsfs_revision.specs.declared.damage.RevOffset.{RevOffset}
use Rattle.fsfs_revision.specs.Nodes.{place_before}
use Rattle.fsfs_revision.specs.Told.{RevisionBytes}
use Rattle.fsfs_revision.specs.Shows.Reading.{DirEntry, EntriesOf, ChildOf, named, offset_of, StandsAt}
use Rattle.fsfs_revision.specs.Shows.Chains.{own_rev, copy_root_of}
use Rattle.fsfs_revision.specs.Ancestry.CopyRoots.{later_root, IsRootedFrom}
use Rattle.fsfs_revision.proofs.OneAnswer.{ok_same}
use Rattle.fsfs_revision.proofs.OneEntry.{entries_one}
use Rattle.fsfs_revision.proofs.OneNode.{root_of_one}
use Rattle.fsfs_revision.proofs.OneWalk.{child_one}
use Rattle.fsfs_revision.proofs.Roots.{is_less, is_not_less, stands_rooted}
use Rattle.fsfs_revision.proofs.TreeLaw.{entry_before}
use Rattle.fsfs_revision.proofs.Walks.{child_stands}
use Rattle.fsfs_sound.specs.Revisions.{IsSoundTree}
use Rattle.fsfs_sound.proofs.Maps.{among, same_self}
use Rattle.fsfs_sound.proofs.Standing.{child_entry, of_entry_id, children}

-- where a node-revision stands, as two numbers
abbrev offset_in : NodeRev → ℕ
offset_in v = (offset_of v.id.place).offset

-- a place before another is of an earlier revision, or further up in the same
before_parts : (at : RevOffset) (p : Place) → place_before at p ≡ true → ((offset_of p).rev < at.rev) ⊎ (((offset_of p).rev ≡ at.rev) × ((offset_of p).offset < at.offset))
before_parts at (places.At rev offset) h = by (nat_lt rev at.rev) refl h
  where
    by : (b : Bool) → nat_lt rev at.rev ≡ b → (b || ((rev == at.rev) && nat_lt offset at.offset)) ≡ true → (rev < at.rev) ⊎ ((rev ≡ at.rev) × (offset < at.offset))
    by true e h = inl (is_less rev at.rev e)
    by false e h =
        let two = and_parts (rev == at.rev) (nat_lt offset at.offset) h in
        let same : rev ≡ at.rev = grind (arith, nat_tests, two.0) in
        inr (same, is_less offset at.offset two.1)
before_parts at (places.In txn) h = absurd cc

pub or_left : (a b : Bool) → a ≡ true → (a || b) ≡ true
or_left true b e = refl
or_left false b e = absurd cc

pub or_right : (a b : Bool) → b ≡ true → (a || b) ≡ true
or_right true b e = refl
or_right false b e = e

among_left : (a b : List Path) (q : Path) → among a q ≡ true → among (a ++ b) q ≡ true
among_left a b q e = list_any-append (eq_by_cmp path_cmp q) a b ∙ or_left (among a q) (among b q) e

among_right : (a b : List Path) (q : Path) → among b q ≡ true → among (a ++ b) q ≡ true
among_right a b q e = list_any-append (eq_by_cmp path_cmp q) a b ∙ or_right (among a q) (among b q) e

module _ (look : RevisionBytes) (top : ℕ) (trees : (r : ℕ) → r ≤ top → IsSoundTree look r) (r : ℕ) (le : r ≤ top) where
  -- all paths at which something stands at or below this
  abbrev Lists : Path → NodeRev → List Path → Type 0
  Lists front v ks = (rest : Path) (w : NodeRev) (root last : ℕ × Path) → IsRootedFrom look v root rest w last → among ks (front ++ rest) ≡ true

  abbrev Listed : Path → NodeRev → Type 0
  Listed front v = (ks : List Path) × Lists front v ks

  -- those below the entries of a directory
  module _ (front : Path) (dir : NodeRev) (at : StandsAt look r front dir) (kind : dir.kind ≡ Dir) (each : (name : PathName) (u : NodeRev) → ChildOf look dir name (Ok (Some u)) → Listed (front ++ name ∷ []) u) where
    abbrev ListsNamed : List DirEntry → List Path → Type 0
    ListsNamed entries ks = (name : PathName) (entry : DirEntry) → named name entries ≡ Some entry → (u : NodeRev) → ChildOf look dir name (Ok (Some u)) → Lists (front ++ name ∷ []) u ks

    of_child : (name : PathName) (o : Option NodeRev) → ChildOf look dir name (Ok o) → (ks : List Path) × ((u : NodeRev) → ChildOf look dir name (Ok (Some u)) → Lists (front ++ name ∷ []) u ks)
    of_child name None child = ([], λ u other. absurd (let e = ok_same None (Some u) (child_one look dir name (Ok None) (Ok (Some u)) child other) in cc))
    of_child name (Some w) child =
        let l = each name w child in
        (l.0, λ u other. (let e = ok_same (Some w) (Some u) (child_one look dir name (Ok (Some w)) (Ok (Some u)) child other) in let same : w ≡ u = cc in subst (λ (x : NodeRev). Lists (front ++ name ∷ []) x l.0) same l.1))

    gather : (entries : List DirEntry) → (ks : List Path) × ListsNamed entries ks
    gather [] = ([], λ name entry is. absurd cc)
    gather (e ∷ entries) =
        let c = children look top trees r le front dir at kind e.name in
        let here = of_child e.name c.0 c.1 in
        let rest = gather entries in
        (here.0 ++ rest.0, λ name entry is u child. by here.0 here.1 rest.0 rest.1 name entry u child (same_name e.name name) refl is)
      where
        by : (a : List Path) → ((u : NodeRev) → ChildOf look dir e.name (Ok (Some u)) → Lists (front ++ e.name ∷ []) u a) → (b : List Path) → ListsNamed entries b → (name : PathName) (entry : DirEntry) (u : NodeRev) → ChildOf look dir name (Ok (Some u))
            → (t : Bool) → same_name e.name name ≡ t → cond t (Some e) (named name entries) ≡ Some entry → Lists (front ++ name ∷ []) u (a ++ b)
        by a first b later name entry u child true same is rest w root last g =
            let n = same_name-is e.name name same in
            let child_is : ChildOf look dir e.name (Ok (Some u)) = subst (λ (x : PathName). ChildOf look dir x (Ok (Some u))) (sym n) child in
            let in_a : among a ((front ++ e.name ∷ []) ++ rest) ≡ true = first u child_is rest w root last g in
            among_left a b ((front ++ name ∷ []) ++ rest) (subst (λ (x : PathName). among a ((front ++ x ∷ []) ++ rest) ≡ true) n in_a)
        by a first b later name entry u child false other is rest w root last g = among_right a b ((front ++ name ∷ []) ++ rest) (later name entry is u child rest w root last g)

    dir_listed : Listed front dir
    dir_listed = (front ∷ all.0, lists)
      where
        es : (entries : List DirEntry) × EntriesOf look dir (Ok entries)
        es = (let c = children look top trees r le front dir at kind [] in (c.1.0, c.1.1))

        all : (ks : List Path) × ListsNamed es.0 ks
        all = gather es.0

        lists : Lists front dir (front ∷ all.0)
        lists [] w root last g = or_left (eq_by_cmp path_cmp (front ++ []) front) (among all.0 (front ++ [])) (subst (λ (q : Path). eq_by_cmp path_cmp q front ≡ true) (sym (append-nil front)) (same_self front))
        lists (name ∷ names) w root last g =
            let e = child_entry look dir g.1 name g.2 in
            let same = ok_same e.1.0 es.0 (entries_one look dir (Ok e.1.0) (Ok es.0) e.1.1 es.1) in
            let is : named name es.0 ≡ Some e.0 = sym (λ i. named name (same i)) ∙ e.1.2 in
            let there = all.1 name e.0 is g.1 g.2 names w (later_root root (copy_root_of g.1)) last g.3 in
            or_right (eq_by_cmp path_cmp (front ++ name ∷ names) front) (among all.0 (front ++ name ∷ names)) (subst (λ (q : Path). among all.0 q ≡ true) (append_assoc front (name ∷ []) names) there)

  -- a file stands alone
  file_listed : (front : Path) (v : NodeRev) → v.kind ≡ File → Listed front v
  file_listed front v file = (front ∷ [], lists)
    where
      lists : Lists front v (front ∷ [])
      lists [] w root last g = or_left (eq_by_cmp path_cmp (front ++ []) front) false (subst (λ (q : Path). eq_by_cmp path_cmp q front ≡ true) (sym (append-nil front)) (same_self front))
      lists (name ∷ names) w root last g = let e : File ≡ Dir = sym file ∙ g.0 in absurd cc

  -- ---- by the places, which fall

  -- where all that is of earlier revisions is listed, and all of the same revision that stands further up
  step : (front : Path) (v : NodeRev) → StandsAt look r front v
      → ((q : Path) (u : NodeRev) → own_rev u < own_rev v → StandsAt look r q u → Listed q u)
      → ((q : Path) (u : NodeRev) → own_rev u ≡ own_rev v → offset_in u < offset_in v → StandsAt look r q u → Listed q u) → Listed front v
  step front v at older further = by v.kind refl
    where
      each : v.kind ≡ Dir → (name : PathName) (u : NodeRev) → ChildOf look v name (Ok (Some u)) → Listed (front ++ name ∷ []) u
      each dir name u child =
          let there = child_stands look r v u front name at dir child in
          let e = child_entry look v u name child in
          let id = of_entry_id look e.0 u e.2 in
          let before : place_before (offset_of v.id.place) u.id.place ≡ true = subst (λ (i : NodeId). place_before (offset_of v.id.place) i.place ≡ true) (sym id) (entry_before look v name v.text e.1.0 e.0 e.1.1 e.1.2) in
          by_place there (before_parts (offset_of v.id.place) u.id.place before)
        where
          by_place : StandsAt look r (front ++ name ∷ []) u → (own_rev u < own_rev v) ⊎ ((own_rev u ≡ own_rev v) × (offset_in u < offset_in v)) → Listed (front ++ name ∷ []) u
          by_place there (inl less) = older (front ++ name ∷ []) u less there
          by_place there (inr same) = further (front ++ name ∷ []) u same.0 same.1 there

      by : (k : Kind) → v.kind ≡ k → Listed front v
      by File is = file_listed front v is
      by Dir is = dir_listed front v at is (each is)

  within : (s : ℕ) → ((q : Path) (u : NodeRev) → own_rev u < s → StandsAt look r q u → Listed q u) → (m : ℕ) (front : Path) (v : NodeRev) → own_rev v ≡ s → offset_in v < m → StandsAt look r front v → Listed front v
  within s older zero front v own less at = absurd (omega (arith, less))
  within s older (suc m) front v own less at = step front v at
      (λ q u lower there. older q u (omega (arith, lower, own)) there)
      (λ q u same further there. within s older m q u (same ∙ own) (omega (arith, further, less)) there)

  listed_below : (n : ℕ) (front : Path) (v : NodeRev) → own_rev v < n → StandsAt look r front v → Listed front v
  listed_below zero front v less at = absurd (omega (arith, less))
  listed_below (suc n) front v less at = by (nat_lt (own_rev v) n) refl (λ q u lower there. listed_below n q u lower there)
    where
      by : (b : Bool) → nat_lt (own_rev v) n ≡ b → ((q : Path) (u : NodeRev) → own_rev u < n → StandsAt look r q u → Listed q u) → Listed front v
      by true e down = down front v (is_less (own_rev v) n e) at
      by false e down =
          let over = is_not_less (own_rev v) n e in
          within n down (suc (offset_in v)) front v (omega (arith, over, less)) (omega arith) at

  -- all paths of the tree
  pub all_paths : (ks : List Path) × ((p : Path) (v : NodeRev) → StandsAt look r p v → among ks p ≡ true)
  all_paths =
      let root = (trees r le).root in
      let at : StandsAt look r [] root.0 = (root.0, root.1, refl) in
      let l = listed_below (suc (own_rev root.0)) [] root.0 (omega arith) at in (
        l.0,
        λ p v there. (let g = stands_rooted look r p v there in
            let same : g.1.0 ≡ root.0 = ok_same g.1.0 root.0 (root_of_one look r (Ok g.1.0) (Ok root.0) g.1.1 root.1) in
            l.1 p v (copy_root_of root.0) g.0 (subst (λ (a : NodeRev). IsRootedFrom look a (copy_root_of a) p v g.0) same g.1.2)),
      )
