-- What is met at a path is what the tree has there.
use Rattle.std.proofs.Common.{◌≡◌, ℕ, suc, [], ◌∷◌, ◌++◌, length, take, refl, sym, ap, subst, ◌∙◌, append_assoc, append-nil}
use Rattle.std.specs.Prelude.{Ok, Err, Option, Some, None, IsSomeAnd}
use Rattle.fsfs_base.specs.Paths.{PathName, Path}
use Rattle.fsfs_tree.specs.Nodes.{Node, TreeFunction}
use Rattle.fsfs_base.specs.declared.kind.Kind.{Kind}
use Rattle.fsfs_base.specs.declared.kind.Kind.TheVariants.{File, Dir}
use Rattle.fsfs_revision.specs.Told.{RevisionBytes}
use Rattle.fsfs_tree.specs.Answers as answers
use Rattle.fsfs_tree.specs.Answers.{Found, through, found_from, found_at}
use Rattle.fsfs_noderev.specs.declared.node_rev.NodeRev.{NodeRev}
use Rattle.fsfs_revision.specs.declared.wrong.Wrong.{Wrong}
use Rattle.fsfs_revision.specs.Shows.Reading.{ChildOf, Met, Stands, Lacking, Blocked, OrLacking, InDirectory, MetFrom, MetAt, StandsAt}
use Rattle.fsfs_revision.specs.Shows.Shown.{IsShown, Shows}
use Rattle.fsfs_revision.proofs.ByTree.{by_tree}
use Rattle.fsfs_revision.proofs.Walks.{met_behind, in_dir, child_stands, take_front}

-- what stands at a path is found there; so are the names that lead to nothing, or to a file
abbrev pub IsFoundAs : TreeFunction → Path → Met → Found → Type 0
IsFoundAs tree path (Stands v) found = (n : Node) × (tree path ≡ Some n) × (found ≡ answers.Stands n)
IsFoundAs tree path (Lacking depth) found = found ≡ answers.Lacking (take depth path)
IsFoundAs tree path (Blocked depth) found = found ≡ answers.Blocked (take depth path)

pub length_push : (front : Path) (name : PathName) → length (front ++ name ∷ []) ≡ suc (length front)
length_push [] name = refl
length_push (x ∷ front) name = ap suc (length_push front name)

found_nothing : (tree : TreeFunction) (at names : Path) → found_from tree at names None ≡ answers.Lacking at
found_nothing tree at [] = refl
found_nothing tree at (name ∷ names) = refl

module _ (look : RevisionBytes) (rev : ℕ) (tree : TreeFunction) (shows : Shows look rev tree) where
  node_of : (o : Option Node) (p : Path) (v : NodeRev) → IsSomeAnd o (IsShown look rev p v) → (n : Node) × (o ≡ Some n) × IsShown look rev p v n
  node_of None p v h = absurd h
  node_of (Some n) p v h = (n, refl, h)

  -- the node of a node-revision that stands at a path
  pub node_at : (p : Path) (v : NodeRev) → StandsAt look rev p v → (n : Node) × (tree p ≡ Some n) × IsShown look rev p v n
  node_at p v at = node_of (tree p) p v ((by_tree look rev tree shows).paths p (Ok (Stands v)) at)

  pub never_wrong : (p : Path) (w : Wrong) → MetAt look rev p (Err w) → ⊥
  never_wrong p w at = (by_tree look rev tree shows).paths p (Err w) at

  abbrev FoundBelow : Path → Path → Met → Type 0
  FoundBelow front names m = IsFoundAs tree (front ++ names) m (found_from tree front names (tree front))

  abbrev FurtherOn : Path → PathName → Path → Met → Type 0
  FurtherOn front name names m = (u : NodeRev) → StandsAt look rev (front ++ name ∷ []) u → MetFrom look u (length (front ++ name ∷ [])) names (Ok m) → FoundBelow (front ++ name ∷ []) names m

  abbrev Beyond : Path → PathName → Path → Found
  Beyond front name names = found_from tree (front ++ name ∷ []) names (tree (front ++ name ∷ []))

  nothing_there : (front : Path) (name : PathName) (v : NodeRev) → StandsAt look rev front v → v.kind ≡ Dir → ChildOf look v name (Ok None) → tree (front ++ name ∷ []) ≡ None
  nothing_there front name v at is child =
      let on = met_behind look rev v front (name ∷ []) (Ok (Lacking (suc (length front)))) at (in_dir v.kind (length front) (ChildOf look v name) (λ w. MetFrom look w (suc (length front)) []) (Ok (Lacking (suc (length front)))) is (None, child, refl)) in
      let lacks = (by_tree look rev tree shows).paths (front ++ name ∷ []) (Ok (Lacking (suc (length front)))) on in
      let whole : take (suc (length front)) (front ++ name ∷ []) ≡ front ++ name ∷ [] =
      ap (λ (k : ℕ). take k (front ++ name ∷ [])) (sym (length_push front name)) ∙ ap (take (length (front ++ name ∷ []))) (sym (append-nil (front ++ name ∷ []))) ∙ take_front (front ++ name ∷ []) [] in
      ap tree (sym whole) ∙ lacks.nothing

  found_child : (front : Path) (name : PathName) (names : Path) (v : NodeRev) (m : Met) (o : Option NodeRev) → StandsAt look rev front v → v.kind ≡ Dir → FurtherOn front name names m → ChildOf look v name (Ok o)
      → OrLacking (suc (length front)) (λ u. MetFrom look u (suc (length front)) names) o (Ok m) → IsFoundAs tree (front ++ name ∷ names) m (Beyond front name names)
  found_child front name names v (Stands w) None at is next child on = absurd cc
  found_child front name names v (Blocked depth) None at is next child on = absurd cc
  found_child front name names v (Lacking depth) None at is next child on =
      let same : depth ≡ length (front ++ name ∷ []) = (let e : depth ≡ suc (length front) = cc in e ∙ sym (length_push front name)) in
      let upper : take depth (front ++ name ∷ names) ≡ front ++ name ∷ [] = (λ i. take (same i) (sym (append_assoc front (name ∷ []) names) i)) ∙ take_front (front ++ name ∷ []) names in
      ap (found_from tree (front ++ name ∷ []) names) (nothing_there front name v at is child) ∙ found_nothing tree (front ++ name ∷ []) names ∙ ap (λ (p : Path). answers.Lacking p) (sym upper)
  found_child front name names v m (Some u) at is next child on =
      subst (λ (p : Path). IsFoundAs tree p m (Beyond front name names)) (append_assoc front (name ∷ []) names)
      (next u (child_stands look rev v u front name at is child) (subst (λ (n : ℕ). MetFrom look u n names (Ok m)) (sym (length_push front name)) on))

  found_in : (front : Path) (name : PathName) (names : Path) (v : NodeRev) (kind : Kind) (m : Met) → StandsAt look rev front v → v.kind ≡ kind → FurtherOn front name names m
      → InDirectory kind (length front) (ChildOf look v name) (λ u. MetFrom look u (suc (length front)) names) (Ok m) → IsFoundAs tree (front ++ name ∷ names) m (through kind front (Beyond front name names))
  found_in front name names v File (Stands w) at is next on = absurd cc
  found_in front name names v File (Lacking depth) at is next on = absurd cc
  found_in front name names v File (Blocked depth) at is next on =
      let same : depth ≡ length front = cc in
      ap (λ (p : Path). answers.Blocked p) (sym (ap (λ (k : ℕ). take k (front ++ name ∷ names)) same ∙ take_front front (name ∷ names)))
  found_in front name names v Dir m at is next on = found_child front name names v m on.0 at is next on.1 on.2

  found_below : (front rest : Path) (v : NodeRev) (m : Met) → StandsAt look rev front v → MetFrom look v (length front) rest (Ok m) → FoundBelow front rest m
  found_below front [] v m at on =
      let n = node_at front v at in
      let same : Stands v ≡ m = cc in
      let there : tree (front ++ []) ≡ Some n.0 = ap tree (append-nil front) ∙ n.1 in
      subst (λ (x : Met). IsFoundAs tree (front ++ []) x (found_from tree front [] (tree front))) same (n.0, there, ap (found_from tree front []) n.1)
  found_below front (name ∷ names) v m at on =
      let n = node_at front v at in
      let in_kind = found_in front name names v v.kind m at refl (λ u stands further. found_below (front ++ name ∷ []) names u m stands further) on in
      let through_it : through v.kind front (Beyond front name names) ≡ found_from tree front (name ∷ names) (tree front) =
      ap (λ (k : Kind). through k front (Beyond front name names)) (sym n.2.kind) ∙ ap (found_from tree front (name ∷ names)) (sym n.1) in
      subst (IsFoundAs tree (front ++ name ∷ names) m) through_it in_kind

  pub found_as : (p : Path) (m : Met) → MetAt look rev p (Ok m) → IsFoundAs tree p m (found_at tree p)
  found_as p m at = found_below [] p at.0 m (at.0, at.1, refl) at.2
