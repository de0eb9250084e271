-- What holds of the root, and goes down with each step, holds of all that stands in a tree.
use Rattle.std.proofs.Common.{◌≡◌, ℕ, [], ◌∷◌, ◌++◌, refl, sym, subst, append-nil, append_assoc}
use Rattle.std.specs.Prelude.{Ok, Some}
use Rattle.fsfs_base.specs.Paths.{PathName, Path}
use Rattle.fsfs_base.specs.declared.kind.Kind.TheVariants.{Dir}
use Rattle.fsfs_revision.specs.Told.{RevisionBytes}
use Rattle.fsfs_noderev.specs.declared.node_rev.NodeRev.{NodeRev}
use Rattle.fsfs_revision.specs.Shows.Reading.{ChildOf, StandsAt}
use Rattle.fsfs_revision.specs.Shows.Chains.{copy_root_of}
use Rattle.fsfs_revision.proofs.Walks.{child_stands}
use Rattle.fsfs_revision.specs.Ancestry.CopyRoots.{later_root, IsRootedFrom, IsRootedAt}
use Rattle.fsfs_revision.proofs.Roots.{stands_rooted}

module _ (look : RevisionBytes) (r : ℕ) (Q : Path → NodeRev → Type 0)
    (down : (p : Path) (name : PathName) (dir v : NodeRev) → StandsAt look r p dir → dir.kind ≡ Dir → ChildOf look dir name (Ok (Some v)) → StandsAt look r (p ++ name ∷ []) v → Q p dir → Q (p ++ name ∷ []) v) where
  from : (front rest : Path) (dir v : NodeRev) (root last : ℕ × Path) → StandsAt look r front dir → Q front dir → IsRootedFrom look dir root rest v last → Q (front ++ rest) v
  from front [] dir v root last at q g = subst (λ (p : Path). Q p v) (sym (append-nil front)) (subst (λ (u : NodeRev). Q front u) (sym g.0) q)
  from front (name ∷ names) dir v root last at q g =
      let there = child_stands look r dir g.1 front name at g.0 g.2 in
      subst (λ (p : Path). Q p v) (append_assoc front (name ∷ []) names)
      (from (front ++ name ∷ []) names g.1 v (later_root root (copy_root_of g.1)) last there (down front name dir g.1 at g.0 g.2 there q) g.3)

  pub for_each : ((v : NodeRev) → StandsAt look r [] v → Q [] v) → (p : Path) (v : NodeRev) → StandsAt look r p v → Q p v
  for_each root p v at =
      let g = stands_rooted look r p v at in
      let top : StandsAt look r [] g.1.0 = (g.1.0, g.1.1, refl) in
      from [] p g.1.0 v (copy_root_of g.1.0) g.0 top (root g.1.0 top) g.1.2
