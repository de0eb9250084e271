-- The levels of what is left: they are those of the directories above.
use Rattle.std.proofs.Common.{◌≡◌, ◌≤◌, ◌<◌, ◌+◌, ◌++◌, ℕ, suc, List, [], ◌∷◌, length, take, refl, sym, ap, subst, ◌∙◌, inl, inr, arith, Vec, Global, length-append, length-take-le}
use Rattle.std.specs.Prelude.{Option}
use Rattle.fsfs_noderev.specs.declared.node_rev.NodeRev.{NodeRev}
use Rattle.fsfs_revision.specs.Told.{RevisionBytes}
use Rattle.fsfs_revision.specs.Shows.Reading.{DirEntry}
use Rattle.fsfs_dag.specs.declared.tree_walk.TreeWalk.{TreeWalk}
use Rattle.fsfs_dag.specs.TreeWalks.{Left, left, at_level}
use Rattle.fsfs_verify.specs.declared.above.Above.{Above}
use Rattle.fsfs_verify.specs.declared.nodes.NewNodes.{NewNodes}
use Rattle.fsfs_verify.specs.Steps.{IsSameStack, TakesContents}
use Rattle.fsfs_verify.specs.Walks.{AreBelow}

pub below_more : (depth more : ℕ) (rest : Left) → depth ≤ more → AreBelow depth rest → AreBelow more rest
below_more depth more [] le below = tt
below_more depth more (p ∷ rest) le below = let high = below.1 in (below.0, omega (arith, le, high), below.2)

below_entered : (depth more : ℕ) (entries : List DirEntry) (rest : Left) → suc depth ≤ more → AreBelow depth rest → AreBelow more (at_level (suc depth) entries ++ rest)
below_entered depth more [] rest le below = below_more depth more rest (omega (arith, le)) below
below_entered depth more (e ∷ entries) rest le below = (omega arith, le, below_entered depth (suc depth) entries rest (omega arith) below)

-- a directory more is above, or none
pub contents_below : (look : RevisionBytes) (level : ℕ) (v : NodeRev) (pred : Option NodeRev) (old new : NewNodes) → TakesContents look level v pred old new → level ≡ length old.above.items
    → AreBelow (length old.above.items) (left old.walk) → AreBelow (length new.above.items) (left new.walk)
contents_below look level v pred old new (inl h) depth below =
    let e = h.1 in
    let more : length new.above.items ≡ length old.above.items + 1 = ap (λ (xs : List Above). length xs) e.above ∙ length-append old.above.items (e.last ∷ []) in
    let here : AreBelow level (left old.walk) = subst (λ (n : ℕ). AreBelow n (left old.walk)) (sym depth) below in
    subst (λ (l : Left). AreBelow (length new.above.items) l) (sym e.left_is) (below_entered level (length new.above.items) e.entries (left old.walk) (omega (arith, more, depth)) here)
contents_below look level v pred old new (inr h) depth below =
    let s = h.2 in
    subst (λ (a : Vec Above Global). AreBelow (length a.items) (left new.walk)) (sym s.above) (subst (λ (w : TreeWalk). AreBelow (length old.above.items) (left w)) (sym s.walk) below)

-- so many directories are left above
pub depth_taken : (level : ℕ) (entry : DirEntry) (rest : Left) (above short : List Above) → AreBelow (length above) ((level, entry) ∷ rest) → short ≡ take level above → length short ≡ level
depth_taken level entry rest above short below is = ap (λ (xs : List Above). length xs) is ∙ length-take-le level above below.1
