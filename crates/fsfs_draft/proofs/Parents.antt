-- The directory above what stands in a revision.
use Rattle.std.proofs.Common.{◌≡◌, ℕ, suc, [], ◌∷◌, ◌++◌, refl, subst}
use Rattle.std.specs.Prelude.{Result, Ok, Option, Some, None}
use Rattle.fsfs_base.specs.Paths.{PathName, Path}
use Rattle.fsfs_base.specs.declared.kind.Kind.{Kind}
use Rattle.fsfs_base.specs.declared.kind.Kind.TheVariants.{File, Dir}
use Rattle.fsfs_revision.specs.Told.{RevisionBytes}
use Rattle.fsfs_noderev.specs.declared.node_rev.NodeRev.{NodeRev}
use Rattle.fsfs_revision.specs.declared.wrong.Wrong.{Wrong}
use Rattle.fsfs_revision.specs.Shows.Reading.{ChildOf, Met, Stands, OrLacking, InDirectory, MetFrom, StandsAt}
use Rattle.fsfs_revision.specs.Shows.IdRules.{IsBehind}
use Rattle.fsfs_revision.specs.Shows.IdRules as rules
use Rattle.fsfs_revision.proofs.OneAnswer.{ok_same}
use Rattle.fsfs_revision.proofs.OneWalk.{stands_same}

-- ---- the directory above

parent_in : (kind : Kind) (depth : ℕ) (R : Result (Option NodeRev) Wrong → Type 0) (S T : NodeRev → Result Met Wrong → Type 0) (P : NodeRev → Type 0) (v : NodeRev)
    → InDirectory kind depth R S (Ok (Stands v)) → ((u : NodeRev) → S u (Ok (Stands v)) → (w : NodeRev) × T u (Ok (Stands w)) × P w) → (w : NodeRev) × InDirectory kind depth R T (Ok (Stands w)) × P w
parent_in File depth R S T P v on f = absurd cc
parent_in Dir depth R S T P v on f = by on.0 on.1 on.2
  where
    by : (o : Option NodeRev) → R (Ok o) → OrLacking (suc depth) S o (Ok (Stands v)) → (w : NodeRev) × InDirectory Dir depth R T (Ok (Stands w)) × P w
    by None child further = absurd cc
    by (Some u) child further = let w = f u further in (w.0, (Some u, child, w.1), w.2)

last_in : (look : RevisionBytes) (kind : Kind) (a v : NodeRev) (depth : ℕ) (name : PathName) → InDirectory kind depth (ChildOf look a name) (λ w r. r ≡ Ok (Stands w)) (Ok (Stands v)) → (kind ≡ Dir) × ChildOf look a name (Ok (Some v))
last_in look File a v depth name on = absurd cc
last_in look Dir a v depth name on = (refl, by on.0 on.1 on.2)
  where
    by : (o : Option NodeRev) → ChildOf look a name (Ok o) → OrLacking (suc depth) (λ w r. r ≡ Ok (Stands w)) o (Ok (Stands v)) → ChildOf look a name (Ok (Some v))
    by None child further = absurd cc
    by (Some u) child further =
        let same : u ≡ v = (let e = ok_same (Stands v) (Stands u) further in cc) in
        subst (λ (x : NodeRev). ChildOf look a name (Ok (Some x))) same child

parent_from : (look : RevisionBytes) (a v : NodeRev) (depth : ℕ) (p : Path) (name : PathName) → MetFrom look a depth (p ++ name ∷ []) (Ok (Stands v))
    → (d : NodeRev) × MetFrom look a depth p (Ok (Stands d)) × ((d.kind ≡ Dir) × ChildOf look d name (Ok (Some v)))
parent_from look a v depth [] name on = (a, refl, last_in look a.kind a v depth name on)
parent_from look a v depth (x ∷ p) name on =
    parent_in a.kind depth (ChildOf look a x) (λ w. MetFrom look w (suc depth) (p ++ name ∷ [])) (λ w. MetFrom look w (suc depth) p) (λ d. (d.kind ≡ Dir) × ChildOf look d name (Ok (Some v))) v on
    (λ u further. parent_from look u v (suc depth) p name further)

pub parent : (look : RevisionBytes) (r : ℕ) (p : Path) (name : PathName) (v : NodeRev) → StandsAt look r (p ++ name ∷ []) v → (d : NodeRev) × StandsAt look r p d × ((d.kind ≡ Dir) × ChildOf look d name (Ok (Some v)))
parent look r p name v at = let w = parent_from look at.0 v 0 p name at.2 in (w.0, (at.0, at.1, w.1), w.2)

pub child_at : (look : RevisionBytes) (r : ℕ) (p : Path) (name : PathName) (d v : NodeRev) → StandsAt look r p d → StandsAt look r (p ++ name ∷ []) v → ChildOf look d name (Ok (Some v))
child_at look r p name d v atd at =
    let w = parent look r p name v at in
    subst (λ (x : NodeRev). ChildOf look x name (Ok (Some v))) (stands_same look r p w.0 d w.1 atd) w.2.1

pub behind_trans : (look : RevisionBytes) (v u w : NodeRev) → IsBehind look v u → IsBehind look u w → IsBehind look v w
behind_trans look _ _ w (rules.Next v u p) more = rules.Further v u w p more
behind_trans look _ _ w (rules.Further v x u p rest) more = rules.Further v x w p (behind_trans look x u w rest more)
