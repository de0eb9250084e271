-- One more point of a path's history.
use Rattle.std.proofs.Common.{◌≡◌, ℕ, zero, suc, ◌-◌, ◌<◌, List, [], ◌∷◌, ◌++◌, refl, sym, ap, ◌∙◌, Option, Some, arith, append_assoc}
use Rattle.fsfs_base.specs.Paths.{Path}
use Rattle.fsfs_tree.specs.Nodes.{Node, TreeFunction}
use Rattle.fsfs_tree.specs.PathHistories.{history_within, points_at, go_on, leads_to}

pub one_point : (done new all : List (ℕ × Path)) (left : ℕ) (tree : ℕ → TreeFunction) (r : ℕ) (p : Path) (n : Node) (next : Option (ℕ × Path)) → 0 < left → tree r p ≡ Some n → new ≡ done ++ (n.last_changed, p) ∷ [] → next ≡ leads_to p n
    → done ++ history_within left tree r p ≡ all → new ++ go_on (λ to. history_within (left - 1) tree to.0 to.1) next ≡ all
one_point done new all zero tree r p n next lt here pushed leads so = absurd (omega arith)
one_point done new all (suc most) tree r p n next lt here pushed leads so =
    let e : suc most - 1 ≡ most = omega arith in
    let on : (ℕ × Path) → List (ℕ × Path) = λ to. history_within most tree to.0 to.1 in
    ap (λ k. new ++ go_on (λ to. history_within k tree to.0 to.1) next) e
    ∙ (λ i. pushed i ++ go_on on (leads i))
    ∙ append_assoc done ((n.last_changed, p) ∷ []) (go_on on (leads_to p n))
    ∙ ap (λ o. done ++ points_at on p o) (sym here)
    ∙ so
