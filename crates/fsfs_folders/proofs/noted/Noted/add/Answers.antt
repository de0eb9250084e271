use Rattle.std.proofs.Common.{◌≡◌, ◌∷◌, [], List, ℕ, true, sym, ap, subst, ◌∙◌, arith}
use Rattle.fsfs_folders.specs.System.Paths.{has_path}
use Rattle.fsfs_folders.proofs.NotedLemmas.{has_last, within_longer, has_member}
use Rattle.fsfs_folders.proofs.noted.Noted.add.Goals as goal

pub returns-then-is-clause-has : goal.returns-then-is-clause-has
returns-then-is-clause-has c =
    let xs = c.deref-noted-items.result.now in
    let x = c.noted-item.result in
    let same : x ≡ c.args.path = c.is.ensures.0 c.if-is.true in
    let found : has_path xs c.args.path ≡ true = subst (λ p. has_path xs p ≡ true) (sym c.noted-item.is ∙ same) (has_member xs c.loop-noted.noted-index x (omega arith)) in
    subst (λ ys. has_path ys c.args.path ≡ true) (c.deref-noted-items.ensures.value ∙ c.self.view_is) found

pub returns-clause-has : goal.returns-clause-has
returns-clause-has c = ap (λ (ys : List (List ℕ)). has_path ys c.args.path) c.in_ok-push.ensures.items ∙ has_last c.self.inside.paths.items c.args.path

pub returns-clause-more : goal.returns-clause-more
returns-clause-more c = λ q h.
    ap (λ (ys : List (List ℕ)). has_path ys q) c.in_ok-push.ensures.items
    ∙ within_longer c.self.inside.paths.items (c.args.path ∷ []) q (ap (λ (ys : List (List ℕ)). has_path ys q) c.self.view_is ∙ h)
