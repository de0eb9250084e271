use Rattle.std.proofs.Common.{◌≡◌, ℕ, true, false, sym, ap, subst, ◌∙◌}
use Rattle.fsfs_base.specs.Paths.{Path, same_path}
use Rattle.fsfs_base.proofs.PathLemmas.{same_path-is, same_path-refl}
use Rattle.fsfs_revision.specs.Shows.Chains.{copy_root_of}
use Rattle.fsfs_verify.proofs.same.same_root.Goals as goal

pub returns-then-get-clause-same : goal.returns-then-get-clause-same
returns-then-get-clause-same c = λ yes.
    let revs : (copy_root_of c.args.a.now).0 ≡ (copy_root_of c.args.b.now).0 = sym (c.get.ensures.same ∙ c.root_rev.ensures) ∙ c.if-get.true ∙ c.get-2.ensures.same ∙ c.root_rev-2.ensures in
    let paths : (copy_root_of c.args.a.now).1 ≡ (copy_root_of c.args.b.now).1 = sym c.root_path.ensures ∙ same_path-is c.root_path.result.now c.root_path-then-get.result.now (sym c.eq.ensures ∙ yes) ∙ c.root_path-then-get.ensures in
    λ i. (revs i, paths i)

pub returns-then-get-clause-other : goal.returns-then-get-clause-other
returns-then-get-clause-other c = λ no same.
    let paths : c.root_path.result.now ≡ c.root_path-then-get.result.now = c.root_path.ensures ∙ ap (λ (r : ℕ × Path). r.1) same ∙ sym c.root_path-then-get.ensures in
    let yes = c.eq.ensures ∙ subst (λ (p : Path). same_path c.root_path.result.now p ≡ true) paths (same_path-refl c.root_path.result.now) in
    let e : true ≡ false = sym yes ∙ no in cc
