use Rattle.std.proofs.Common.{◌≡◌, ℕ, true, false, sym, ap, subst, ◌∙◌}
use Rattle.fsfs_base.specs.Paths.{Path, same_path}
use Rattle.fsfs_base.proofs.PathLemmas.{same_path-is, same_path-refl}
use Rattle.fsfs_revision.specs.Shows.Chains.{copy_root_of}
use Rattle.fsfs_verify.proofs.copies.is_own_root.Goals as goal

pub returns-then-get-clause-yes : goal.returns-then-get-clause-yes
returns-then-get-clause-yes c = λ yes.
    let revs : (copy_root_of c.args.copy.now).0 ≡ c.args.rev = sym (c.get.ensures.same ∙ c.root_rev.ensures) ∙ c.if-get.true ∙ c.get-2.ensures.same in
    let paths : (copy_root_of c.args.copy.now).1 ≡ c.args.copy.now.created_path = sym c.root_path.ensures ∙ same_path-is c.root_path.result.now c.args.copy.now.created_path (sym c.eq.ensures ∙ yes) in
    λ i. (revs i, paths i)

pub returns-then-get-clause-other : goal.returns-then-get-clause-other
returns-then-get-clause-other c = λ no same.
    let paths : c.root_path.result.now ≡ c.args.copy.now.created_path = c.root_path.ensures ∙ ap (λ (r : ℕ × Path). r.1) same in
    let yes = c.eq.ensures ∙ subst (λ (p : Path). same_path c.root_path.result.now p ≡ true) paths (same_path-refl c.root_path.result.now) in
    let e : true ≡ false = sym yes ∙ no in cc
