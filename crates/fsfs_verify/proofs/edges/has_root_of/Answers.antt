use Rattle.std.proofs.Common.{◌≡◌, ℕ, false, nat_lt, sym, subst, ◌∙◌}
use Rattle.std.specs.Prelude.{◌==◌}
use Rattle.fsfs_revision.specs.Shows.Chains.{own_rev, copy_root_of}
use Rattle.fsfs_verify.proofs.EdgeLemmas.{root_next, after_kept, not_lt}
use Rattle.fsfs_verify.proofs.edges.has_root_of.Goals as goal

pub returns-else-lt-clause-yes : goal.returns-else-lt-clause-yes
returns-else-lt-clause-yes c = λ look precedes same.
    let u = c.in-Some.pred.now.node in
    let dir = c.args.dir.now in
    let pred = rw c.in-Some.is at precedes in
    let less : nat_lt c.own_rev.result c.root_rev.result ≡ false = not_lt (nat_lt c.own_rev.result c.root_rev.result) (c.own_rev.result == c.root_rev.result) (sym c.lt.ensures ∙ c.if-lt.false) in
    let from : nat_lt c.own_rev.result (copy_root_of dir).0 ≡ false = subst (λ (b : ℕ). nat_lt c.own_rev.result b ≡ false) c.root_rev.ensures less in
    let kept : nat_lt (own_rev u) (copy_root_of dir).0 ≡ false = subst (λ (a : ℕ). nat_lt a (copy_root_of dir).0 ≡ false) c.own_rev.ensures from in
    root_next look dir c.args.node.now u pred.0 (c.same_root-else-lt.ensures.same same ∙ sym (after_kept dir u kept))
