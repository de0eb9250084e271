use Rattle.std.proofs.Common.{refl, inl, inr}
use Rattle.std.specs.Prelude.{None}
use Rattle.fsfs_verify.specs.Roots.{IsRootBehind, IsWrongFirst, IsWrongRoot}
use Rattle.fsfs_sound.specs.Rules.{IsFirstRoot}
use Rattle.fsfs_verify.proofs.Findings.{finds_as}
use Rattle.fsfs_verify.proofs.roots.check_root.Goals as goal

pub returns-then-not-is_first_node-clause-told : goal.returns-then-not-is_first_node-clause-told
returns-then-not-is_first_node-clause-told g c = λ look knows.
    rw c.breaks_rule.ensures (inl (c.is_first_node.ensures.other c.if-not-is_first_node.true, refl))

pub returns-in-None-clause-told : goal.returns-in-None-clause-told
returns-in-None-clause-told g c = λ look knows.
    let v = c.args.root.now.node in
    let zero = c.is_first_node.ensures.yes c.if-not-is_first_node.false in
    rw c.in-None.is (finds_as (λ x. IsFirstRoot look v) (λ x. IsRootBehind look v None) (IsWrongFirst look v) (IsWrongRoot look v None) (λ x h. record { node = zero.0; copy = zero.1; no_copy = zero.2; follows = h }) (λ w h. inr h)
    c.check_first.result (c.check_first.ensures.told look knows))
