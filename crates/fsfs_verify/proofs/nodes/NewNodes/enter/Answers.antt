use Rattle.std.proofs.Common.{length, refl, sym, ◌∙◌, inl, arith}
use Rattle.std.specs.Prelude.{option_map}
use Rattle.std.proofs.lemmas.Result.{err_from_is_err_and}
use Rattle.fsfs_dag.specs.TreeWalks.{left}
use Rattle.fsfs_dag.specs.Views.{home_of}
use Rattle.fsfs_dag.specs.declared.node.PlacedNode.{PlacedNode}
use Rattle.fsfs_revision.proofs.Keeping.{keeps_trans}
use Rattle.fsfs_verify.specs.declared.nodes.NewNodes.{NewNodes}
use Rattle.fsfs_verify.specs.Steps.{IsWrongEntering}
use Rattle.fsfs_verify.specs.Walks.{IsWrongList}
use Rattle.fsfs_verify.proofs.AllLemmas.{knows_upto}
use Rattle.fsfs_verify.proofs.Findings.{wrong_from}
use Rattle.fsfs_verify.proofs.StepLemmas.{enters_err, entered}
use Rattle.fsfs_verify.proofs.nodes.NewNodes.enter.Goals as goal

pub returns-in_err-before-clause-told : goal.returns-in_err-before-clause-told
returns-in_err-before-clause-told g c = λ look knows le.
    let pred = option_map (λ (u : PlacedNode). u.node) c.args.pred in
    let p = err_from_is_err_and c.from_residual.result c.from_residual.ensures.1 in
    rw (p.1, p.2) (wrong_from (IsWrongList look pred) (IsWrongEntering look c.args.dir.node pred) c.in_err-before.field-0.0 (λ w h. inl h) (c.in_err-before.ensures.told look (home_of c.args.dir.node).rev knows le))

pub returns-in_err-enter-clause-told : goal.returns-in_err-enter-clause-told
returns-in_err-enter-clause-told g c = λ look knows le.
    let pred = option_map (λ (u : PlacedNode). u.node) c.args.pred in
    let known = knows_upto _ _ look (home_of c.args.dir.node).rev _ c.in_ok-before.ensures.kept (omega arith) knows in
    let p = err_from_is_err_and c.from_residual-in_err-enter.result c.from_residual-in_err-enter.ensures.1 in
    rw (p.1, p.2) (enters_err look c.len-level.result c.args.dir.node pred (left c.args.self.now.walk) (left c.enter.new.self) c.in_err-enter.field-0.0 (c.in_err-enter.ensures.told look known))

pub returns-clause-told : goal.returns-clause-told
returns-clause-told g c = λ look knows le.
    let pred = option_map (λ (u : PlacedNode). u.node) c.args.pred in
    let old = c.args.self.now in
    let known = knows_upto _ _ look (home_of c.args.dir.node).rev _ c.in_ok-before.ensures.kept (omega arith) knows in
    let new : NewNodes = record old { walk = c.enter.new.self; above = c.push.new.self } in
    entered look (length old.above.items) c.args.dir.node pred old new c.push.result _ (sym c.is_err.ensures.value ∙ c.if-is_err.false) c.push.ensures.items refl (c.in_ok-before.ensures.told look (home_of c.args.dir.node).rev knows le)
    c.len-level.result (c.len-level.ensures ∙ old.above.ok.0) (c.in_ok-enter.ensures.told look known) c.in_ok-enter.ensures.seen

pub returns-then-is_err-clause-kept : goal.returns-then-is_err-clause-kept
returns-then-is_err-clause-kept g c = keeps_trans _ _ _ c.in_ok-before.ensures.kept c.in_ok-enter.ensures.kept

pub returns-clause-kept : goal.returns-clause-kept
returns-clause-kept g c = keeps_trans _ _ _ c.in_ok-before.ensures.kept c.in_ok-enter.ensures.kept
