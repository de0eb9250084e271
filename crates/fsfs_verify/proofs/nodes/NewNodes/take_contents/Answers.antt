use Rattle.std.proofs.Common.{◌<◌, ◌+◌, length, refl, inl, inr}
use Rattle.std.specs.Prelude.{option_map}
use Rattle.fsfs_dag.specs.TreeWalks.{left, total, weight}
use Rattle.fsfs_dag.specs.Views.{home_of}
use Rattle.fsfs_dag.specs.declared.node.PlacedNode.{PlacedNode}
use Rattle.fsfs_dag.proofs.TreeWalkLemmas.{weighs}
use Rattle.fsfs_verify.specs.Steps.{IsEntered, IsWrongEntering, TakesContents, IsWrongContents}
use Rattle.fsfs_verify.proofs.Findings.{finds_as}
use Rattle.fsfs_verify.proofs.StepLemmas.{on_ok, file_found, pred_le, precedes_as}
use Rattle.fsfs_verify.proofs.nodes.NewNodes.take_contents.Goals as goal

pub returns-in-Dir-clause-told : goal.returns-in-Dir-clause-told
returns-in-Dir-clause-told g c = λ look knows precedes.
    let v = c.args.node.node in
    let pred = option_map (λ (u : PlacedNode). u.node) c.args.pred in
    finds_as (λ x. IsEntered look (length c.args.self.now.above.items) v pred c.args.self.now c.enter.new.self) (λ x. TakesContents look (length c.args.self.now.above.items) v pred c.args.self.now c.enter.new.self) (IsWrongEntering look v pred) (IsWrongContents look v pred)
    (λ x h. inl (c.in-Dir.is, h)) (λ w h. inr (c.in-Dir.is, h)) c.enter.result (c.enter.ensures.told look knows (pred_le look v c.args.node.ordered c.args.pred precedes))

pub returns-in-File-clause-told : goal.returns-in-File-clause-told
returns-in-File-clause-told g c = λ look knows precedes.
    let v = c.args.node.node in
    let pred = option_map (λ (u : PlacedNode). u.node) c.args.pred in
    file_found look (length c.args.self.now.above.items) v pred c.args.self.now _ c.check_text.result c.in-File.is refl refl
    (c.check_text.ensures.told look knows (precedes_as look v c.args.pred c.as_ref.result c.as_ref.ensures.value precedes))

pub returns-in-File-clause-total : goal.returns-in-File-clause-total
returns-in-File-clause-total g c =
    let walk = c.args.self.now.walk in
    on_ok c.check_text.result (total (left walk) < total (left walk) + weight (home_of c.args.node.node)) (weighs (total (left walk)) (home_of c.args.node.node))
