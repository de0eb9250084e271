use Rattle.std.proofs.Common.{◌≡◌, ◌≤◌, true, Ok, sym, ap, subst, ◌∙◌, arith}
use Rattle.fsfs_revision.specs.Nodes.{is_root, is_ordered}
use Rattle.std.proofs.lemmas.Result.{err_from_is_err_and}
use Rattle.fsfs_noderev.specs.Writing.{HasText}
use Rattle.fsfs_noderev.specs.declared.node_rev.NodeRev.{NodeRev}
use Rattle.fsfs_revision.specs.declared.damage.RevOffset.{RevOffset}
use Rattle.fsfs_dag.specs.declared.node.PlacedNode.{PlacedNode}
use Rattle.fsfs_dag.proofs.Steps.{told_later}
use Rattle.fsfs_dag.proofs.Windows.{root_no_end, root_no_node, as_root_of, no_root, own_place, root_own, placed_root}
use Rattle.fsfs_revision.proofs.Keeping.{keeps_trans}
use Rattle.fsfs_dag.proofs.reading.root_of.Goals as goal

pub returns-in_err-at-clause-told : goal.returns-in_err-at-clause-told
returns-in_err-at-clause-told g c = λ look knows.
    let p = err_from_is_err_and c.from_residual.result c.from_residual.ensures.1 in
    rw (p.1, p.2) (root_no_end (λ (at : RevOffset). at) (λ (found : PlacedNode). found.node) look c.args.rev c.in_err-at.field-0.0 (c.in_err-at.ensures.told look (knows c.args.rev (omega arith))))

pub returns-in_err-read-clause-told : goal.returns-in_err-read-clause-told
returns-in_err-read-clause-told g c = λ look knows.
    let p = err_from_is_err_and c.from_residual-in_err-read.result c.from_residual-in_err-read.ensures.1 in
    let at_le : c.in_ok-at.at.rev ≤ c.args.rev = omega (arith, c.in_ok-at.ensures.rev) in
    let later = told_later _ _ look c.in_ok-at.at.rev c.in_ok-at.ensures.kept (knows c.in_ok-at.at.rev at_le) in
    rw (p.1, p.2) (root_no_node look c.args.rev c.in_ok-at.at (c.in_ok-at.ensures.told look (knows c.args.rev (omega arith))) (λ (v : NodeRev). v) (λ (found : PlacedNode). found.node) c.in_err-read.field-0.0 (c.in_err-read.ensures.told look later))

pub returns-in_err-node-clause-told : goal.returns-in_err-node-clause-told
returns-in_err-node-clause-told g c = λ look knows.
    let p = err_from_is_err_and c.from_residual-in_err-node.result c.from_residual-in_err-node.ensures.1 in
    let at_le : c.in_ok-at.at.rev ≤ c.args.rev = omega (arith, c.in_ok-at.ensures.rev) in
    let later = told_later _ _ look c.in_ok-at.at.rev c.in_ok-at.ensures.kept (knows c.in_ok-at.at.rev at_le) in
    rw (p.1, p.2) (no_root look c.args.rev c.in_ok-at.at (c.in_ok-at.ensures.told look (knows c.args.rev (omega arith))) (λ (v : NodeRev). v) (λ (found : PlacedNode). found.node) c.in_ok-read.read c.in_err-node.field-0.0 (c.in_ok-read.ensures.told look later) c.in_err-node.ensures.read)

pub returns-clause-told : goal.returns-clause-told
returns-clause-told g c = λ look knows.
    let at_le : c.in_ok-at.at.rev ≤ c.args.rev = omega (arith, c.in_ok-at.ensures.rev) in
    let later = told_later _ _ look c.in_ok-at.at.rev c.in_ok-at.ensures.kept (knows c.in_ok-at.at.rev at_le) in
    as_root_of look c.args.rev c.in_ok-at.at (c.in_ok-at.ensures.told look (knows c.args.rev (omega arith))) c.in_ok-read.read (Ok c.in_ok-node.node) (c.in_ok-read.ensures.told look later) c.in_ok-node.ensures.read

pub invariant_of-result : goal.invariant_of-result
invariant_of-result g c =
    let root = c.in_ok-node.ensures.read in
    let ordered = subst (λ (v : NodeRev). is_ordered c.in_ok-at.at v ≡ true) (sym root.0) c.in_ok-read.ensures.ordered in
    let own = subst (λ (v : NodeRev). is_root c.in_ok-at.at v ≡ true) (sym root.0) root.1 in
    record { ordered = placed_root c.in_ok-at.at c.in_ok-node.node own ordered }

pub returns-in_err-node-clause-kept : goal.returns-in_err-node-clause-kept
returns-in_err-node-clause-kept g c = keeps_trans _ _ _ c.in_ok-at.ensures.kept c.in_ok-read.ensures.kept

pub returns-clause-kept : goal.returns-clause-kept
returns-clause-kept g c = keeps_trans _ _ _ c.in_ok-at.ensures.kept c.in_ok-read.ensures.kept

pub returns-clause-rev : goal.returns-clause-rev
returns-clause-rev g c =
    let root = c.in_ok-node.ensures.read in
    let own = subst (λ (v : NodeRev). is_root c.in_ok-at.at v ≡ true) (sym root.0) root.1 in
    ap (λ (a : RevOffset). a.rev) (own_place c.in_ok-at.at c.in_ok-node.node (root_own c.in_ok-at.at c.in_ok-node.node own)) ∙ c.in_ok-at.ensures.rev

pub returns-clause-writable : goal.returns-clause-writable
returns-clause-writable g c = subst HasText (sym c.in_ok-node.ensures.read.0) c.in_ok-read.ensures.writable
