use Rattle.std.proofs.Common.{◌≡◌, ℕ, length, Vec, Global, refl, sym, ap, subst, ◌∙◌, arith}
use Rattle.std.specs.Prelude.{option_map}
use Rattle.std.proofs.lemmas.Result.{err_from_is_err_and}
use Rattle.fsfs_revision.proofs.Keeping.{keeps_trans}
use Rattle.fsfs_dag.specs.declared.node.PlacedNode.{PlacedNode}
use Rattle.fsfs_verify.specs.Preds.{IsWrongProps}
use Rattle.fsfs_verify.specs.Steps.{IsWrongBeginning, IsWrongCopyOf, IsWrongContents, TakesContents, TakesNode, IsWrongNode, Beginning, Copying, WithProps, WithContents}
use Rattle.fsfs_verify.specs.declared.above.Above.{Above}
use Rattle.fsfs_verify.specs.Finds.{Finds}
use Rattle.fsfs_verify.proofs.AllLemmas.{knows_upto}
use Rattle.fsfs_verify.proofs.Findings.{wrong_from, finds_with}
use Rattle.fsfs_verify.proofs.StepLemmas.{node_taken, precedes_as}
use Rattle.fsfs_verify.proofs.nodes.NewNodes.take_node.Goals as goal

pub returns-in_err-begin-clause-told : goal.returns-in_err-begin-clause-told
returns-in_err-begin-clause-told g c = λ look begun copied drawn knows own lasting precedes held.
    let v = c.args.node.node in
    let pred = option_map (λ (u : PlacedNode). u.node) c.args.pred in
    let rev = c.args.self.now.rev in
    let p = err_from_is_err_and c.from_residual.result c.from_residual.ensures.1 in
    rw (p.1, p.2) (wrong_from (IsWrongBeginning rev begun v) (IsWrongNode look rev begun copied drawn v pred) c.in_err-begin.field-0.0 (λ w h. Beginning h)
    (c.in_err-begin.ensures.told look begun copied drawn lasting (precedes_as look v c.args.pred c.as_ref.result c.as_ref.ensures.value precedes) held))

pub returns-in_err-take_copy-clause-told : goal.returns-in_err-take_copy-clause-told
returns-in_err-take_copy-clause-told g c = λ look begun copied drawn knows own lasting precedes held.
    let v = c.args.node.node in
    let pred = option_map (λ (u : PlacedNode). u.node) c.args.pred in
    let rev = c.args.self.now.rev in
    let b = c.in_ok-begin.ensures.told look begun copied drawn lasting (precedes_as look v c.args.pred c.as_ref.result c.as_ref.ensures.value precedes) held in
    let p = err_from_is_err_and c.from_residual-in_err-take_copy.result c.from_residual-in_err-take_copy.ensures.1 in
    rw (p.1, p.2) (wrong_from (IsWrongCopyOf look rev copied drawn v) (IsWrongNode look rev begun copied drawn v pred) c.in_err-take_copy.field-0.0 (λ w h. Copying h) (c.in_err-take_copy.ensures.told look b.0 copied drawn knows own lasting b.2))

pub returns-in_err-check_props-clause-told : goal.returns-in_err-check_props-clause-told
returns-in_err-check_props-clause-told g c = λ look begun copied drawn knows own lasting precedes held.
    let v = c.args.node.node in
    let pred = option_map (λ (u : PlacedNode). u.node) c.args.pred in
    let rev = c.args.self.now.rev in
    let same = c.in_ok-take_copy.ensures.same.rev in
    let known = knows_upto _ _ look rev _ c.in_ok-take_copy.ensures.kept (omega (arith, same)) knows in
    let p = err_from_is_err_and c.from_residual-in_err-check_props.result c.from_residual-in_err-check_props.ensures.1 in
    rw (p.1, p.2) (wrong_from (IsWrongProps look v) (IsWrongNode look rev begun copied drawn v pred) c.in_err-check_props.field-0.0 (λ w h. WithProps h) (c.in_err-check_props.ensures.told look known (own ∙ sym same) (precedes_as look v c.args.pred c.as_ref-2.result c.as_ref-2.ensures.value precedes)))

pub returns-clause-told : goal.returns-clause-told
returns-clause-told g c = λ look begun copied drawn knows own lasting precedes held.
    let v = c.args.node.node in
    let pred = option_map (λ (u : PlacedNode). u.node) c.args.pred in
    let rev = c.args.self.now.rev in
    let level = length c.args.self.now.above.items in
    let old = c.args.self.now in
    let mid = c.take_copy.new.self in
    let new = c.take_contents.new.self in
    let b = c.in_ok-begin.ensures.told look begun copied drawn lasting (precedes_as look v c.args.pred c.as_ref.result c.as_ref.ensures.value precedes) held in
    let k = c.in_ok-take_copy.ensures.told look b.0 copied drawn knows own lasting b.2 in
    let same = c.in_ok-take_copy.ensures.same.rev in
    let known = knows_upto _ _ look rev _ c.in_ok-take_copy.ensures.kept (omega (arith, same)) knows in
    let props = c.in_ok-check_props.ensures.told look known (own ∙ sym same) (precedes_as look v c.args.pred c.as_ref-2.result c.as_ref-2.ensures.value precedes) in
    let stack = c.in_ok-take_copy.ensures.stack in
    let depth : length mid.above.items ≡ level = ap (λ (a : Vec Above Global). length a.items) stack.above in
    let kept = keeps_trans _ _ _ c.in_ok-take_copy.ensures.kept c.in_ok-check_props.ensures.kept in
    finds_with (new.copies ≡ mid.copies) (λ x. TakesContents look level v pred mid new) (λ x. TakesNode look rev level begun copied drawn v pred old new c.take_copy.new.parts) (IsWrongContents look v pred) (IsWrongNode look rev begun copied drawn v pred)
    (λ x copies h. node_taken look rev level begun copied drawn v pred old mid new c.take_copy.new.parts b.0 k.0 k.2 b.1 k.1 stack props h copies) (λ w h. WithContents h)
    c.take_contents.result c.take_contents.ensures.copies
    (subst (λ (n : ℕ). Finds (λ x. TakesContents look n v pred mid new) (IsWrongContents look v pred) c.take_contents.result) depth
    (c.take_contents.ensures.told look (knows_upto _ _ look rev _ kept (omega (arith, own)) knows) precedes))

pub returns-in_err-check_props-clause-kept : goal.returns-in_err-check_props-clause-kept
returns-in_err-check_props-clause-kept g c = keeps_trans _ _ _ c.in_ok-take_copy.ensures.kept c.in_err-check_props.ensures.kept

pub returns-clause-kept : goal.returns-clause-kept
returns-clause-kept g c = keeps_trans _ _ _ (keeps_trans _ _ _ c.in_ok-take_copy.ensures.kept c.in_ok-check_props.ensures.kept) c.take_contents.ensures.kept
