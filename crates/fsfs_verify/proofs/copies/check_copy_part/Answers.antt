use Rattle.std.proofs.Common.{◌≡◌, true, false, refl, sym, subst, ◌∙◌, Err, inl}
use Rattle.std.specs.Prelude.{◌≢◌}
use Rattle.std.proofs.lemmas.Result.{err_from_is_err_and}
use Rattle.fsfs_noderev.specs.declared.node_id.Part.{Part}
use Rattle.fsfs_dag.specs.Same.{same_part}
use Rattle.fsfs_dag.proofs.IdLemmas.{part_true, part_self}
use Rattle.fsfs_revision.specs.Shows.Chains.{Chain}
use Rattle.fsfs_verify.specs.Copies.{Directory, IsWrongPart}
use Rattle.fsfs_verify.proofs.ChainLemmas.{part_kept, part_new, drawn_found}
use Rattle.fsfs_verify.proofs.Findings.{wrong_from}
use Rattle.fsfs_verify.proofs.copies.check_copy_part.Goals as goal

pub returns-then-has_copy_part-clause-told : goal.returns-then-has_copy_part-clause-told
returns-then-has_copy_part-clause-told g c = λ look begun copied drawn knows own lasting precedes held.
    let dir = c.args.dir.now.node in
    let part = c.args.node.now.node.id.copy in
    (drawn, inl (Directory (sym (part_true dir.id.copy part (sym c.has_copy_part.ensures ∙ c.if-has_copy_part.true))), refl), held)

pub returns-in_err-has_part_before-clause-told : goal.returns-in_err-has_part_before-clause-told
returns-in_err-has_part_before-clause-told g c = λ look begun copied drawn knows own lasting precedes held.
    let p = err_from_is_err_and c.from_residual.result c.from_residual.ensures.1 in
    let v = c.args.node.now.node in
    rw (p.1, p.2) (wrong_from (λ w. Chain look v (Err w)) (IsWrongPart look c.args.rev copied c.args.dir.now.node v) c.in_err-has_part_before.field-0.0 (λ w h. inl h) (c.in_err-has_part_before.ensures.told look (rw (sym own) at knows) precedes))

pub returns-then-branch-clause-told : goal.returns-then-branch-clause-told
returns-then-branch-clause-told g c = λ look begun copied drawn knows own lasting precedes held.
    let v = c.args.node.now.node in
    let found = rw c.if-branch.true at (c.in_ok-has_part_before.ensures.told look (rw (sym own) at knows) precedes) in
    (drawn, inl (part_kept look v c.args.dir.now.node found, refl), held)

pub returns-clause-told : goal.returns-clause-told
returns-clause-told g c = λ look begun copied drawn knows own lasting precedes held.
    let v = c.args.node.now.node in
    let dir = c.args.dir.now.node in
    let no : same_part dir.id.copy v.id.copy ≡ false = sym c.has_copy_part.ensures ∙ c.if-has_copy_part.false in
    let other : v.id.copy ≢ dir.id.copy = λ same. (let yes = subst (λ (x : Part). same_part dir.id.copy x ≡ true) (sym same) (part_self dir.id.copy) in let e : true ≡ false = sym yes ∙ no in cc) in
    let none = rw c.if-branch.false at (c.in_ok-has_part_before.ensures.told look (rw (sym own) at knows) precedes) in
    drawn_found look v c.args.rev begun copied drawn c.draw_part.new.self dir (part_new look v dir other none) c.draw_part.result (c.draw_part.ensures.told begun copied drawn lasting held)
