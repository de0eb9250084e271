use Rattle.std.proofs.Common.{Some, [], ◌∷◌, ◌++◌, subst}
use Rattle.std.specs.Prelude.{Option, Ok}
use Rattle.std.proofs.lemmas.Result.{err_from_is_err_and}
use Rattle.fsfs_draft.specs.Walks.{IsChild}
use Rattle.fsfs_draft.specs.declared.walk.Child.{Child}
use Rattle.fsfs_edit.proofs.way.beneath.Goals as goal

pub returns-in_err-next-clause-draft : goal.returns-in_err-next-clause-draft
returns-in_err-next-clause-draft g c = λ look trees top base nodes path knows shown le draft at has.
    let r = err_from_is_err_and c.from_residual.result c.from_residual.ensures.1 in
    rw (r.1, r.2) (c.in_err-next.ensures.draft look trees top base nodes path knows shown le draft at has)

pub returns-in-None-clause-draft : goal.returns-in-None-clause-draft
returns-in-None-clause-draft g c = λ look trees top base nodes path knows shown le draft at has.
    let told : IsChild look trees base nodes (path ++ c.args.name.now ∷ []) (Ok c.in_ok-next.field-0) = c.in_ok-next.ensures.draft look trees top base nodes path knows shown le draft at has in
    (has, subst (λ (o : Option Child). IsChild look trees base nodes (path ++ c.args.name.now ∷ []) (Ok o)) c.in-None.is told)

pub returns-in-Some-clause-draft : goal.returns-in-Some-clause-draft
returns-in-Some-clause-draft g c = λ look trees top base nodes path knows shown le draft at has.
    let told : IsChild look trees base nodes (path ++ c.args.name.now ∷ []) (Ok c.in_ok-next.field-0) = c.in_ok-next.ensures.draft look trees top base nodes path knows shown le draft at has in
    let child : IsChild look trees base nodes (path ++ c.args.name.now ∷ []) (Ok (Some c.in-Some.child)) = subst (λ (o : Option Child). IsChild look trees base nodes (path ++ c.args.name.now ∷ []) (Ok o)) c.in-Some.is told in
    (has, child.1, child.0)
