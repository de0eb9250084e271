use Rattle.std.proofs.Common.{[], ◌∷◌, ◌++◌, subst}
use Rattle.std.specs.Prelude.{Option, Ok}
use Rattle.std.proofs.lemmas.Result.{err_from_is_err_and}
use Rattle.fsfs_base.specs.declared.kind.Kind.TheVariants.{Dir}
use Rattle.fsfs_draft.specs.Walks.{IsChild}
use Rattle.fsfs_draft.specs.declared.walk.Child.{Child}
use Rattle.fsfs_txn.proofs.Looking.{drafted, child_none, child_some}
use Rattle.fsfs_txn.proofs.edits.above.is_taken.Goals as goal

pub returns-in_err-next-clause-told : goal.returns-in_err-next-clause-told
returns-in_err-next-clause-told g c = λ look trees top base tree marks path knows shown le d at has.
    let r = err_from_is_err_and c.from_residual.result c.from_residual.ensures.1 in
    rw (r.1, r.2) (c.in_err-next.ensures.draft look trees top base d.0.shows.own path knows shown le d.0.shows.is_draft at (drafted look trees top base (g.N.Own.txn c.args.own.now) (g.N.Own.folder c.args.own.now) tree marks d path Dir has))

pub returns-in-None-clause-told : goal.returns-in-None-clause-told
returns-in-None-clause-told g c = λ look trees top base tree marks path knows shown le d at has.
    let nodes = d.0.shows.own in
    let p = path ++ c.args.name.now ∷ [] in
    let told : IsChild look trees base nodes p (Ok c.in_ok-next.field-0) = c.in_ok-next.ensures.draft look trees top base nodes path knows shown le d.0.shows.is_draft at (drafted look trees top base (g.N.Own.txn c.args.own.now) (g.N.Own.folder c.args.own.now) tree marks d path Dir has) in
    child_none look trees top base (g.N.Own.txn c.args.own.now) (g.N.Own.folder c.args.own.now) tree marks d p (subst (λ (o : Option Child). IsChild look trees base nodes p (Ok o)) c.in-None.is told)

pub returns-in-Some-clause-told : goal.returns-in-Some-clause-told
returns-in-Some-clause-told g c = λ look trees top base tree marks path knows shown le d at has.
    let nodes = d.0.shows.own in
    let p = path ++ c.args.name.now ∷ [] in
    let told : IsChild look trees base nodes p (Ok c.in_ok-next.field-0) = c.in_ok-next.ensures.draft look trees top base nodes path knows shown le d.0.shows.is_draft at (drafted look trees top base (g.N.Own.txn c.args.own.now) (g.N.Own.folder c.args.own.now) tree marks d path Dir has) in
    child_some look trees top base (g.N.Own.txn c.args.own.now) (g.N.Own.folder c.args.own.now) tree marks d p c.in-Some._child (subst (λ (o : Option Child). IsChild look trees base nodes p (Ok o)) c.in-Some.is told)
