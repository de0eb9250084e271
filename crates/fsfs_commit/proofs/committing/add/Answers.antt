use Rattle.std.proofs.Common.{refl, sym, subst, ◌∙◌}
use Rattle.fsfs_machine.specs.declared.machine.Section.TheVariants.{Begun}
use Rattle.fsfs_turn.specs.Views.{MayAdopt, coming_of}
use Rattle.fsfs_commit.specs.Courses.{IsMade, Published, StoppedAt}
use Rattle.fsfs_base.proofs.ResultLemmas.{if_err, on_ok}
use Rattle.fsfs_commit.proofs.committing.add.Goals as goal

-- ---- the calls are due

pub give_lock-requires : goal.give_lock-requires
give_lock-requires g c = record { due = λ bound. let w = c.requires.due bound in (w.view, w.known, record { inside = Begun; is = w.may.begun; quiet = refl }) }

pub publish-requires-clause-written : goal.publish-requires-clause-written
publish-requires-clause-written g c = on_ok c.write-draft.result.1 tt _ c.in-Ok.is c.write-draft.ensures.written

pub publish-requires-clause-pinned : goal.publish-requires-clause-pinned
publish-requires-clause-pinned g c = λ bound. c.write-draft.ensures.pinned ∙ c.requires.pinned bound

pub publish-requires-clause-due : goal.publish-requires-clause-due
publish-requires-clause-due g c = λ bound.
    let w = c.requires.due bound in
    let same = c.write-draft.ensures.same in
    record {
      view = w.view;
      txn = w.txn;
      next = w.next;
      bytes = w.bytes;
      known = w.known;
      held = on_ok c.write-draft.result.1 tt _ c.in-Ok.is (c.write-draft.ensures.held w.txn w.next w.bytes w.held);
      may = subst (λ q. MayAdopt w.view w.txn q w.next w.bytes) (sym same) w.may;
      made = subst (λ q. IsMade w.view q c.args.made.now.rev c.args.made.now.rev_file c.args.made.now.props_file c.args.made.now.properties.items c.args.made.now.current.items) (sym same) w.made;
    }

-- ---- what they come to

pub returns-in-Err-clause-err : goal.returns-in-Err-clause-err
returns-in-Err-clause-err g c = λ v txn next bytes known held may made.
    let o = c.give_lock.ensures.turned v known (record { inside = Begun; is = may.begun; quiet = refl }) in
    (o.0, o.1, (o.2, if_err c.write-draft.result.1 c.in-Err.refusal _ c.in-Err.is (c.write-draft.ensures.refused txn next bytes held)))

pub returns-in-Ok-publish-clause-ok : goal.returns-in-Ok-publish-clause-ok
returns-in-Ok-publish-clause-ok g c = λ v txn next bytes known held may made.
    let same = c.write-draft.ensures.same in
    let here = on_ok c.write-draft.result.1 tt _ c.in-Ok.is (c.write-draft.ensures.held txn next bytes held) in
    let p = c.in-Ok-publish.ensures.ok v txn next bytes known here (subst (λ q. MayAdopt v txn q next bytes) (sym same) may)
    (subst (λ q. IsMade v q c.args.made.now.rev c.args.made.now.rev_file c.args.made.now.props_file c.args.made.now.properties.items c.args.made.now.current.items) (sym same) made) in
    (p.0, p.1, subst (λ q. Published txn q next bytes v p.0) same p.2)

pub returns-in-Err-publish-clause-err : goal.returns-in-Err-publish-clause-err
returns-in-Err-publish-clause-err g c = λ v txn next bytes known held may made.
    let same = c.write-draft.ensures.same in
    let here = on_ok c.write-draft.result.1 tt _ c.in-Ok.is (c.write-draft.ensures.held txn next bytes held) in
    let p = c.in-Err-publish.ensures.err v txn next bytes known here (subst (λ q. MayAdopt v txn q next bytes) (sym same) may)
    (subst (λ q. IsMade v q c.args.made.now.rev c.args.made.now.rev_file c.args.made.now.props_file c.args.made.now.properties.items c.args.made.now.current.items) (sym same) made) in
    (p.0, p.1, subst (λ q. StoppedAt c.in-Err-publish.place (coming_of v txn q next bytes) v p.0) same p.2)

pub returns-in-Err-clause-cause : goal.returns-in-Err-clause-cause
returns-in-Err-clause-cause g c = λ fault. absurd (if_err c.write-draft.result.1 c.in-Err.refusal _ c.in-Err.is c.write-draft.ensures.no_disk fault)

pub returns-in-Err-clause-found : goal.returns-in-Err-clause-found
returns-in-Err-clause-found g c = if_err c.write-draft.result.1 c.in-Err.refusal _ c.in-Err.is c.write-draft.ensures.found

pub returns-in-Ok-publish-clause-named : goal.returns-in-Ok-publish-clause-named
returns-in-Ok-publish-clause-named g c = λ name is. c.in-Ok-publish.ensures.named name (c.write-draft.ensures.named name is)

pub returns-in-Err-publish-clause-named : goal.returns-in-Err-publish-clause-named
returns-in-Err-publish-clause-named g c = λ name is. c.in-Err-publish.ensures.named name (c.write-draft.ensures.named name is)

pub returns-in-Err-clause-left : goal.returns-in-Err-clause-left
returns-in-Err-clause-left g c = λ made. if_err c.write-draft.result.1 c.in-Err.refusal _ c.in-Err.is (c.write-draft.ensures.blamed made)
