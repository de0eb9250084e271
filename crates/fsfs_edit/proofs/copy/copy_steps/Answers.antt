use Rattle.std.proofs.Common.{[], ◌∷◌, ◌++◌, refl, subst}
use Rattle.std.specs.Prelude.{Ok, Err}
use Rattle.std.proofs.lemmas.Result.{err_from_is_err_and}
use Rattle.fsfs_revision.specs.Told.{Knows}
use Rattle.fsfs_revision.proofs.Keeping.{keeps_trans}
use Rattle.fsfs_draft.specs.Drafts.{Folder}
use Rattle.fsfs_edit.specs.Ways.{IsTarget, LooksAt}
use Rattle.fsfs_edit.specs.declared.way.Target.{Target}
use Rattle.fsfs_edit.specs.declared.way.Target.TheVariants as targets
use Rattle.fsfs_edit.specs.Copying.{CopiesFree}
use Rattle.fsfs_edit.proofs.MakingAt.{kind_some}
use Rattle.fsfs_edit.proofs.Whole.{stays}
use Rattle.fsfs_edit.proofs.copy.copy_steps.Goals as goal

pub returns-in_err-depth-clause-meets : goal.returns-in_err-depth-clause-meets
returns-in_err-depth-clause-meets g c = λ look trees top base tree marks knows shown le is_tree young d.
    let looks : LooksAt (g.B.Book.told c.args.book.now).revs (g.N.Own.txn c.args.own.now) (g.N.Own.settled c.args.own.now) c.args.parent.now c.args.name.now (Err c.in_err-depth.field-0.0) =
    subst (λ (h : Folder). LooksAt (g.B.Book.told c.args.book.now).revs (g.N.Own.txn c.args.own.now) h c.args.parent.now c.args.name.now (Err c.in_err-depth.field-0.0)) c.requires.whole c.in_err-depth.ensures.looks in
    let r = err_from_is_err_and c.from_residual.result c.from_residual.ensures.1 in
    rw (r.1, r.2) (stays c.in_err-depth.field-0.0 _ (looks look trees top base tree marks knows shown le is_tree d) refl)

pub returns-in-NotFound-clause-meets : goal.returns-in-NotFound-clause-meets
returns-in-NotFound-clause-meets g c = λ look trees top base tree marks knows shown le is_tree young d.
    let looks : LooksAt (g.B.Book.told c.args.book.now).revs (g.N.Own.txn c.args.own.now) (g.N.Own.settled c.args.own.now) c.args.parent.now c.args.name.now (Ok c.in_ok-depth.field-0) =
    subst (λ (h : Folder). LooksAt (g.B.Book.told c.args.book.now).revs (g.N.Own.txn c.args.own.now) h c.args.parent.now c.args.name.now (Ok c.in_ok-depth.field-0)) c.requires.whole c.in_ok-depth.ensures.looks in
    let t : IsTarget look trees base d.0.shows.own tree c.args.parent.now c.args.name.now (Ok c.in_ok-depth.field-0) = looks look trees top base tree marks knows shown le is_tree d in
    let at : IsTarget look trees base d.0.shows.own tree c.args.parent.now c.args.name.now (Ok (targets.NotFound c.in-NotFound.depth)) = subst (λ (x : Target). IsTarget look trees base d.0.shows.own tree c.args.parent.now c.args.name.now (Ok x)) c.in-NotFound.is t in
    (at, refl)

pub returns-in-NotDir-clause-meets : goal.returns-in-NotDir-clause-meets
returns-in-NotDir-clause-meets g c = λ look trees top base tree marks knows shown le is_tree young d.
    let looks : LooksAt (g.B.Book.told c.args.book.now).revs (g.N.Own.txn c.args.own.now) (g.N.Own.settled c.args.own.now) c.args.parent.now c.args.name.now (Ok c.in_ok-depth.field-0) =
    subst (λ (h : Folder). LooksAt (g.B.Book.told c.args.book.now).revs (g.N.Own.txn c.args.own.now) h c.args.parent.now c.args.name.now (Ok c.in_ok-depth.field-0)) c.requires.whole c.in_ok-depth.ensures.looks in
    let t : IsTarget look trees base d.0.shows.own tree c.args.parent.now c.args.name.now (Ok c.in_ok-depth.field-0) = looks look trees top base tree marks knows shown le is_tree d in
    let at : IsTarget look trees base d.0.shows.own tree c.args.parent.now c.args.name.now (Ok (targets.NotDir c.in-NotDir.depth)) = subst (λ (x : Target). IsTarget look trees base d.0.shows.own tree c.args.parent.now c.args.name.now (Ok x)) c.in-NotDir.is t in
    (at, refl)

pub returns-in-Taken-clause-meets : goal.returns-in-Taken-clause-meets
returns-in-Taken-clause-meets g c = λ look trees top base tree marks knows shown le is_tree young d.
    let looks : LooksAt (g.B.Book.told c.args.book.now).revs (g.N.Own.txn c.args.own.now) (g.N.Own.settled c.args.own.now) c.args.parent.now c.args.name.now (Ok c.in_ok-depth.field-0) =
    subst (λ (h : Folder). LooksAt (g.B.Book.told c.args.book.now).revs (g.N.Own.txn c.args.own.now) h c.args.parent.now c.args.name.now (Ok c.in_ok-depth.field-0)) c.requires.whole c.in_ok-depth.ensures.looks in
    let t : IsTarget look trees base d.0.shows.own tree c.args.parent.now c.args.name.now (Ok c.in_ok-depth.field-0) = looks look trees top base tree marks knows shown le is_tree d in
    let at : IsTarget look trees base d.0.shows.own tree c.args.parent.now c.args.name.now (Ok (targets.Taken c.in-Taken._child)) = subst (λ (x : Target). IsTarget look trees base d.0.shows.own tree c.args.parent.now c.args.name.now (Ok x)) c.in-Taken.is t in
    (at.0, kind_some (tree (c.args.parent.now ++ c.args.name.now ∷ [])) c.in-Taken._child.kind at.1, refl)

pub returns-in-Free-clause-meets : goal.returns-in-Free-clause-meets
returns-in-Free-clause-meets g c = λ look trees top base tree marks knows shown le is_tree young d.
    let looks : LooksAt (g.B.Book.told c.args.book.now).revs (g.N.Own.txn c.args.own.now) (g.N.Own.settled c.args.own.now) c.args.parent.now c.args.name.now (Ok c.in_ok-depth.field-0) =
    subst (λ (h : Folder). LooksAt (g.B.Book.told c.args.book.now).revs (g.N.Own.txn c.args.own.now) h c.args.parent.now c.args.name.now (Ok c.in_ok-depth.field-0)) c.requires.whole c.in_ok-depth.ensures.looks in
    let t : IsTarget look trees base d.0.shows.own tree c.args.parent.now c.args.name.now (Ok c.in_ok-depth.field-0) = looks look trees top base tree marks knows shown le is_tree d in
    let at : IsTarget look trees base d.0.shows.own tree c.args.parent.now c.args.name.now (Ok (targets.Free)) = subst (λ (x : Target). IsTarget look trees base d.0.shows.own tree c.args.parent.now c.args.name.now (Ok x)) c.in-Free.is t in
    let later : Knows (g.B.Book.told c.way_to.new.book).revs top look = λ n h. c.in_ok-depth.ensures.kept.revs n (look n) (knows n h) in
    let inner : CopiesFree (g.B.Book.told c.way_to.new.book).revs (g.B.Book.told c.way_to.new.book).youngest (g.N.Own.txn c.args.own.now) (g.N.Own.settled c.args.own.now) (g.N.Own.settled c.args.own.now) (g.N.Own.settled c.copy_free.new.own) c.args.parent.now c.args.name.now c.args.from.now (c.copy_free.result) =
    subst (λ (h : Folder). CopiesFree (g.B.Book.told c.way_to.new.book).revs (g.B.Book.told c.way_to.new.book).youngest (g.N.Own.txn c.args.own.now) h (g.N.Own.settled c.args.own.now) (g.N.Own.settled c.copy_free.new.own) c.args.parent.now c.args.name.now c.args.from.now (c.copy_free.result)) c.requires.whole c.copy_free.ensures.copies in
    inner look trees top base tree marks later shown le is_tree (c.in_ok-depth.ensures.kept.youngest top young) d at

pub returns-in-Free-clause-kept : goal.returns-in-Free-clause-kept
returns-in-Free-clause-kept g c = keeps_trans _ _ _ c.in_ok-depth.ensures.kept c.copy_free.ensures.kept
