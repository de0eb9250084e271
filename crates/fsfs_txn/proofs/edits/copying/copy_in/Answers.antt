use Rattle.std.proofs.Common.{◌≡◌, refl, sym, ap, subst, ◌∙◌}
use Rattle.std.specs.Prelude.{Ok, Err, is_some}
use Rattle.std.proofs.lemmas.Result.{err_from_is_err_and}
use Rattle.fsfs_base.specs.Paths.{Path}
use Rattle.fsfs_base.proofs.ResultLemmas.{none_of}
use Rattle.fsfs_revision.specs.Told.{Knows}
use Rattle.fsfs_model.specs.Flat.Edits.{parent}
use Rattle.fsfs_draft.specs.Errors as errors
use Rattle.fsfs_edit.specs.Copying.{MeetsCopy}
use Rattle.fsfs_txn.specs.declared.edits.copying.Copied.{Copied}
use Rattle.fsfs_txn.specs.Edits.Copying.{IsCopying}
use Rattle.fsfs_txn.proofs.Meeting.{stays_of, is_tree, copied, barred_source, plain_source, same_takes}
use Rattle.fsfs_txn.proofs.edits.copying.copy_in.Goals as goal

pub returns-in_err-source-clause-copies : goal.returns-in_err-source-clause-copies
returns-in_err-source-clause-copies g c = λ look trees top base tree marks path knows shown revs le young stands dir_is path_is has at lacks.
    let r = err_from_is_err_and c.from_residual.result c.from_residual.ensures.1 in
    let f = g.N.Own.settled c.args.own.now in
    rw (r.1, r.2) (stays_of c.in_err-source.field-0.0 (f ≡ f) refl (c.in_err-source.ensures.finds look trees top knows shown young))

pub returns-in_err-copied-clause-copies : goal.returns-in_err-copied-clause-copies
returns-in_err-copied-clause-copies g c = λ look trees top base tree marks path knows shown revs le young stands dir_is path_is has at lacks.
    let r = err_from_is_err_and c.from_residual-in_err-copied.result c.from_residual-in_err-copied.ensures.1 in
    let txn = g.N.Own.txn c.args.own.now in
    let f = g.N.Own.settled c.args.own.now in
    let First = stands.shows.0.shows.own in
    let tree_is = is_tree look trees top base txn f tree marks revs stands in
    let source = c.in_ok-source.source in
    let is = c.in_ok-source.ensures.finds look trees top knows shown young in
    let later : Knows (g.B.Book.told c.source_at.new.book).revs top look = λ n h. c.in_ok-source.ensures.kept.revs n (look n) (knows n h) in
    let young_later = c.in_ok-source.ensures.kept.youngest top young in
    let meets = subst (λ (p : Path). MeetsCopy (g.B.Book.told c.source_at.new.book).revs (g.B.Book.told c.source_at.new.book).youngest txn f (g.N.Own.settled c.copy_at.new.own) p c.args.name.now c.args.from.now (Err c.in_err-copied.field-0.0)) dir_is c.in_err-copied.ensures.meets in
    rw (r.1, r.2) (meets look trees top base tree marks later shown le tree_is young_later stands.shows)

pub returns-then-is_plain-clause-copies : goal.returns-then-is_plain-clause-copies
returns-then-is_plain-clause-copies g c = λ look trees top base tree marks path knows shown revs le young stands dir_is path_is has at lacks.
    let txn = g.N.Own.txn c.args.own.now in
    let f = g.N.Own.settled c.args.own.now in
    let First = stands.shows.0.shows.own in
    let tree_is = is_tree look trees top base txn f tree marks revs stands in
    let source = c.in_ok-source.source in
    let is = c.in_ok-source.ensures.finds look trees top knows shown young in
    let later : Knows (g.B.Book.told c.source_at.new.book).revs top look = λ n h. c.in_ok-source.ensures.kept.revs n (look n) (knows n h) in
    let young_later = c.in_ok-source.ensures.kept.youngest top young in
    let after = g.N.Own.settled c.copy_at.new.own in
    let meets = subst (λ (p : Path). MeetsCopy (g.B.Book.told c.source_at.new.book).revs (g.B.Book.told c.source_at.new.book).youngest txn f after p c.args.name.now c.args.from.now (Ok c.in_ok-copied.copied)) dir_is c.in_ok-copied.ensures.meets in
    let plain = plain_source look trees top c.args.from.now source (sym c.is_plain.ensures ∙ c.if-is_plain.true) is in
    subst (λ (o : Copied). IsCopying errors.IfStays look trees top base txn First tree marks path c.args.from.now f after (Ok o)) (sym c.from_copied.ensures)
    (copied look trees top base txn f tree marks revs stands path c.args.name.now path_is after c.args.from.now (lacks, plain) c.in_ok-copied.copied (meets look trees top base tree marks later shown le tree_is young_later stands.shows))

pub returns-in_err-is_taken-clause-copies : goal.returns-in_err-is_taken-clause-copies
returns-in_err-is_taken-clause-copies g c = λ look trees top base tree marks path knows shown revs le young stands dir_is path_is has at lacks.
    let r = err_from_is_err_and c.from_residual-in_err-is_taken.result c.from_residual-in_err-is_taken.ensures.1 in
    let txn = g.N.Own.txn c.args.own.now in
    let f = g.N.Own.settled c.args.own.now in
    let First = stands.shows.0.shows.own in
    let tree_is = is_tree look trees top base txn f tree marks revs stands in
    let source = c.in_ok-source.source in
    let is = c.in_ok-source.ensures.finds look trees top knows shown young in
    let later : Knows (g.B.Book.told c.source_at.new.book).revs top look = λ n h. c.in_ok-source.ensures.kept.revs n (look n) (knows n h) in
    let young_later = c.in_ok-source.ensures.kept.youngest top young in
    let takes = same_takes (g.B.Book.told c.source_at.new.book).revs txn (g.N.Own.folder c.args.own.now) f c.args.step.now c.args.name.now (Err c.in_err-is_taken.field-0.0) c.requires.whole c.in_err-is_taken.ensures.told in
    rw (r.1, r.2) (stays_of c.in_err-is_taken.field-0.0 (f ≡ f) refl (takes look trees top base tree marks (parent path) later shown le stands.shows at has))

pub returns-then-branch-clause-copies : goal.returns-then-branch-clause-copies
returns-then-branch-clause-copies g c = λ look trees top base tree marks path knows shown revs le young stands dir_is path_is has at lacks.
    let txn = g.N.Own.txn c.args.own.now in
    let f = g.N.Own.settled c.args.own.now in
    let First = stands.shows.0.shows.own in
    let tree_is = is_tree look trees top base txn f tree marks revs stands in
    let source = c.in_ok-source.source in
    let is = c.in_ok-source.ensures.finds look trees top knows shown young in
    let later : Knows (g.B.Book.told c.source_at.new.book).revs top look = λ n h. c.in_ok-source.ensures.kept.revs n (look n) (knows n h) in
    let young_later = c.in_ok-source.ensures.kept.youngest top young in
    let takes = same_takes (g.B.Book.told c.source_at.new.book).revs txn (g.N.Own.folder c.args.own.now) f c.args.step.now c.args.name.now (Ok c.in_ok-is_taken.field-0) c.requires.whole c.in_ok-is_taken.ensures.told in
    (ap (λ (p : Path). is_some (tree p)) path_is ∙ takes look trees top base tree marks (parent path) later shown le stands.shows at has ∙ c.if-branch.true, refl)

pub returns-clause-copies : goal.returns-clause-copies
returns-clause-copies g c = λ look trees top base tree marks path knows shown revs le young stands dir_is path_is has at lacks.
    let txn = g.N.Own.txn c.args.own.now in
    let f = g.N.Own.settled c.args.own.now in
    let First = stands.shows.0.shows.own in
    let tree_is = is_tree look trees top base txn f tree marks revs stands in
    let source = c.in_ok-source.source in
    let is = c.in_ok-source.ensures.finds look trees top knows shown young in
    let later : Knows (g.B.Book.told c.source_at.new.book).revs top look = λ n h. c.in_ok-source.ensures.kept.revs n (look n) (knows n h) in
    let young_later = c.in_ok-source.ensures.kept.youngest top young in
    let takes = same_takes (g.B.Book.told c.source_at.new.book).revs txn (g.N.Own.folder c.args.own.now) f c.args.step.now c.args.name.now (Ok c.in_ok-is_taken.field-0) c.requires.whole c.in_ok-is_taken.ensures.told in
    let free = none_of (tree path) (ap (λ (p : Path). is_some (tree p)) path_is ∙ takes look trees top base tree marks (parent path) later shown le stands.shows at has ∙ c.if-branch.false) in
    subst (λ (o : Copied). IsCopying errors.IfStays look trees top base txn First tree marks path c.args.from.now f f (Ok o)) (sym c.barred_by.ensures)
    (barred_source look trees top base txn f tree marks revs stands path c.args.from.now f refl (has, free) source (sym c.is_plain.ensures ∙ c.if-is_plain.false) is)
