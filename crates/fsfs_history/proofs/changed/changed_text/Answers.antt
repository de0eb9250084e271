use Rattle.std.proofs.Common.{ℕ, List, Option, Ok, Err, arith}
use Rattle.std.proofs.lemmas.Result.{err_from_is_err_and}
use Rattle.fsfs_revision.specs.declared.wrong.Wrong.{Wrong}
use Rattle.fsfs_noderev.specs.declared.changes.item.ChangeItem.{ChangeItem}
use Rattle.fsfs_dag.proofs.Steps.{knows_later}
use Rattle.fsfs_look.proofs.NodeTexts.{writes_as, ends_written}
use Rattle.fsfs_stands.specs.Texts.{End}
use Rattle.fsfs_stands.specs.ChangedTexts.{ChangedText, LinesText, end_of, in_order}
use Rattle.fsfs_history.specs.declared.items.ReadItems.{ReadItems}
use Rattle.fsfs_history.specs.Views.{by_text_value}
use Rattle.fsfs_history.proofs.LineLemmas.{no_items, no_memory, of_items}
use Rattle.fsfs_history.proofs.changed.changed_text.Goals as goal

abbrev value : ReadItems → List ChangeItem × Option Wrong
value r = (r.items.items, r.wrong)

pub returns-in_err-items-clause-told : goal.returns-in_err-items-clause-told
returns-in_err-items-clause-told g c = λ look knows.
    let e = err_from_is_err_and c.from_residual.result c.from_residual.ensures.1 in
    rw (e.1, e.2) (no_items value look c.args.rev (g.S.Sink.written c.args.sink.now) c.in_err-items.field-0.0 (c.in_err-items.ensures.told look (knows c.args.rev (omega arith))))

pub returns-in_err-found-clause-told : goal.returns-in_err-found-clause-told
returns-in_err-found-clause-told g c = λ look knows.
    let e = err_from_is_err_and c.from_residual-in_err-found.result c.from_residual-in_err-found.ensures.1 in
    rw (e.1, e.2) (no_memory look c.args.rev (g.S.Sink.written c.args.sink.now))

pub returns-clause-told : goal.returns-clause-told
returns-clause-told g c = λ look knows.
    let rev = c.args.rev in
    let items = c.in_ok-items.field-0.items.items in
    let wrong = c.in_ok-items.field-0.wrong in
    let found = by_text_value c.in_ok-found.found in
    let R : List ℕ → End → Type 0 = LinesText look rev found (end_of wrong) (in_order found) in
    let old = g.S.Sink.written c.args.sink.now in
    let mid = g.S.Sink.written c.write_items-walked.new.sink in
    let new = g.S.Sink.written c.write_last.new.sink in
    let walks = c.write_items-walked.ensures.told look (knows_later _ _ look rev c.in_ok-items.ensures.kept knows) in
    writes_as R (ChangedText look rev) old new c.write_last.result (of_items look rev items wrong found c.in_ok-found.ensures (c.in_ok-items.ensures.told look (knows rev (omega arith))))
    (ends_written R c.write_items-walked.new.lines.items old mid new c.write_items-walked.result c.write_last.result walks c.write_last.ensures.ends)
