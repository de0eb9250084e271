use Rattle.std.proofs.Common.{List, [], refl, subst, arith, inl, inr}
use Rattle.std.specs.Prelude.{Option}
use Rattle.std.proofs.lemmas.Result.{err_from_is_err_and}
use Rattle.fsfs_revision.specs.declared.wrong.Wrong.{Wrong}
use Rattle.fsfs_noderev.specs.declared.changes.item.ChangeItem.{ChangeItem}
use Rattle.fsfs_dag.proofs.Steps.{knows_later}
use Rattle.fsfs_stands.specs.Texts.{Stopped}
use Rattle.fsfs_stands.specs.Items.{ItemsOf}
use Rattle.fsfs_stands.specs.ChangedTexts.{ByText, end_of, in_order}
use Rattle.fsfs_history.specs.declared.items.ReadItems.{ReadItems}
use Rattle.fsfs_history.specs.Views.{by_text_value}
use Rattle.fsfs_dump.specs.Texts.{ItemsText, TakenText, ChangesText}
use Rattle.fsfs_dump.proofs.WalkLemmas.{walks_as, walks_starved, walks_unread}
use Rattle.fsfs_dump.proofs.Stops.{reads_stop}
use Rattle.fsfs_dump.proofs.revision.write_changes.Goals as goal

abbrev value : ReadItems → List ChangeItem × Option Wrong
value r = (r.items.items, r.wrong)

pub returns-in_err-items-clause-told : goal.returns-in_err-items-clause-told
returns-in_err-items-clause-told g c = λ look knows.
    let e = err_from_is_err_and c.from_residual.result c.from_residual.ensures.1 in
    let rev = c.args.rev in
    rw (e.1, e.2)
    (walks_unread (ChangesText look rev) (reads_stop (ItemsOf look rev) (TakenText look rev)) (ItemsOf look rev) value (λ w h. inr (inl (w, h, (refl, refl)))) c.args.lines.now.items (g.S.Sink.written c.args.sink.now) c.in_err-items.field-0.0
    (c.in_err-items.ensures.told look (knows rev (omega arith))))

pub returns-in_err-found-clause-told : goal.returns-in_err-found-clause-told
returns-in_err-found-clause-told g c = λ look knows.
    let e = err_from_is_err_and c.from_residual-in_err-found.result c.from_residual-in_err-found.ensures.1 in
    let rev = c.args.rev in
    rw (e.1, e.2) (walks_starved (ChangesText look rev) c.args.lines.now.items c.args.lines.now.items [] Stopped (g.S.Sink.written c.args.sink.now) (reads_stop (ItemsOf look rev) (TakenText look rev)))

pub returns-clause-told : goal.returns-clause-told
returns-clause-told g c = λ look knows.
    let rev = c.args.rev in
    let items = c.in_ok-items.field-0.items.items in
    let wrong = c.in_ok-items.field-0.wrong in
    let found = by_text_value c.in_ok-found.found in
    let read = c.in_ok-items.ensures.told look (knows rev (omega arith)) in
    walks_as (ItemsText look rev (end_of wrong) (in_order found)) (ChangesText look rev) c.args.lines.now.items c.write_items.new.lines.items (g.S.Sink.written c.args.sink.now) (g.S.Sink.written c.write_items.new.sink) c.write_items.result
    (λ text end h. inr (inr ((items, wrong), read, subst (λ (f : ByText). ItemsText look rev (end_of wrong) (in_order f) text end) c.in_ok-found.ensures h)))
    (c.write_items.ensures.told look (knows_later _ _ look rev c.in_ok-items.ensures.kept knows))
