use Rattle.std.proofs.Common.{◌≡◌, ◌∷◌, [], List, Err, map, sym, subst, ◌∙◌, arith, rules}
use Rattle.std.specs.Map.Iter.{deref}
use Rattle.std.proofs.lemmas.Map.Iter.{rest_more, rest_all}
use Rattle.std.proofs.lemmas.Result.{err_from_is_err_and}
use Rattle.fsfs_revision.proofs.Keeping.{keeps_refl, keeps_trans}
use Rattle.fsfs_noderev.specs.declared.changes.item.ChangeItem.{ChangeItem}
use Rattle.fsfs_dag.proofs.Steps.{knows_later}
use Rattle.fsfs_stands.specs.Texts.{Stopped}
use Rattle.fsfs_stands.specs.ChangedTexts.{end_of, in_order}
use Rattle.fsfs_look.specs.Revprops.Texts.{ReadText}
use Rattle.fsfs_look.specs.Walks.{Walks}
use Rattle.fsfs_history.specs.Views.{by_text_value}
use Rattle.fsfs_history.proofs.TextKeys.{Key, in_order_plain}
use Rattle.fsfs_look.specs.declared.look_error.LookError.TheVariants as errors
use Rattle.fsfs_dump.specs.Readings.{ItemRecords}
use Rattle.fsfs_dump.specs.Texts.{ItemsText}
use Rattle.fsfs_dump.proofs.WalkLemmas.{walks_unwritten, walks_flushed, walks_then, walks_ended}
use Rattle.fsfs_dump.proofs.Stops.{items_stop}
use Rattle.fsfs_dump.proofs.ReadLemmas.{items_end}
use Rattle.fsfs_dump.proofs.revision.write_items.Goals as goal

pub loop-item-init : goal.loop-item-init
loop-item-init g c = record {
  kept = keeps_refl _;
  later = omega arith;
  sink = omega arith;
  goes = λ look knows r now new w.
      let all = in_order (by_text_value c.args.items.now) in
      let values : c.into_iter-item-iterator.result ≡ map (λ (e : Key × ChangeItem). e.1) c.args.items.now.items.entries = search rules in
      let left : all ≡ c.into_iter-item-iterator.result = in_order_plain c.args.items.now.items.entries ∙ sym values in
      subst (λ (t : List ChangeItem). Walks (ItemsText look c.args.rev (end_of c.args.wrong) t) c.args.lines.now.items now (g.S.Sink.written c.args.sink.now) new r) (sym left) w;
}

pub returns-in_err-write_full-clause-told : goal.returns-in_err-write_full-clause-told
returns-in_err-write_full-clause-told g c = λ look knows.
    let last = end_of c.args.wrong in
    let items = c.loop-item.item-iterator in
    let lines = c.loop-item.lines.items in
    let now = c.write_full.new.lines.items in
    let mid = g.S.Sink.written c.loop-item.sink in
    let new = g.S.Sink.written c.write_full.new.sink in
    let e = err_from_is_err_and c.from_residual.result c.from_residual.ensures.1 in
    rw (e.1, e.2, c.in_err-write_full.ensures.failed)
    (c.loop-item.invariant.goes look knows (Err errors.WriteFault) now new
    (walks_unwritten (ItemsText look c.args.rev last items) lines now [] Stopped mid new (items_stop look c.args.rev last items) c.in_err-write_full.ensures.part))

pub returns-in_err-write_item-clause-told : goal.returns-in_err-write_item-clause-told
returns-in_err-write_item-clause-told g c = λ look knows.
    let last = end_of c.args.wrong in
    let item = c.in-Some.item.now in
    let rest = c.next.new.self in
    let left : c.loop-item.item-iterator ≡ item ∷ rest = rest_more deref c.loop-item.item-iterator rest c.next.result c.in-Some.item c.in-Some.is c.next.ensures.steps in
    let lines = c.loop-item.lines.items in
    let after = c.write_full.new.lines.items in
    let now = c.write_item.new.lines.items in
    let old = g.S.Sink.written c.loop-item.sink in
    let mid = g.S.Sink.written c.write_full.new.sink in
    let new = g.S.Sink.written c.write_item.new.sink in
    let f = c.in_ok-write_full.ensures.added in
    let e = err_from_is_err_and c.from_residual-in_err-write_item.result c.from_residual-in_err-write_item.ensures.1 in
    let error = c.in_err-write_item.field-0.0 in
    let w = c.in_err-write_item.ensures.told look (knows_later _ _ look c.args.rev c.loop-item.invariant.kept knows) in
    let ended = walks_ended (ReadText (ItemRecords look c.args.rev item)) (ItemsText look c.args.rev last rest) (items_stop look c.args.rev last rest) after now mid new error w in
    let flushed = walks_flushed (ItemsText look c.args.rev last (item ∷ rest)) lines after now f.0 old mid new (Err error) f.1 f.2 ended in
    rw (e.1, e.2)
    (c.loop-item.invariant.goes look knows (Err error) now new (subst (λ (t : List ChangeItem). Walks (ItemsText look c.args.rev last t) lines now old new (Err error)) (sym left) flushed))

pub returns-in_err-write_item-clause-kept : goal.returns-in_err-write_item-clause-kept
returns-in_err-write_item-clause-kept g c = keeps_trans _ _ _ c.loop-item.invariant.kept c.in_err-write_item.ensures.kept

pub loop-item-preserved : goal.loop-item-preserved
loop-item-preserved g c = record {
  kept = keeps_trans _ _ _ c.loop-item.invariant.kept c.in_ok-write_item.ensures.kept;
  later = omega (arith, c.loop-item.invariant.later, c.in_ok-write_item.ensures.cause.later);
  sink = omega (arith, c.loop-item.invariant.sink, c.in_ok-write_full.ensures.sink.later, c.in_ok-write_item.ensures.sink.later);
  goes = λ look knows r now new w.
      let last = end_of c.args.wrong in
      let item = c.in-Some.item.now in
      let rest = c.next.new.self in
      let left : c.loop-item.item-iterator ≡ item ∷ rest = rest_more deref c.loop-item.item-iterator rest c.next.result c.in-Some.item c.in-Some.is c.next.ensures.steps in
      let lines = c.loop-item.lines.items in
      let after = c.write_full.new.lines.items in
      let middle = c.write_item.new.lines.items in
      let old = g.S.Sink.written c.loop-item.sink in
      let mid = g.S.Sink.written c.write_full.new.sink in
      let more = g.S.Sink.written c.write_item.new.sink in
      let f = c.in_ok-write_full.ensures.added in
      let first = c.in_ok-write_item.ensures.told look (knows_later _ _ look c.args.rev c.loop-item.invariant.kept knows) in
      let both = walks_then (ReadText (ItemRecords look c.args.rev item)) (ItemsText look c.args.rev last rest) after middle now mid more new tt r first w in
      let flushed = walks_flushed (ItemsText look c.args.rev last (item ∷ rest)) lines after now f.0 old mid new r f.1 f.2 both in
      c.loop-item.invariant.goes look knows r now new (subst (λ (t : List ChangeItem). Walks (ItemsText look c.args.rev last t) lines now old new r) (sym left) flushed);
}

pub returns-clause-told : goal.returns-clause-told
returns-clause-told g c = λ look knows.
    let last = end_of c.args.wrong in
    let lines = c.loop-item.lines.items in
    let told = g.S.Sink.written c.loop-item.sink in
    let none : c.loop-item.item-iterator ≡ [] = rest_all deref c.loop-item.item-iterator c.next.new.self c.next.result c.in-None.is c.next.ensures.steps in
    c.loop-item.invariant.goes look knows c.ending.result lines told
    (subst (λ (t : List ChangeItem). Walks (ItemsText look c.args.rev last t) lines lines told told c.ending.result) (sym none) (items_end look c.args.rev c.args.wrong lines told c.ending.result c.ending.ensures))
