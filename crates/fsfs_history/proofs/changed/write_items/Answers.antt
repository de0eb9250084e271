use Rattle.std.proofs.Common.{◌≡◌, ◌∷◌, [], ◌++◌, ℕ, List, Ok, Err, map, refl, sym, ap, subst, ◌∙◌, arith, rules}
use Rattle.std.specs.Map.Iter.{deref}
use Rattle.std.proofs.lemmas.Map.Iter.{rest_more, rest_all}
use Rattle.std.proofs.lemmas.Result.{err_from_is_err_and}
use Rattle.std.specs.declared.vec.Vec.{Vec}
use Rattle.std.specs.declared.alloc.Global.{Global}
use Rattle.fsfs_revision.specs.Told.{RevisionBytes, Knows}
use Rattle.fsfs_revision.proofs.Keeping.{keeps_refl, keeps_trans}
use Rattle.fsfs_noderev.specs.declared.changes.item.ChangeItem.{ChangeItem}
use Rattle.fsfs_dag.proofs.Steps.{knows_later}
use Rattle.fsfs_look.proofs.ProgressLemmas.{Progress, begins, flushed, write_fails}
use Rattle.fsfs_stands.specs.Texts.{End}
use Rattle.fsfs_stands.specs.ChangedTexts.{LinesText, Stops, end_of, in_order}
use Rattle.fsfs_history.specs.Views.{by_text_value}
use Rattle.fsfs_history.proofs.TextKeys.{Key, in_order_plain}
use Rattle.fsfs_history.proofs.LineLemmas.{item_put, item_fails, no_room, all_put}
use Rattle.fsfs_history.proofs.changed.write_items.Goals as goal

abbrev items : Vec ℕ Global → List ℕ
items v = v.items

pub loop-item-init : goal.loop-item-init
loop-item-init g c = record {
  kept = keeps_refl _;
  later = omega arith;
  sink = omega arith;
  dir = λ look knows. tt;
  text = λ look knows.
      let found = by_text_value c.args.items.now in
      let all = in_order found in
      let R : List ℕ → End → Type 0 = LinesText look c.args.rev found (end_of c.args.wrong) all in
      let W = g.S.Sink.written c.args.sink.now in
      let values : c.into_iter-item-iterator.result ≡ map (λ (e : Key × ChangeItem). e.1) c.args.items.now.items.entries = search rules in
      let left : all ≡ c.into_iter-item-iterator.result = in_order_plain c.args.items.now.items.entries ∙ sym values in
      subst (λ (t : List ChangeItem). Progress R (LinesText look c.args.rev found (end_of c.args.wrong) t) [] c.args.lines.now.items W W) left
      (subst (λ (ls : List ℕ). Progress R R [] ls W W) (sym c.requires) (begins R [] W));
}

pub returns-in_err-write_full-clause-told : goal.returns-in_err-write_full-clause-told
returns-in_err-write_full-clause-told g c = λ look knows.
    let found = by_text_value c.args.items.now in
    let R : List ℕ → End → Type 0 = LinesText look c.args.rev found (end_of c.args.wrong) (in_order found) in
    let S : List ℕ → End → Type 0 = LinesText look c.args.rev found (end_of c.args.wrong) c.loop-item.item-iterator in
    let e = err_from_is_err_and c.from_residual.result c.from_residual.ensures.1 in
    rw (e.1, e.2, c.in_err-write_full.ensures.failed)
    (write_fails R S [] c.loop-item.lines.items c.write_full.new.lines.items (g.S.Sink.written c.args.sink.now) (g.S.Sink.written c.loop-item.sink) (g.S.Sink.written c.write_full.new.sink) (c.loop-item.invariant.text look knows)
    (Stops c.loop-item.item-iterator) c.in_err-write_full.ensures.part)

pub returns-in_err-more-clause-told : goal.returns-in_err-more-clause-told
returns-in_err-more-clause-told g c = λ look knows.
    let found = by_text_value c.args.items.now in
    let R : List ℕ → End → Type 0 = LinesText look c.args.rev found (end_of c.args.wrong) (in_order found) in
    let left : c.loop-item.item-iterator ≡ c.in-Some.item.now ∷ c.next.new.self = rest_more deref c.loop-item.item-iterator c.next.new.self c.next.result c.in-Some.item c.in-Some.is c.next.ensures.steps in
    let p = subst (λ (t : List ChangeItem). Progress R (LinesText look c.args.rev found (end_of c.args.wrong) t) [] c.loop-item.lines.items (g.S.Sink.written c.args.sink.now) (g.S.Sink.written c.loop-item.sink)) left (c.loop-item.invariant.text look knows) in
    let f = c.in_ok-write_full.ensures.added in
    let q = flushed R (LinesText look c.args.rev found (end_of c.args.wrong) (c.in-Some.item.now ∷ c.next.new.self)) [] c.loop-item.lines.items c.write_full.new.lines.items f.0 (g.S.Sink.written c.args.sink.now) (g.S.Sink.written c.loop-item.sink) (g.S.Sink.written c.write_full.new.sink) p f.1 f.2 in
    let e = err_from_is_err_and c.from_residual-in_err-more.result c.from_residual-in_err-more.ensures.1 in
    rw (e.1, e.2)
    (item_fails look c.args.rev found c.args.wrong R [] c.write_full.new.lines.items (g.S.Sink.written c.args.sink.now) (g.S.Sink.written c.write_full.new.sink) items c.in-Some.item.now c.next.new.self c.in_err-more.field-0.0 q
    (c.in_err-more.ensures.told look (knows_later _ _ look c.args.rev c.loop-item.invariant.kept knows) (c.loop-item.invariant.dir look knows)))

pub returns-in_err-more-clause-kept : goal.returns-in_err-more-clause-kept
returns-in_err-more-clause-kept g c = keeps_trans _ _ _ c.loop-item.invariant.kept c.in_err-more.ensures.kept

pub returns-in_err-extend_from_slice-clause-told : goal.returns-in_err-extend_from_slice-clause-told
returns-in_err-extend_from_slice-clause-told g c = λ look knows.
    let found = by_text_value c.args.items.now in
    let R : List ℕ → End → Type 0 = LinesText look c.args.rev found (end_of c.args.wrong) (in_order found) in
    let f = c.in_ok-write_full.ensures.added in
    let q = flushed R (LinesText look c.args.rev found (end_of c.args.wrong) c.loop-item.item-iterator) [] c.loop-item.lines.items c.write_full.new.lines.items f.0 (g.S.Sink.written c.args.sink.now) (g.S.Sink.written c.loop-item.sink) (g.S.Sink.written c.write_full.new.sink) (c.loop-item.invariant.text look knows) f.1 f.2 in
    let e = err_from_is_err_and c.from_residual-in_err-extend_from_slice.result c.from_residual-in_err-extend_from_slice.ensures.1 in
    rw (e.1, e.2)
    (no_room look c.args.rev found c.args.wrong R [] c.write_full.new.lines.items (g.S.Sink.written c.args.sink.now) (g.S.Sink.written c.write_full.new.sink) c.loop-item.item-iterator c.extend_from_slice.new.self.items q)

pub returns-in_err-extend_from_slice-clause-kept : goal.returns-in_err-extend_from_slice-clause-kept
returns-in_err-extend_from_slice-clause-kept g c = keeps_trans _ _ _ c.loop-item.invariant.kept c.in_ok-more.ensures.kept

pub loop-item-preserved : goal.loop-item-preserved
loop-item-preserved g c = record {
  kept = keeps_trans _ _ _ c.loop-item.invariant.kept c.in_ok-more.ensures.kept;
  later = omega (arith, c.loop-item.invariant.later, c.in_ok-more.ensures.cause.later);
  sink = omega (arith, c.loop-item.invariant.sink, c.in_ok-write_full.ensures.sink.later);
  dir = λ look knows. c.in_ok-more.ensures.dir look (knows_later _ _ look c.args.rev c.loop-item.invariant.kept knows) (c.loop-item.invariant.dir look knows);
  text = λ look knows.
      let found = by_text_value c.args.items.now in
      let R : List ℕ → End → Type 0 = LinesText look c.args.rev found (end_of c.args.wrong) (in_order found) in
      let left : c.loop-item.item-iterator ≡ c.in-Some.item.now ∷ c.next.new.self = rest_more deref c.loop-item.item-iterator c.next.new.self c.next.result c.in-Some.item c.in-Some.is c.next.ensures.steps in
      let p = subst (λ (t : List ChangeItem). Progress R (LinesText look c.args.rev found (end_of c.args.wrong) t) [] c.loop-item.lines.items (g.S.Sink.written c.args.sink.now) (g.S.Sink.written c.loop-item.sink)) left (c.loop-item.invariant.text look knows) in
      let f = c.in_ok-write_full.ensures.added in
      let q = flushed R (LinesText look c.args.rev found (end_of c.args.wrong) (c.in-Some.item.now ∷ c.next.new.self)) [] c.loop-item.lines.items c.write_full.new.lines.items f.0 (g.S.Sink.written c.args.sink.now) (g.S.Sink.written c.loop-item.sink) (g.S.Sink.written c.write_full.new.sink) p f.1 f.2 in
      item_put look c.args.rev found c.args.wrong R [] c.write_full.new.lines.items (g.S.Sink.written c.args.sink.now) (g.S.Sink.written c.write_full.new.sink) c.in-Some.item.now c.next.new.self c.in_ok-more.more.items c.extend_from_slice.new.self.items q
      (c.in_ok-more.ensures.told look (knows_later _ _ look c.args.rev c.loop-item.invariant.kept knows) (c.loop-item.invariant.dir look knows)) (c.in_ok-extend_from_slice.ensures.items ∙ ap (λ (t : List ℕ). c.write_full.new.lines.items ++ t) c.deref.ensures.value);
}

pub returns-clause-told : goal.returns-clause-told
returns-clause-told g c = λ look knows.
    let found = by_text_value c.args.items.now in
    let R : List ℕ → End → Type 0 = LinesText look c.args.rev found (end_of c.args.wrong) (in_order found) in
    let none : c.loop-item.item-iterator ≡ [] = rest_all deref c.loop-item.item-iterator c.next.new.self c.next.result c.in-None.is c.next.ensures.steps in
    let p = subst (λ (t : List ChangeItem). Progress R (LinesText look c.args.rev found (end_of c.args.wrong) t) [] c.loop-item.lines.items (g.S.Sink.written c.args.sink.now) (g.S.Sink.written c.loop-item.sink)) none (c.loop-item.invariant.text look knows) in
    all_put look c.args.rev found c.args.wrong R [] c.loop-item.lines.items (g.S.Sink.written c.args.sink.now) (g.S.Sink.written c.loop-item.sink) c.ending.result p c.ending.ensures
