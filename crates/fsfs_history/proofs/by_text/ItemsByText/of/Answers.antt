use Rattle.std.proofs.Common.{rules, ◌≡◌, ◌+◌, ◌∷◌, [], length, List, ap, sym, ◌∙◌, arith}
use Rattle.std.proofs.lemmas.List.{nil_from_length}
use Rattle.std.proofs.lemmas.Grind.{common_steps}
use Rattle.std.specs.Vec.Iter.{into_iter_items, into_iter_len}
use Rattle.fsfs_base.specs.Paths.{path_text}
use Rattle.fsfs_noderev.specs.declared.changes.item.ChangeItem.{ChangeItem}
use Rattle.fsfs_tree.specs.ChangedTexts.{put_by}
use Rattle.fsfs_stands.specs.ChangedTexts.{ByText}
use Rattle.fsfs_history.specs.Views.{by_text_value}
use Rattle.fsfs_history.proofs.TextKeys.{plain}
use Rattle.fsfs_history.proofs.by_text.ItemsByText.of.Goals as goal

pub loop-item-init : goal.loop-item-init
loop-item-init c =
    let gives = c.into_iter-item-iterator.ensures.into_iter_gives in
    record {
      long = gives.1 ∙ c.args.items.ok.0 ∙ ap length (sym gives.0);
      put = λ i. put_by (λ (item : ChangeItem). path_text item.path) (plain (c.new.ensures.empty i)) (gives.0 i);
    }

pub loop-item-preserved : goal.loop-item-preserved
loop-item-preserved c =
    let step = rw c.in-Some.is at c.next.ensures.steps in
    record {
      long = omega (arith, c.loop-item.invariant.long, step.1, ap length step.0);
      put =
          ap (λ (f : ByText). put_by (λ (item : ChangeItem). path_text item.path) f (into_iter_items c.next.new.self)) c.in_ok-put.ensures
          ∙ ap (put_by (λ (item : ChangeItem). path_text item.path) (by_text_value c.loop-item.found)) (sym step.0) ∙ c.loop-item.invariant.put;
    }

pub returns : goal.returns
returns c =
    let step = rw c.in-None.is at c.next.ensures.steps in
    let none : into_iter_items c.loop-item.item-iterator ≡ [] = nil_from_length (into_iter_items c.loop-item.item-iterator) (sym c.loop-item.invariant.long ∙ step.0) in
    ap (put_by (λ (item : ChangeItem). path_text item.path) (by_text_value c.loop-item.found)) (sym none) ∙ c.loop-item.invariant.put
