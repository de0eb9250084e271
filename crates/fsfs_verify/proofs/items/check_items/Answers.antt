use Rattle.std.proofs.Common.{◌≡◌, ◌≤◌, ◌<◌, ◌+◌, ℕ, List, [], length, get_or, refl, sym, ap, subst, ◌∙◌, arith}
use Rattle.std.specs.Prelude.{Option, Some, None, Ok, Err, Contains, slice_get}
use Rattle.std.proofs.lemmas.Option.{slice_get-get_or}
use Rattle.std.proofs.lemmas.Result.{err_from_is_err_and}
use Rattle.fsfs_noderev.specs.declared.changes.item.ChangeItem.{ChangeItem}
use Rattle.fsfs_revision.specs.Shows.Reading.{EntriesOf}
use Rattle.fsfs_revision.proofs.Keeping.{keeps_trans}
use Rattle.fsfs_revision.specs.declared.wrong.Wrong.{Wrong}
use Rattle.fsfs_stands.specs.Items.{ItemsOf}
use Rattle.fsfs_dag.proofs.Steps.{knows_later}
use Rattle.fsfs_history.specs.declared.items.ReadItems.{ReadItems}
use Rattle.fsfs_sound.specs.Damaged.{IsDamaged, Data, Item}
use Rattle.fsfs_sound.specs.Revisions.{IsSoundItem}
use Rattle.fsfs_verify.proofs.Damages.{entries_damaged}
use Rattle.fsfs_verify.proofs.Findings.{wrong_as, wrong_from}
use Rattle.fsfs_verify.proofs.ItemPlaces.{one_more_item, contained_at}
use Rattle.fsfs_verify.proofs.items.check_items.Goals as goal

pub returns-in_err-items-clause-told : goal.returns-in_err-items-clause-told
returns-in_err-items-clause-told g c = λ look props knows root.
    let p = err_from_is_err_and c.from_residual.result c.from_residual.ensures.1 in
    rw (p.1, p.2) (wrong_as (λ (r : ReadItems). (r.items.items, r.wrong)) (ItemsOf look c.args.rev) (IsDamaged look props c.args.rev) c.in_err-items.field-0.0 (λ w h. Data w h) (c.in_err-items.ensures.told look (knows c.args.rev (omega arith))))

pub returns-in_err-dirs-clause-told : goal.returns-in_err-dirs-clause-told
returns-in_err-dirs-clause-told g c = λ look props knows root.
    let p = err_from_is_err_and c.from_residual-in_err-dirs.result c.from_residual-in_err-dirs.ensures.1 in
    let v = c.args.root.now.node in
    rw (p.1, p.2) (wrong_from (λ w. EntriesOf look v (Err w)) (IsDamaged look props c.args.rev) c.in_err-dirs.field-0.0 (entries_damaged look props c.args.rev c.args.rev (omega arith) [] v (v, root, refl) c.requires)
    (c.in_err-dirs.ensures.told look c.args.rev (knows_later _ _ look c.args.rev c.in_ok-items.ensures.kept knows) root))

pub loop-item-init : goal.loop-item-init
loop-item-init g c = record {
  before = refl;
  kept = keeps_trans _ _ _ c.in_ok-items.ensures.kept c.in_ok-dirs.ensures.kept;
  later = omega (arith, c.in_ok-items.ensures.cause.later, c.in_ok-dirs.ensures.cause.later);
  told = λ look knows root. (c.in_ok-dirs.ensures.told look c.args.rev (knows_later _ _ look c.args.rev c.in_ok-items.ensures.kept knows) root, λ k item less is. absurd (omega (arith, less)));
}

pub loop-item-preserved : goal.loop-item-preserved
loop-item-preserved g c =
    let inv = c.loop-item.invariant in
    let items = c.deref-item-items.result.now in
    let i = c.loop-item.item-index in
    let item = c.item-item.result in
    let is : slice_get items i ≡ Some item = slice_get-get_or items i item c.loop-item-test.true ∙ ap (λ (x : ChangeItem). Some x) (sym c.item-item.is) in
    let at : slice_get items c.loop-item.before ≡ Some item = ap (λ (n : ℕ). slice_get items n) inv.before ∙ is in
    record {
      before = omega (arith, inv.before);
      kept = keeps_trans _ _ _ inv.kept c.in_ok-check_item.ensures.kept;
      later = omega (arith, inv.later, c.in_ok-check_item.ensures.cause.later);
      told = λ look knows root. (
          let t = inv.told look knows root in
          let read : ItemsOf look c.args.rev (Ok (items, c.in_ok-items.field-0.wrong)) = subst (λ (xs : List ChangeItem). ItemsOf look c.args.rev (Ok (xs, c.in_ok-items.field-0.wrong))) (sym c.deref-item-items.ensures.value) (c.in_ok-items.ensures.told look (knows c.args.rev (omega arith))) in
          let s = c.in_ok-check_item.ensures.told look look items c.in_ok-items.field-0.wrong (knows_later _ _ look c.args.rev inv.kept knows) read at t.0 in
          (s.1, one_more_item (IsSoundItem look c.args.rev) items i item is t.1 s.0));
    }

pub returns-in_err-check_item-clause-told : goal.returns-in_err-check_item-clause-told
returns-in_err-check_item-clause-told g c = λ look props knows root.
    let p = err_from_is_err_and c.from_residual-in_err-check_item.result c.from_residual-in_err-check_item.ensures.1 in
    let inv = c.loop-item.invariant in
    let items = c.deref-item-items.result.now in
    let i = c.loop-item.item-index in
    let item = c.item-item.result in
    let is : slice_get items i ≡ Some item = slice_get-get_or items i item c.loop-item-test.true ∙ ap (λ (x : ChangeItem). Some x) (sym c.item-item.is) in
    let at : slice_get items c.loop-item.before ≡ Some item = ap (λ (n : ℕ). slice_get items n) inv.before ∙ is in
    let t = inv.told look knows root in
    let read : ItemsOf look c.args.rev (Ok (items, c.in_ok-items.field-0.wrong)) = subst (λ (xs : List ChangeItem). ItemsOf look c.args.rev (Ok (xs, c.in_ok-items.field-0.wrong))) (sym c.deref-item-items.ensures.value) (c.in_ok-items.ensures.told look (knows c.args.rev (omega arith))) in
    rw (p.1, p.2) (c.in_err-check_item.ensures.told look props items c.in_ok-items.field-0.wrong (knows_later _ _ look c.args.rev inv.kept knows) read at t.0)

pub returns-in_err-check_item-clause-kept : goal.returns-in_err-check_item-clause-kept
returns-in_err-check_item-clause-kept g c = keeps_trans _ _ _ c.loop-item.invariant.kept c.in_err-check_item.ensures.kept

pub returns-in-None-clause-told : goal.returns-in-None-clause-told
returns-in-None-clause-told g c = λ look props knows root.
    let items = c.deref-item-items.result.now in
    let read : ItemsOf look c.args.rev (Ok (items, c.in_ok-items.field-0.wrong)) = subst (λ (xs : List ChangeItem). ItemsOf look c.args.rev (Ok (xs, c.in_ok-items.field-0.wrong))) (sym c.deref-item-items.ensures.value) (c.in_ok-items.ensures.told look (knows c.args.rev (omega arith))) in
    let t = c.loop-item.invariant.told look knows root in
    let whole = subst (λ (o : Option Wrong). ItemsOf look c.args.rev (Ok (items, o))) c.in-None.is read in
    (items, whole, contained_at (IsSoundItem look c.args.rev) items c.loop-item.item-index c.loop-item-test.false t.1)

pub returns-clause-told : goal.returns-clause-told
returns-clause-told g c = λ look props knows root.
    let items = c.deref-item-items.result.now in
    let read : ItemsOf look c.args.rev (Ok (items, c.in_ok-items.field-0.wrong)) = subst (λ (xs : List ChangeItem). ItemsOf look c.args.rev (Ok (xs, c.in_ok-items.field-0.wrong))) (sym c.deref-item-items.ensures.value) (c.in_ok-items.ensures.told look (knows c.args.rev (omega arith))) in
    Item items c.in-Some.wrong (subst (λ (o : Option Wrong). ItemsOf look c.args.rev (Ok (items, o))) c.in-Some.is read)
