use Rattle.std.proofs.Common.{◌≡◌, [], map}
use Rattle.std.specs.Prelude.{All, Vec}
use Rattle.std.specs.Global.{Global}
use Rattle.std.specs.List.Sorted.{IsStrictlySortedBy}
use Rattle.std.specs.Map.{values_of}
use Rattle.std.specs.Ordering.{nat_cmp}
use Rattle.std.specs.Cmp.Lexicographic.{slice_cmp}
use Rattle.std.proofs.lemmas.Result.{IfOk-weaker}
use Rattle.fsfs_base.specs.Paths.{Path}
use Rattle.fsfs_model.specs.Flat.Folding.{fold as flat_fold}
use Rattle.fsfs_noderev.specs.Changes.Items.{HasText}
use Rattle.fsfs_noderev.specs.Changes.Texts.{HavePathsOnce}
use Rattle.fsfs_noderev.specs.declared.changes.item.ChangeItem.{ChangeItem}
use Rattle.fsfs_edit.specs.Folds.FoldedItems.{fold_items, item_at, text_of}
use Rattle.fsfs_edit.specs.Folds.Marks.{AgreesWith}
use Rattle.fsfs_edit.specs.Folds.Views.{items_told}
use Rattle.fsfs_edit.proofs.FoldedMap.{folded_each, folded_marks, folded_rising, folded_once, folded_text}
use Rattle.fsfs_edit.proofs.folds.folding.fold.Goals as goal

pub returns-clause-each : goal.returns-clause-each
returns-clause-each c =
    let s = c.in_ok-sort_keys.ensures in
    IfOk-weaker c.items_of.result (λ (v : Vec ChangeItem Global). v.items ≡ items_told (values_of c.sort_keys.new.self.entries)) (λ (v : Vec ChangeItem Global). (p : Path) → item_at v.items p ≡ fold_items c.args.items.now p)
    (λ v e. folded_each c.args.items.now c.requires.paths c.in_ok-said.said.entries c.sort_keys.new.self.entries s.reordered.0 s.unique s.sorted c.in_ok-said.ensures v.items e) c.items_of.ensures

pub returns-clause-marks : goal.returns-clause-marks
returns-clause-marks c = λ marks h.
    let s = c.in_ok-sort_keys.ensures in
    IfOk-weaker c.items_of.result (λ (v : Vec ChangeItem Global). v.items ≡ items_told (values_of c.sort_keys.new.self.entries)) (λ (v : Vec ChangeItem Global). (p : Path) → AgreesWith (item_at v.items p) (flat_fold marks p))
    (λ v e. folded_marks c.args.items.now c.requires.paths c.in_ok-said.said.entries c.sort_keys.new.self.entries s.reordered.0 s.unique s.sorted c.in_ok-said.ensures v.items e marks h) c.items_of.ensures

pub returns-clause-rising : goal.returns-clause-rising
returns-clause-rising c =
    let s = c.in_ok-sort_keys.ensures in
    IfOk-weaker c.items_of.result (λ (v : Vec ChangeItem Global). v.items ≡ items_told (values_of c.sort_keys.new.self.entries)) (λ (v : Vec ChangeItem Global). IsStrictlySortedBy (slice_cmp nat_cmp) (map text_of v.items))
    (λ v e. folded_rising c.args.items.now c.requires.paths c.in_ok-said.said.entries c.sort_keys.new.self.entries s.reordered.0 s.unique s.sorted c.in_ok-said.ensures v.items e) c.items_of.ensures

pub returns-clause-once : goal.returns-clause-once
returns-clause-once c =
    let s = c.in_ok-sort_keys.ensures in
    IfOk-weaker c.items_of.result (λ (v : Vec ChangeItem Global). v.items ≡ items_told (values_of c.sort_keys.new.self.entries)) (λ (v : Vec ChangeItem Global). HavePathsOnce [] v.items)
    (λ v e. folded_once c.args.items.now c.requires.paths c.in_ok-said.said.entries c.sort_keys.new.self.entries s.reordered.0 s.unique s.sorted c.in_ok-said.ensures v.items e) c.items_of.ensures

pub returns-clause-text : goal.returns-clause-text
returns-clause-text c = λ texts.
    let s = c.in_ok-sort_keys.ensures in
    IfOk-weaker c.items_of.result (λ (v : Vec ChangeItem Global). v.items ≡ items_told (values_of c.sort_keys.new.self.entries)) (λ (v : Vec ChangeItem Global). All HasText v.items)
    (λ v e. folded_text c.args.items.now c.requires.paths c.in_ok-said.said.entries c.sort_keys.new.self.entries s.reordered.0 s.unique s.sorted c.in_ok-said.ensures v.items e texts) c.items_of.ensures
