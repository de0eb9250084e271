use Rattle.std.proofs.Common.{◌≡◌, ◌-◌, List, Bool, cond, ◌∷◌, ◌++◌, length, take, ap, sym, ◌∙◌}
use Rattle.std.specs.Prelude.{Vec}
use Rattle.std.specs.Global.{Global}
use Rattle.std.specs.Borrow.{Bor}
use Rattle.indexmap.specs.IndexSet.{contains_text}
use Rattle.fsfs_noderev.specs.declared.changes.item.ChangeItem.{ChangeItem}
use Rattle.fsfs_edit.proofs.SaidLemmas.{last_first}
use Rattle.fsfs_edit.proofs.LastingLemmas.{items_found, lasting_more, last_split, whole_item}
use Rattle.fsfs_edit.proofs.folds.lasting.lasting.Goals as goal
use Rattle.fsfs_edit.proofs.folds.lasting.lasting.Goals.{then-not-branch+in_ok-push, else-not-branch}

pub loop-left-preserved : goal.loop-left-preserved
loop-left-preserved c =
    let left = c.loop-left.left.now in
    let before : List ChangeItem = take (length left - 1) left in
    let item : ChangeItem = c.item-item.result in
    let w = c.loop-left.invariant in
    let split = last_split left item c.in-len1-up.len_at_least c.item-item.is in
    let below : Bool = c.in_ok-is_below_any.field-0 in
    let kept : items_found c.if-not-branch.found.items ≡ cond below (items_found c.loop-left.found.items) (item ∷ items_found c.loop-left.found.items) =
    elim c.if-not-branch.branch [
      | then-not-branch+in_ok-push v ↦
          ap (λ (f : Vec (Bor ChangeItem) Global). items_found f.items) v.found-is
          ∙ ap items_found v.in_ok-push.ensures.items
          ∙ last_first c.loop-left.found.items _
          ∙ ap (λ (b : Bool). cond b (items_found c.loop-left.found.items) (item ∷ items_found c.loop-left.found.items)) (sym v.if-not-branch.true)
      | else-not-branch v ↦
          ap (λ (f : Vec (Bor ChangeItem) Global). items_found f.items) v.found-is
          ∙ ap (λ (b : Bool). cond b (items_found c.loop-left.found.items) (item ∷ items_found c.loop-left.found.items)) (sym v.if-not-branch.false)
    ] in
    lasting_more c.args.items.now before left item c.loop-left.found.items c.if-not-branch.found.items (contains_text c.loop-left.deleted) (contains_text c.note_deleted.new.deleted) below
    w split (whole_item c.args.items.now before item w.behind (w.parts ∙ ap (λ (t : List ChangeItem). t ++ w.behind) split) c.requires) c.in_ok-is_below_any.ensures kept c.in_ok-note_deleted.ensures
