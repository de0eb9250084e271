use Rattle.std.proofs.Common.{◌≡◌, ◌∙◌, ◌++◌, ◌∷◌, [], List, map, reverse, sym, ap, append-nil, rules}
use Rattle.std.proofs.lemmas.List.{nil_from_length, reverse-reverse}
use Rattle.fsfs_noderev.specs.declared.changes.item.ChangeItem.{ChangeItem}
use Rattle.fsfs_final.specs.Pieces.Naming.{ids_of}
use Rattle.fsfs_commit.specs.FinalRev.Items.{told_item}
use Rattle.fsfs_commit.proofs.ItemLemmas.{one_told}
use Rattle.fsfs_commit.proofs.final_rev.items.told_items.Goals as goal

pub loop-item-init : goal.loop-item-init
loop-item-init c =
    let told = told_item c.args.txn.now (ids_of c.args.ids.now) in
    ap (λ (l : List ChangeItem). l ++ map told (reverse c.reverse.new.self.items)) c.new-all.ensures.items
    ∙ ap (λ (l : List ChangeItem). map told (reverse l)) c.reverse.ensures.items
    ∙ ap (map told) (reverse-reverse c.args.folded.items)

pub loop-item-preserved : goal.loop-item-preserved
loop-item-preserved c =
    let ids = ids_of c.args.ids.now in
    let told = told_item c.args.txn.now ids in
    let all = c.loop-item.all.items in
    let left = c.pop.new.self.items in
    let item = c.in-Some.item in
    ap (λ (l : List ChangeItem). l ++ map told (reverse left)) (c.in_ok-push.ensures.items ∙ ap (λ (x : ChangeItem). all ++ x ∷ []) c.tell.ensures)
    ∙ one_told c.args.txn.now ids all left item ∙ ap (λ (l : List ChangeItem). all ++ map told (reverse l)) (sym c.in-Some.ensures.items) ∙ c.loop-item.invariant

pub returns : goal.returns
returns c =
    let told = told_item c.args.txn.now (ids_of c.args.ids.now) in
    let none : c.loop-item.left.items ≡ [] = nil_from_length c.loop-item.left.items (search rules) in
    sym (append-nil c.loop-item.all.items) ∙ ap (λ (l : List ChangeItem). c.loop-item.all.items ++ map told (reverse l)) (sym none) ∙ c.loop-item.invariant
