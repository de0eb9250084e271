use Rattle.std.proofs.Common.{◌∙◌, [], List, length, map, sym, ap, subst, arith}
use Rattle.std.specs.Prelude.{All}
use Rattle.std.specs.List.Sorted.{IsStrictlySortedBy}
use Rattle.std.specs.Ordering.{nat_cmp}
use Rattle.std.specs.Cmp.Lexicographic.{slice_cmp}
use Rattle.std.proofs.lemmas.List.{length-map}
use Rattle.std.proofs.lemmas.List.Elements.{All-map}
use Rattle.std.proofs.lemmas.Result.{err_from_is_err_and}
use Rattle.fsfs_noderev.specs.Changes.Items.{HasText}
use Rattle.fsfs_noderev.specs.Changes.Texts.{HavePathsOnce}
use Rattle.fsfs_noderev.specs.declared.changes.item.ChangeItem.{ChangeItem}
use Rattle.fsfs_edit.specs.Folds.FoldedItems.{text_of}
use Rattle.fsfs_final.specs.Pieces.Naming.{ids_of}
use Rattle.fsfs_commit.specs.FinalRev.Items.{told_item}
use Rattle.fsfs_commit.proofs.ItemRooms.{folded_most}
use Rattle.fsfs_commit.proofs.ItemLemmas.{told_once, told_text, told_texts}
use Rattle.fsfs_commit.proofs.final_rev.items.final_items.Goals as goal

pub fold-requires : goal.fold-requires
fold-requires c = record { paths = λ k d lt. (c.in_ok-check_texts.ensures.text k d lt).path }

pub returns-in_err-check_texts-clause-refused : goal.returns-in_err-check_texts-clause-refused
returns-in_err-check_texts-clause-refused c =
    let r = err_from_is_err_and c.from_residual.result c.from_residual.ensures.1 in
    rw (r.1, r.2) c.in_err-check_texts.ensures.refused

pub returns-clause-items : goal.returns-clause-items
returns-clause-items c =
    let ids = ids_of c.args.ids.now in
    let told = told_item c.args.txn.now ids in
    let folded = c.in_ok-folded.folded.items in
    let is = c.in_ok-told.ensures in
    record {
      folded = folded;
      each = c.in_ok-folded.ensures.each;
      marks = c.in_ok-folded.ensures.marks;
      told_are = is;
      fewer = omega (arith, ap length is, length-map folded told, folded_most c.args.items.now folded c.in_ok-folded.ensures.once c.in_ok-folded.ensures.each);
      rising = subst (λ (l : List (List _)). IsStrictlySortedBy (slice_cmp nat_cmp) l) (sym (ap (map text_of) is ∙ told_texts c.args.txn.now ids folded)) c.in_ok-folded.ensures.rising;
      once = subst (λ (l : List ChangeItem). HavePathsOnce [] l) (sym is) (told_once c.args.txn.now ids [] folded c.in_ok-folded.ensures.once);
      text = subst (λ (l : List ChangeItem). All HasText l) (sym is) (All-map HasText told folded (λ k d lt. told_text c.args.txn.now ids _ (c.in_ok-folded.ensures.text c.in_ok-check_texts.ensures.text k d lt)));
    }
