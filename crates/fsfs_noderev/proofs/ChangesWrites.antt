-- What is written is an item.
use Rattle.std.proofs.Common.{◌≡◌, ◌<◌, ◌+◌, ℕ, zero, suc, true, List, [], ◌∷◌, ◌++◌, Option, Some, None, arith, get_or, take, length, refl, sym, ap, subst, ◌∙◌, append_assoc}
use Rattle.std.specs.Prelude.{◌≢◌, All}
use Rattle.std.proofs.lemmas.List.{take_more}
use Rattle.fsfs_base.specs.Grammar.Relations.{Appends}
use Rattle.fsfs_noderev.specs.Writing.{FitsSource}
use Rattle.fsfs_noderev.specs.declared.node_rev.CopySource.{CopySource}
use Rattle.fsfs_noderev.specs.Changes.Words.{flags_fit}
use Rattle.fsfs_noderev.specs.Changes.Items.{IsFirstLine, IsSecondLine, IsItem, HasText}
use Rattle.fsfs_noderev.specs.Changes.Texts.{IsAny, AreChanges}
use Rattle.fsfs_noderev.specs.declared.changes.item.ChangeItem.{ChangeItem}
use Rattle.fsfs_noderev.proofs.ItemLists.{items_push}

pub item_written : {a b c d e : List ℕ} (item : ChangeItem) → Appends IsFirstLine a b item → c ≡ b ++ 10 ∷ [] → Appends IsSecondLine c d item.source → e ≡ d ++ 10 ∷ [] → flags_fit item.action item.text_changed item.props_changed ≡ true → Appends IsItem a e item
item_written {a} {b} {c} {d} {e} item first middle second last flags =
    let one : e ≡ (c ++ second.text) ++ 10 ∷ [] = last ∙ ap (λ (t : List ℕ). t ++ 10 ∷ []) second.parts in
    let two : e ≡ ((b ++ 10 ∷ []) ++ second.text) ++ 10 ∷ [] = one ∙ ap (λ (t : List ℕ). (t ++ second.text) ++ 10 ∷ []) middle in
    let three : e ≡ (((a ++ first.text) ++ 10 ∷ []) ++ second.text) ++ 10 ∷ [] = two ∙ ap (λ (t : List ℕ). ((t ++ 10 ∷ []) ++ second.text) ++ 10 ∷ []) first.parts in
    record {
      text = first.text ++ 10 ∷ (second.text ++ 10 ∷ []);
      text_is = record { first = first.text; second = second.text; first_is = first.text_is; second_is = second.text_is; flags = flags; parts = refl };
      parts = three ∙ simp append_assoc;
    }

-- one item more
pub written_more : {a b : List ℕ} (items : List ChangeItem) (k : ℕ) (item : ChangeItem) → k < length items → item ≡ get_or items k item → AreChanges a (take k items) → Appends IsItem a b item → AreChanges b (take (k + 1) items)
written_more {a} {b} items k item lt is before w =
    let more : AreChanges (a ++ w.text) (take k items ++ item ∷ []) = items_push IsAny [] a w.text (take k items) item before w.text_is tt in
    let same : take (k + 1) items ≡ take k items ++ item ∷ [] = take_more items k item lt ∙ ap (λ (x : ChangeItem). take k items ++ x ∷ []) (sym is) in
    subst (λ (t : List ℕ). AreChanges t (take (k + 1) items)) (sym w.parts) (subst (λ (xs : List ChangeItem). AreChanges (a ++ w.text) xs) (sym same) more)

-- ---- what was read can be written, if it has a kind

source_fits : (t : List ℕ) (s : Option CopySource) → IsSecondLine t s → FitsSource s
source_fits t None w = tt
source_fits t (Some s) w = w.3.path_is

pub has_text : (text : List ℕ) (item : ChangeItem) → IsItem text item → item.kind ≢ None → HasText item
has_text text item w kind =
    let f = w.first_is in
    record {
      kind = kind;
      flags = w.flags;
      path = f.3.3.3.3.path_is;
      source = source_fits w.second item.source w.second_is;
    }

pub all_one : (P : ChangeItem → Type 0) (item : ChangeItem) → P item → All P (item ∷ [])
all_one P item p zero d lt = p
all_one P item p (suc k) d lt = absurd (omega (arith, lt))
