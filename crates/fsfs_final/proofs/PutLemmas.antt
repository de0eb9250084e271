-- What the end that was put, part after part, comes to.
use Rattle.std.proofs.Common.{◌≡◌, ◌∙◌, ◌+◌, ℕ, List, [], ◌∷◌, ◌++◌, length, ap, subst, append_assoc}
use Rattle.fsfs_base.specs.Grammar.Relations.{Appends}
use Rattle.fsfs_noderev.specs.Changes.Texts.{AreRevisionChanges}
use Rattle.fsfs_noderev.specs.declared.changes.item.ChangeItem.{ChangeItem}
use Rattle.fsfs_revision.specs.Trailers.{IsOffset, IsTrailer}
use Rattle.fsfs_revision.proofs.TrailerLemmas.{written}
use Rattle.fsfs_final.specs.Pieces.Endings.{IsEndPut}

pub end_put : (start root changes : ℕ) (old a b c new text : List ℕ) (items : List ChangeItem) → changes ≡ start + length old → AreRevisionChanges text items → a ≡ old ++ text → b ≡ a ++ 10 ∷ [] → Appends (IsOffset 32) b c root → Appends (IsOffset 10) c new changes
    → IsEndPut start old new root items
end_put start root changes old a b c new text items at is first second third fourth =
    let w : Appends IsTrailer a new (root, changes) = written a b c new root changes second third fourth in
    record {
      text = text;
      line = w.text;
      items_are = is;
      trailer_is = subst (λ (k : ℕ). IsTrailer w.text (root, k)) at w.text_is;
      added = w.parts ∙ ap (λ (x : List ℕ). x ++ w.text) first ∙ append_assoc old text w.text;
    }
