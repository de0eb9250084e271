-- Bytes at whose end the changed paths and the trailer were put.
use Rattle.std.proofs.Common.{◌≡◌, ◌∙◌, ◌+◌, ◌<◌, ℕ, List, ◌++◌, length, drop, refl, sym, ap, subst, append_assoc, arith}
use Rattle.std.proofs.Math.Seq.{drop-append_seam}
use Rattle.std.proofs.lemmas.List.{length-append}
use Rattle.fsfs_noderev.specs.Changes.Texts.{AreRevisionChanges}
use Rattle.fsfs_noderev.specs.declared.changes.item.ChangeItem.{ChangeItem}
use Rattle.fsfs_revision.specs.Trailers.{EndsWith}
use Rattle.fsfs_revision.specs.declared.trailer.Trailer.{Trailer}
use Rattle.fsfs_revision.proofs.TrailerLemmas.{trailer_few}
use Rattle.fsfs_final.specs.Pieces.Endings.{IsEndPut, IsEnded, PutEndsAreRead}
use Rattle.fsfs_final.proofs.ListLaws.{behind, put_behind}

module _ (start root : ℕ) (proto old new : List ℕ) (items : List ChangeItem) (is : IsEndPut start old new root items) (e : length proto ≡ start) (lt : root < start + length old) where
  abbrev trailer : Trailer
  trailer = record { root = root; changes = start + length old }

  at : length (proto ++ old) ≡ start + length old
  at = behind start proto old e

  parts : proto ++ new ≡ ((proto ++ old) ++ is.text) ++ is.line
  parts = sym (append_assoc (proto ++ old) is.text is.line ∙ put_behind proto old new (is.text ++ is.line) is.added)

  abbrev ends : EndsWith 0 (proto ++ new) trailer
  ends = record {
    front = (proto ++ old) ++ is.text;
    text = is.line;
    text_is = is.trailer_is;
    parts = parts;
    within = trailer_few is.line (root, start + length old) is.trailer_is;
    root = omega (arith, lt, at, length-append (proto ++ old) is.text);
    changes = omega (arith, at, length-append (proto ++ old) is.text);
  }

  changes_at : drop (start + length old) ((proto ++ old) ++ is.text) ≡ is.text
  changes_at = ap (λ (k : ℕ). drop k ((proto ++ old) ++ is.text)) (sym at) ∙ drop-append_seam (proto ++ old) is.text

  pub ended : IsEnded (proto ++ new) root items
  ended = record {
    has = record { trailer = trailer; ends = ends; items_are = subst (λ (x : List ℕ). AreRevisionChanges x items) (sym changes_at) is.items_are };
    root_is = refl;
  }

pub put_ends_are_read : PutEndsAreRead
put_ends_are_read start root proto old new items is e lt = ended start root proto old new items is e lt
