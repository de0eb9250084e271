-- A list that was put stands framed behind the prototype file.
use Rattle.std.proofs.Common.{◌≡◌, ◌+◌, ℕ, List, ◌++◌, length, sym, ap, subst, ◌∙◌, append_assoc, arith}
use Rattle.std.proofs.lemmas.List.{length-append}
use Rattle.fsfs_layout.specs.Hash.Dump.{dump_text}
use Rattle.fsfs_final.specs.Laid.{IsRepAt, IsFramed}
use Rattle.fsfs_final.proofs.LaidLaw.{loop_laws}
use Rattle.fsfs_final.specs.Pieces.Lists.{PutListsAreFramed}
use Rattle.fsfs_revision.specs.Rep.Frames.{framed_text}

-- where the next byte stands
pub behind : (start : ℕ) (proto old : List ℕ) → length proto ≡ start → length (proto ++ old) ≡ start + length old
behind start proto old e = omega (arith, e, length-append proto old)

-- what is put behind the writer's bytes is put behind the revision's
pub put_behind : (proto old new more : List ℕ) → new ≡ old ++ more → (proto ++ old) ++ more ≡ proto ++ new
put_behind proto old new more e = append_assoc proto old more ∙ ap (λ (x : List ℕ). proto ++ x) (sym e)

pub put_lists_are_framed : PutListsAreFramed
put_lists_are_framed n start proto old new pairs rep is e =
    let at : IsRepAt (length (proto ++ old)) rep (dump_text pairs) = subst (λ (o : ℕ). IsRepAt o rep (dump_text pairs)) (sym (behind start proto old e)) is.is in
    subst (λ (x : List ℕ). IsFramed x rep (dump_text pairs)) (put_behind proto old new (framed_text (dump_text pairs)) is.added) (loop_laws.framed (proto ++ old) (dump_text pairs) rep at)
