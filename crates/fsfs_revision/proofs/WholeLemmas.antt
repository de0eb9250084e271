-- All bytes of a text, piece by piece.
use Rattle.std.proofs.Common.{◌≡◌, ℕ, ◌+◌, List, ◌++◌, take, drop, Some, Result, sym, ap, subst, ◌∙◌}
use Rattle.fsfs_revision.specs.declared.wrong.Refusal.{Refusal}
use Rattle.fsfs_revision.specs.Told.{Telling, Keeps}
use Rattle.fsfs_noderev.specs.declared.rep.Rep.{Rep}
use Rattle.fsfs_revision.specs.declared.wrong.ReadError.{ReadError}
use Rattle.fsfs_revision.specs.Rep.Faults.{IsAbout}
use Rattle.fsfs_revision.specs.Rep.Frames.{rev_of, text_of, IsWhole, IsFaultOf}
use Rattle.fsfs_revision.proofs.ReadingLemmas.{take_more_of}

-- what is told of a representation's revision, later
pub told_later : {Below : Type 0} (old new : Telling Below) (rep named : Rep) (read : Result (List ℕ) Refusal) → Keeps old new → named ≡ rep → old.revs (rev_of rep) ≡ Some read → new.revs (rev_of named) ≡ Some read
told_later old new rep named read kept same e = ap (λ (r : Rep). new.revs (rev_of r)) same ∙ kept.revs (rev_of rep) read e

pub fault_for : (named rep : Rep) (bytes : List ℕ) (fault : ReadError) → named ≡ rep → IsFaultOf named bytes fault → IsFaultOf rep bytes fault
fault_for named rep bytes fault same h = subst (λ (r : Rep). IsFaultOf r bytes fault) same h

pub whole_for : (named rep : Rep) (bytes : List ℕ) → named ≡ rep → IsWhole named bytes → IsWhole rep bytes
whole_for named rep bytes same h = subst (λ (r : Rep). IsWhole r bytes) same h

-- the bytes so far, with a piece at their end
pub bytes_more : (named rep : Rep) (bytes items piece : List ℕ) (done count now : ℕ) → named ≡ rep → now ≡ done + count → items ≡ take done (text_of rep bytes)
    → take count piece ≡ take count (drop done (text_of named bytes)) → items ++ take count piece ≡ take now (text_of rep bytes)
bytes_more named rep bytes items piece done count now same is before next =
    let text : List ℕ = text_of rep bytes in
    ap (λ (t : List ℕ). t ++ take count piece) before
    ∙ ap (λ (t : List ℕ). take done text ++ t) (next ∙ ap (λ (r : Rep). take count (drop done (text_of r bytes))) same)
    ∙ sym (take_more_of text done count) ∙ ap (λ (n : ℕ). take n text) (sym is)

pub about_for : (named rep : Rep) (e : ReadError) → named ≡ rep → IsAbout named e → IsAbout rep e
about_for named rep e same h = subst (λ (r : Rep). IsAbout r e) same h
