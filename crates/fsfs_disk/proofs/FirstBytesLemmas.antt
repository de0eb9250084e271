-- What the first bytes of a file tell of it, where no text of its grammar has so many.
use Rattle.std.proofs.Common.{◌≡◌, ◌≤◌, ◌<◌, ℕ, ◌+◌, List, ◌++◌, length, take, min, sym, ap, subst, ◌∙◌, arith}
use Rattle.std.specs.Prelude.{Option, Some, None}
use Rattle.std.proofs.lemmas.List.{length-take, length-append, take_all, take-take}
use Rattle.fsfs_base.specs.Grammar.Relations.{GoesOn, IsFaultAt}
use Rattle.fsfs_disk.specs.Fronts.{IsFrontOf}
use Rattle.fsfs_disk.specs.WholeFiles.FirstBytes.{first_of, IsShorter}

pub all_of_short : (most : ℕ) (text : List ℕ) → length (take most text) < most → take most text ≡ text
all_of_short most text lt = take_all most text (omega (arith, length-take most text, lt))

-- the first bytes are a text of the grammar where the whole is
pub text_of_first : {X : Type 0} (G : List ℕ → X → Type 0) (most : ℕ) (text : List ℕ) (x : X) → IsShorter most G → G (take most text) x → G text x
text_of_first G most text x short is =
    let P : List ℕ → Type 0 = λ t. G t x in
    subst P (all_of_short most text (short (take most text) x is)) is

pub first_of_text : {X : Type 0} (G : List ℕ → X → Type 0) (most : ℕ) (text : List ℕ) (x : X) → IsShorter most G → G text x → G (take most text) x
first_of_text G most text x short is =
    let P : List ℕ → Type 0 = λ t. G t x in
    let less : length text < most = short text x is in
    subst P (sym (take_all most text (omega (arith, less)))) is

-- and they go wrong where the whole does
pub fault_of_first : {X : Type 0} (G : List ℕ → X → Type 0) (most : ℕ) (text : List ℕ) (at : ℕ) → IsShorter most G → IsFaultAt G (take most text) at → IsFaultAt G text at
fault_of_first G most text at short w =
    let first : List ℕ = take most text in
    let size : length first ≡ min most (length text) = length-take most text in
    let front : length (take at first) ≡ min at (length first) = length-take at first in
    let more : length (take at first ++ w.before.more) < most = short (take at first ++ w.before.more) w.before.value w.before.text in
    let less : at < most = omega (arith, w.within, front, more, length-append (take at first) w.before.more) in
    record {
      within = omega (arith, w.within, size);
      before = subst (GoesOn G) (take-take at most text (omega (arith, less))) w.before;
      behind = λ lt g. w.behind (omega (arith, lt, size, less)) (subst (GoesOn G) (sym (take-take (at + 1) most text (omega (arith, less)))) g);
    }
