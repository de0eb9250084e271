-- The line of a job in the pieces that are printed.
use Rattle.std.proofs.Common.{◌≡◌, List, ℕ, ◌++◌, refl, ap, ◌∙◌, append_assoc, append-nil}
use Rattle.std.specs.Prelude.{codes, decimal}
use Rattle.fsfs_jobs.specs.Lines.{answer_text, job_line}
use Rattle.fsfs_jobs.specs.Pieces.{answer_front, answer_back, line_front}
use Rattle.fsfs_jobs.specs.declared.answer.JobAnswer.{JobAnswer}
use Rattle.fsfs_jobs.specs.declared.answer.JobAnswer.TheVariants.{Committed, Read, Conflict, Stopped}

answer_in_pieces : (answer : JobAnswer) → answer_front answer ++ answer_back answer ≡ answer_text answer
answer_in_pieces (Committed rev) = append-nil (answer_front (Committed rev))
answer_in_pieces (Read text) = append-nil (answer_front (Read text))
answer_in_pieces (Conflict head path) = refl
answer_in_pieces (Stopped line fault) = refl

pub line_in_pieces : (number : ℕ) (answer : JobAnswer) → line_front number answer ++ answer_back answer ++ codes "\n" ≡ job_line number answer
line_in_pieces number answer =
    let front : List ℕ = decimal number ++ codes " " in
    ap (λ (t : List ℕ). t ++ codes "\n") (append_assoc front (answer_front answer) (answer_back answer) ∙ ap (λ (t : List ℕ). front ++ t) (answer_in_pieces answer))
