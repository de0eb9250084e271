-- The lines of jobs, and their statuses, one more at a time.
use Rattle.std.proofs.Common.{◌≡◌, ◌+◌, ◌<◌, ℕ, List, [], ◌∷◌, ◌++◌, length, take, drop, refl, sym, ap, ◌∙◌, append_assoc, append-nil, arith, max}
use Rattle.std.proofs.lemmas.List.{take-append-drop, take_more, length-take-le}
use Rattle.std.proofs.Math.Nat.{max_comm}
use Rattle.std.specs.Prelude.{slice_index_or}
use Rattle.fsfs_jobs.specs.Lines.{status_after, greatest_status, job_line, job_lines}
use Rattle.fsfs_jobs.specs.declared.answer.JobAnswer.{JobAnswer}

lines_append : (n : ℕ) (xs ys : List JobAnswer) → job_lines n (xs ++ ys) ≡ job_lines n xs ++ job_lines (n + length xs) ys
lines_append n [] ys = ap (λ (k : ℕ). job_lines k ys) (omega arith)
lines_append n (x ∷ xs) ys =
    ap (λ (t : List ℕ). job_line n x ++ t) (lines_append (n + 1) xs ys ∙ ap (λ (k : ℕ). job_lines (n + 1) xs ++ job_lines k ys) (omega arith))
    ∙ sym (append_assoc (job_line n x) (job_lines (n + 1) xs) (job_lines (n + length (x ∷ xs)) ys))

-- one line more
pub lines_more : (xs : List JobAnswer) (k : ℕ) (d : JobAnswer) → k < length xs → job_lines 1 (take (k + 1) xs) ≡ job_lines 1 (take k xs) ++ job_line (k + 1) (slice_index_or xs k d)
lines_more xs k d lt =
    ap (job_lines 1) (take_more xs k d lt)
    ∙ lines_append 1 (take k xs) (slice_index_or xs k d ∷ [])
    ∙ ap (λ (t : List ℕ). job_lines 1 (take k xs) ++ t) (append-nil (job_line (1 + length (take k xs)) (slice_index_or xs k d)))
    ∙ ap (λ (n : ℕ). job_lines 1 (take k xs) ++ job_line n (slice_index_or xs k d)) number
  where
    number : 1 + length (take k xs) ≡ k + 1
    number = let long = length-take-le k xs (omega (arith, lt)) in omega (arith, long)

-- the lines before one, that one, and those behind it
pub lines_around : (xs : List JobAnswer) (k : ℕ) (d : JobAnswer) → k < length xs
    → (job_lines 1 (take k xs) ++ job_line (k + 1) (slice_index_or xs k d)) ++ job_lines (1 + length (take (k + 1) xs)) (drop (k + 1) xs) ≡ job_lines 1 xs
lines_around xs k d lt =
    ap (λ (t : List ℕ). t ++ job_lines (1 + length (take (k + 1) xs)) (drop (k + 1) xs)) (sym (lines_more xs k d lt))
    ∙ sym (lines_append 1 (take (k + 1) xs) (drop (k + 1) xs))
    ∙ ap (job_lines 1) (take-append-drop (k + 1) xs)

-- ---- statuses

status_append : (xs : List JobAnswer) (x : JobAnswer) → greatest_status (xs ++ x ∷ []) ≡ max (status_after x) (greatest_status xs)
status_append [] x = refl
status_append (y ∷ xs) x = ap (λ (n : ℕ). max (status_after y) n) (status_append xs x) ∙ (omega arith)

-- one status more
pub status_more : (xs : List JobAnswer) (k : ℕ) (d : JobAnswer) → k < length xs → greatest_status (take (k + 1) xs) ≡ max (status_after (slice_index_or xs k d)) (greatest_status (take k xs))
status_more xs k d lt = ap greatest_status (take_more xs k d lt) ∙ status_append (take k xs) (slice_index_or xs k d)
