-- What the lines of workers tell, of their lines in the order of the jobs.
use Rattle.std.proofs.Common.{◌≡◌, ◌⊎◌, ◌+◌, ◌-◌, ◌||◌, ℕ, zero, suc, List, [], ◌∷◌, ◌++◌, Bool, true, ⊎_elim, refl, sym, ap, subst, ◌∙◌, inl, inr, append_assoc, append-nil, arith}
use Rattle.fsfs_machine.specs.Kept.{IsIn, AreOnce}
use Rattle.fsfs_jobs.specs.declared.answer.JobAnswer.{JobAnswer}
use Rattle.fsfs_jobs.specs.declared.answer.JobAnswer.TheVariants.{Committed, Read, Conflict, Stopped}
use Rattle.fsfs_job_run.proofs.Full.{one_true, then_true}
use Rattle.fsfs_job_run.specs.Serial.Jobs.{own_of, own_of_all, TellNoDoubt, tell_full, tells_full}
use Rattle.fsfs_job_run.specs.Workers.Lines.{dealt, TellNoneStuck}
use Rattle.fsfs_workers.specs.Beside.{told_by}

-- ---- what stands in two lists

in_left : (r : ℕ) (a b : List ℕ) → IsIn r a → IsIn r (a ++ b)
in_left r [] b there = absurd there
in_left r (x ∷ a) b (inl same) = inl same
in_left r (x ∷ a) b (inr there) = inr (in_left r a b there)

in_right : (r : ℕ) (a b : List ℕ) → IsIn r b → IsIn r (a ++ b)
in_right r [] b there = there
in_right r (x ∷ a) b there = inr (in_right r a b there)

in_either : (r : ℕ) (a b : List ℕ) → IsIn r (a ++ b) → IsIn r a ⊎ IsIn r b
in_either r [] b there = inr there
in_either r (x ∷ a) b (inl same) = inl (inl same)
in_either r (x ∷ a) b (inr there) = more (in_either r a b there)
  where
    more : IsIn r a ⊎ IsIn r b → IsIn r (x ∷ a) ⊎ IsIn r b
    more (inl at) = inl (inr at)
    more (inr at) = inr at

-- the same in two lists that change places
in_turned : (r : ℕ) (a b : List ℕ) → IsIn r (a ++ b) → IsIn r (b ++ a)
in_turned r a b there = ⊎_elim (λ at. in_right r b a at) (λ at. in_left r b a at) (in_either r a b there)

-- one more between two lists, where it stands in neither
once_between : (b a : List ℕ) (x : ℕ) → (IsIn x (b ++ a) → ⊥) → AreOnce (b ++ a) → AreOnce (b ++ x ∷ a)
once_between [] a x apart once = (apart, once)
once_between (y ∷ b) a x apart once = (λ there. twice (in_either y b (x ∷ a) there), once_between b a x (λ there. apart (inr there)) once.1)
  where
    twice : IsIn y b ⊎ IsIn y (x ∷ a) → ⊥
    twice (inl there) = once.0 (in_left y b a there)
    twice (inr (inl same)) = apart (inl (sym same))
    twice (inr (inr there)) = once.0 (in_right y b a there)

once_turned : (a b : List ℕ) → AreOnce (a ++ b) → AreOnce (b ++ a)
once_turned [] b once = subst AreOnce (sym (append-nil b)) once
once_turned (x ∷ a) b once = once_between b a x (λ there. once.0 (in_turned x b a there)) (once_turned a b once.1)

-- ---- the revisions that lines tell

-- what is in one of two lists is in each that has both
in_both : (r : ℕ) (a b c : List ℕ) → (IsIn r b → IsIn r c) → IsIn r (a ++ b) → IsIn r (a ++ c)
in_both r a b c on there = ⊎_elim (λ at. in_left r a c at) (λ at. in_right r a c (on at)) (in_either r a b there)

-- what a share of them tells
share_tells : (n w : ℕ) (answers : List JobAnswer) (r : ℕ) → IsIn r (own_of_all (dealt n w answers)) → IsIn r (own_of_all answers)
share_tells n w [] r there = there
share_tells n zero (answer ∷ answers) r there = in_both r (own_of answer) (own_of_all (dealt n (n - 1) answers)) (own_of_all answers) (λ at. share_tells n (n - 1) answers r at) there
share_tells n (suc w) (answer ∷ answers) r there = in_right r (own_of answer) (own_of_all answers) (share_tells n w answers r there)

pub shares_tell : (n w more : ℕ) (answers : List JobAnswer) (r : ℕ) → IsIn r (told_by n w more answers) → IsIn r (own_of_all answers)
shares_tell n w zero answers r there = absurd there
shares_tell n w (suc more) answers r there = ⊎_elim (λ at. share_tells n w answers r at) (λ at. shares_tell n (suc w) more answers r at) (in_either r (own_of_all (dealt n w answers)) (told_by n (suc w) more answers) there)

-- an answer more in front is that of the worker with none before it; each other one has one less before it then
shifted : (n w more : ℕ) (answer : JobAnswer) (answers : List JobAnswer) → told_by n (suc w) more (answer ∷ answers) ≡ told_by n w more answers
shifted n w zero answer answers = refl
shifted n w (suc more) answer answers = ap (λ (l : List ℕ). own_of_all (dealt n w answers) ++ l) (shifted n (suc w) more answer answers)

-- the last of them stands last
last_share : (n w more at : ℕ) (answers : List JobAnswer) → at ≡ w + more → told_by n w (suc more) answers ≡ told_by n w more answers ++ own_of_all (dealt n at answers)
last_share n w zero at answers is = append-nil (own_of_all (dealt n w answers)) ∙ ap (λ (i : ℕ). own_of_all (dealt n i answers)) (let e : w ≡ at = omega (arith, is) in e)
last_share n w (suc more) at answers is =
    ap (λ (l : List ℕ). own_of_all (dealt n w answers) ++ l) (last_share n (suc w) more at answers (omega (arith, is))) ∙ sym (append_assoc (own_of_all (dealt n w answers)) (told_by n (suc w) more answers) (own_of_all (dealt n at answers)))

-- what n = m + 1 workers tell, of one answer more in front
one_in_front : (m : ℕ) (answer : JobAnswer) (answers : List JobAnswer) → told_by (suc m) 0 (suc m) (answer ∷ answers) ≡ own_of answer ++ (own_of_all (dealt (suc m) m answers) ++ told_by (suc m) 0 m answers)
one_in_front m answer answers =
    ap (λ (k : ℕ). (own_of answer ++ own_of_all (dealt (suc m) k answers)) ++ told_by (suc m) 1 m (answer ∷ answers)) (let e : suc m - 1 ≡ m = omega arith in e)
    ∙ ap (λ (l : List ℕ). (own_of answer ++ own_of_all (dealt (suc m) m answers)) ++ l) (shifted (suc m) 0 m answer answers)
    ∙ append_assoc (own_of answer) (own_of_all (dealt (suc m) m answers)) (told_by (suc m) 0 m answers)

-- each that they tell is told by one of the workers
told_in_shares : (m : ℕ) (answers : List JobAnswer) (r : ℕ) → IsIn r (own_of_all answers) → IsIn r (told_by (suc m) 0 (suc m) answers)
told_in_shares m [] r there = absurd there
told_in_shares m (answer ∷ answers) r there =
    let last = own_of_all (dealt (suc m) m answers) in
    let others = told_by (suc m) 0 m answers in
    subst (λ (l : List ℕ). IsIn r l) (sym (one_in_front m answer answers))
    (in_both r (own_of answer) (own_of_all answers) (last ++ others) (λ at. in_turned r others last (subst (λ (l : List ℕ). IsIn r l) (last_share (suc m) 0 m m answers (omega arith)) (told_in_shares m answers r at))) there)

-- none is told twice, where none is told twice by the workers
once_with : (m : ℕ) (answer : JobAnswer) (answers : List JobAnswer) (last others : List ℕ) → told_by (suc m) 0 (suc m) answers ≡ others ++ last → (AreOnce (told_by (suc m) 0 (suc m) answers) → AreOnce (own_of_all answers))
    → AreOnce (own_of answer ++ (last ++ others)) → AreOnce (own_of_all (answer ∷ answers))
once_with m (Committed rev) answers last others are rest once =
    ((λ there. once.0 (in_turned rev others last (subst (λ (l : List ℕ). IsIn rev l) are (told_in_shares m answers rev there)))), rest (subst AreOnce (sym are) (once_turned last others once.1)))
once_with m (Read text) answers last others are rest once = rest (subst AreOnce (sym are) (once_turned last others once))
once_with m (Conflict head path) answers last others are rest once = rest (subst AreOnce (sym are) (once_turned last others once))
once_with m (Stopped line fault) answers last others are rest once = rest (subst AreOnce (sym are) (once_turned last others once))

pub shares_tell_once : (m : ℕ) (answers : List JobAnswer) → AreOnce (told_by (suc m) 0 (suc m) answers) → AreOnce (own_of_all answers)
shares_tell_once m [] once = tt
shares_tell_once m (answer ∷ answers) once =
    once_with m answer answers (own_of_all (dealt (suc m) m answers)) (told_by (suc m) 0 m answers) (last_share (suc m) 0 m m answers (omega arith)) (shares_tell_once m answers) (subst AreOnce (one_in_front m answer answers) once)

-- ---- doubt, and a lock that is stuck

pub share_is_calm : (n w : ℕ) (answers : List JobAnswer) → TellNoDoubt answers → TellNoDoubt (dealt n w answers)
share_is_calm n w [] calm = tt
share_is_calm n zero (answer ∷ answers) calm = (calm.0, share_is_calm n (n - 1) answers calm.1)
share_is_calm n (suc w) (answer ∷ answers) calm = share_is_calm n w answers calm.1

-- a line tells that no name is left: one of the first's, or of the second's
pub either_full : (answers : List JobAnswer) → tell_full answers ≡ true → (tell_full (dealt 2 0 answers) ≡ true) ⊎ (tell_full (dealt 2 1 answers) ≡ true)
either_full [] told = absurd cc
either_full (answer ∷ answers) told =
    ⊎_elim (λ one. inl (ap (λ (b : Bool). b || tell_full (dealt 2 1 answers)) one))
    (λ more. ⊎_elim (λ first. inr first) (λ second. inl (then_true (tells_full answer) (tell_full (dealt 2 1 answers)) second)) (either_full answers more)) (one_true (tells_full answer) (tell_full answers) told)

pub none_stuck : (answers : List JobAnswer) → TellNoneStuck (dealt 2 0 answers) → TellNoneStuck (dealt 2 1 answers) → TellNoneStuck answers
none_stuck [] first second = tt
none_stuck (answer ∷ answers) first second = (first.0, none_stuck answers second first.1)
