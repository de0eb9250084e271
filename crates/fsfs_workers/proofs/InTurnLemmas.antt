-- What is dealt out to workers, and of two put together in turn again.
use Rattle.std.proofs.Common.{◌≡◌, ◌+◌, ◌-◌, ◌<◌, ◌≤◌, ℕ, zero, suc, List, [], ◌∷◌, ◌++◌, length, refl, sym, ap, ◌∙◌, append_assoc, append-nil, inl, inr, arith}
use Rattle.fsfs_job_run.specs.Workers.Lines.{dealt}
use Rattle.fsfs_workers.specs.InTurn.{in_turn, AreDealt, turn_after}

-- as many, or the first has one more: also of one more on each side
one_less : (n m : ℕ) → AreDealt (suc n) (suc m) → AreDealt n m
one_less n m (inl e) = inl (omega (arith, e))
one_less n m (inr e) = inr (omega (arith, e))

one_more : (n m : ℕ) → AreDealt n m → AreDealt (suc n) (suc m)
one_more n m (inl e) = inl (omega (arith, e))
one_more n m (inr e) = inr (omega (arith, e))

-- ---- in turn, then dealt out

pub first_share : {X : Type 0} (xs ys : List X) → AreDealt (length xs) (length ys) → dealt 2 0 (in_turn xs ys) ≡ xs
first_share [] [] a = refl
first_share [] (y ∷ ys) (inl e) = absurd (omega (arith, e))
first_share [] (y ∷ ys) (inr e) = absurd (omega (arith, e))
first_share (x ∷ []) [] a = refl
first_share (x ∷ w ∷ xs) [] (inl e) = absurd (omega (arith, e))
first_share (x ∷ w ∷ xs) [] (inr e) = absurd (omega (arith, e))
first_share (x ∷ xs) (y ∷ ys) a = ap (λ l. x ∷ l) (first_share xs ys (one_less (length xs) (length ys) a))

pub second_share : {X : Type 0} (xs ys : List X) → AreDealt (length xs) (length ys) → dealt 2 1 (in_turn xs ys) ≡ ys
second_share [] [] a = refl
second_share [] (y ∷ ys) (inl e) = absurd (omega (arith, e))
second_share [] (y ∷ ys) (inr e) = absurd (omega (arith, e))
second_share (x ∷ []) [] a = refl
second_share (x ∷ w ∷ xs) [] (inl e) = absurd (omega (arith, e))
second_share (x ∷ w ∷ xs) [] (inr e) = absurd (omega (arith, e))
second_share (x ∷ xs) (y ∷ ys) a = ap (λ l. y ∷ l) (second_share xs ys (one_less (length xs) (length ys) a))

-- ---- dealt out

-- one worker has all
pub one_share : {X : Type 0} (xs : List X) → dealt 1 0 xs ≡ xs
one_share [] = refl
one_share (x ∷ xs) = ap (λ l. x ∷ l) (one_share xs)

pub shares_are_dealt : {X : Type 0} (xs : List X) → AreDealt (length (dealt 2 0 xs)) (length (dealt 2 1 xs))
shares_are_dealt [] = inl refl
shares_are_dealt (x ∷ []) = inr refl
shares_are_dealt (x ∷ y ∷ xs) = one_more (length (dealt 2 0 xs)) (length (dealt 2 1 xs)) (shares_are_dealt xs)

pub shares_are_all : {X : Type 0} (xs : List X) → length (dealt 2 0 xs) + length (dealt 2 1 xs) ≡ length xs
shares_are_all [] = refl
shares_are_all (x ∷ []) = refl
shares_are_all (x ∷ y ∷ xs) = let rest = shares_are_all xs in omega (arith, rest)

pub length_in_turn : {X : Type 0} (xs ys : List X) → length (in_turn xs ys) ≡ length xs + length ys
length_in_turn [] ys = omega arith
length_in_turn (x ∷ xs) [] = omega arith
length_in_turn (x ∷ xs) (y ∷ ys) = let rest = length_in_turn xs ys in omega (arith, rest)

-- ---- one thing more is dealt out

-- it is this worker's, whose turn it is
pub dealt_mine : {X : Type 0} (n w : ℕ) (xs : List X) (x : X) → turn_after n w xs ≡ 0 → dealt n w (xs ++ x ∷ []) ≡ dealt n w xs ++ x ∷ []
dealt_mine n zero [] x turn = refl
dealt_mine n (suc w) [] x turn = absurd (omega (arith, turn))
dealt_mine n zero (y ∷ xs) x turn = ap (λ l. y ∷ l) (dealt_mine n (n - 1) xs x turn)
dealt_mine n (suc w) (y ∷ xs) x turn = dealt_mine n w xs x turn

-- it is another's
pub dealt_others : {X : Type 0} (n w : ℕ) (xs : List X) (x : X) → 0 < turn_after n w xs → dealt n w (xs ++ x ∷ []) ≡ dealt n w xs
dealt_others n zero [] x turn = absurd (omega (arith, turn))
dealt_others n (suc w) [] x turn = refl
dealt_others n zero (y ∷ xs) x turn = ap (λ l. y ∷ l) (dealt_others n (n - 1) xs x turn)
dealt_others n (suc w) (y ∷ xs) x turn = dealt_others n w xs x turn

-- and then others have their turn, or one less
pub turn_mine : {X : Type 0} (n w : ℕ) (xs : List X) (x : X) → turn_after n w xs ≡ 0 → turn_after n w (xs ++ x ∷ []) ≡ n - 1
turn_mine n zero [] x turn = refl
turn_mine n (suc w) [] x turn = absurd (omega (arith, turn))
turn_mine n zero (y ∷ xs) x turn = turn_mine n (n - 1) xs x turn
turn_mine n (suc w) (y ∷ xs) x turn = turn_mine n w xs x turn

pub turn_others : {X : Type 0} (n w : ℕ) (xs : List X) (x : X) → 0 < turn_after n w xs → turn_after n w (xs ++ x ∷ []) + 1 ≡ turn_after n w xs
turn_others n zero [] x turn = absurd (omega (arith, turn))
turn_others n (suc w) [] x turn = omega arith
turn_others n zero (y ∷ xs) x turn = turn_others n (n - 1) xs x turn
turn_others n (suc w) (y ∷ xs) x turn = turn_others n w xs x turn

-- ---- two lists are put in turn, item by item

-- nothing is left of either
pub all_put : {X : Type 0} (before ys whole : List X) → AreDealt 0 (length ys) → before ++ in_turn [] ys ≡ whole → before ≡ whole
all_put before [] whole a is = sym (append-nil before) ∙ is
all_put before (y ∷ ys) whole (inl e) is = absurd (omega (arith, e))
all_put before (y ∷ ys) whole (inr e) is = absurd (omega (arith, e))
