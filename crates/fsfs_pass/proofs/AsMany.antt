-- As many revisions came since the opening as the passes have of their own. So a step that adds as many to its pass's own as to the history
-- leaves the number of revisions from which on the machine tells whose each one is.
use Rattle.std.proofs.Common.{◌≡◌, ◌<◌, ◌≤◌, ◌+◌, ◌==◌, ℕ, suc, zero, List, [], ◌∷◌, length, true, false, cond, refl, ap, ◌∙◌, arith}
use Rattle.std.specs.Prelude.{Some, None, slice_get, if◌then◌else◌}
use mathlib.Core.Logic.{dite}
use native.Mathlib.Decide.{ℕ_discrete}
use Rattle.fsfs_model.specs.Flat.Transactions.{Entry}
use Rattle.fsfs_machine.specs.declared.machine.Recorded.{Recorded}
use Rattle.fsfs_machine.specs.declared.machine.Pass.{Pass}
use Rattle.fsfs_machine.specs.Machine.{World}
use Rattle.fsfs_machine.specs.Kept.{carried_by, AreMine, AreOfPasses, Whose, Kept}
use Rattle.fsfs_turn.specs.Views.{with_txns}

-- ---- entries by the passes whose numbers they carry

-- how many carry one of n numbers from k on
abbrev tally : ℕ → ℕ → ℕ → List Entry → ℕ
tally k zero r es = 0
tally k (suc n) r es = length (carried_by k r es) + tally (k + 1) n r es

-- whether this is one of them, as a number
abbrev ones : ℕ → ℕ → ℕ → ℕ
ones k zero p = 0
ones k (suc n) p = (if p == k then 1 else 0) + ones (k + 1) n p

tally_none : (k n r : ℕ) → tally k n r [] ≡ 0
tally_none k zero r = refl
tally_none k (suc n) r = let rest = tally_none (k + 1) n r in omega (arith, rest)

carried_count : (p r : ℕ) (e : Entry) (es : List Entry) → length (carried_by p r (e ∷ es)) ≡ (if e.pass == p then 1 else 0) + length (carried_by p (r + 1) es)
carried_count p r e es = elim (e.pass == p) as (λ b. length (cond b (r ∷ carried_by p (r + 1) es) (carried_by p (r + 1) es)) ≡ cond b 1 0 + length (carried_by p (r + 1) es)) [
  | true ↦ omega arith
  | false ↦ omega arith
]

tally_more : (k n r : ℕ) (e : Entry) (es : List Entry) → tally k n r (e ∷ es) ≡ ones k n e.pass + tally k n (r + 1) es
tally_more k zero r e es = refl
tally_more k (suc n) r e es = let here = carried_count k r e es in let rest = tally_more (k + 1) n r e es in omega (arith, here, rest)

ones_out : (k n p : ℕ) → p < k → ones k n p ≡ 0
ones_out k zero p less = refl
ones_out k (suc n) p less =
    let no : (p == k) ≡ false = grind (arith, less) in
    let here : ◌≡◌ {A = ℕ} (if p == k then 1 else 0) 0 = ap (λ b. cond b 1 0) no in
    let rest = ones_out (k + 1) n p (omega (arith, less)) in omega (arith, here, rest)

above : (k p : ℕ) → k ≤ p → (p ≡ k → ⊥) → k < p
above zero zero le apart = absurd (apart refl)
above zero (suc p) le apart = omega arith
above (suc k) zero le apart = absurd (omega (arith, le))
above (suc k) (suc p) le apart = let less = above k p (omega (arith, le)) (λ e. apart (ap suc e)) in omega (arith, less)

ones_in : (k n p : ℕ) → k ≤ p → p < k + n → ones k n p ≡ 1
ones_in k zero p from to = absurd (omega (arith, from, to))
ones_in k (suc n) p from to = dite (ℕ_discrete p k)
    (λ is.
    let yes : (p == k) ≡ true = grind (arith, is) in
    let here : ◌≡◌ {A = ℕ} (if p == k then 1 else 0) 1 = ap (λ b. cond b 1 0) yes in
    let rest = ones_out (k + 1) n p (omega (arith, is)) in omega (arith, here, rest))
    (λ isnt.
    let more : k < p = above k p from isnt in
    let no : (p == k) ≡ false = grind (arith, more) in
    let here : ◌≡◌ {A = ℕ} (if p == k then 1 else 0) 0 = ap (λ b. cond b 1 0) no in
    let rest = ones_in (k + 1) n p (omega (arith, more)) (omega (arith, to)) in omega (arith, here, rest))

tally_all : (n r : ℕ) (es : List Entry) → AreOfPasses n es → tally 0 n r es ≡ length es
tally_all n r [] a = tally_none 0 n r
tally_all n r (e ∷ es) a =
    let more = tally_more 0 n r e es in
    let less : e.pass < n = a.0 in
    let here = ones_in 0 n e.pass (omega arith) (omega (arith, less)) in
    let rest = tally_all n (r + 1) es a.1 in omega (arith, more, here, rest)

-- ---- what passes have of their own

abbrev mines : List Pass → ℕ
mines [] = 0
mines (x ∷ xs) = length x.mine + mines xs

mines_tallied : (o : ℕ) (es : List Entry) (k : ℕ) (xs : List Pass) → AreMine o es k xs → mines xs ≡ tally k (length xs) o es
mines_tallied o es k [] m = refl
mines_tallied o es k (x ∷ xs) m = let here : length x.mine ≡ length (carried_by k o es) = ap length m.0 in let rest = mines_tallied o es (k + 1) xs m.1 in omega (arith, here, rest)

pub as_many : (o : ℕ) (h : List Recorded) (es : List Entry) (xs : List Pass) → Whose o h es xs → o + mines xs ≡ length h
as_many o h es xs w =
    let all : mines xs ≡ length es = mines_tallied o es 0 xs w.mine ∙ tally_all (length xs) o es w.carriers in
    let count : o + length es ≡ length h = w.count in omega (arith, all, count)

pub one_pass : (a b : Pass) → Some a ≡ Some b → a ≡ b
one_pass a b e = cc

-- of one pass
pub mines_one : (xs : List Pass) (p : ℕ) (x : Pass) → length xs ≡ 1 → p ≡ 0 → slice_get xs p ≡ Some x → mines xs ≡ length x.mine
mines_one [] p x long is at = absurd (omega (arith, long))
mines_one (y ∷ []) p x long is at = let here : length y.mine ≡ length x.mine = ap (λ (z : Pass). length z.mine) (one_pass y x (sym_at p is at)) in omega (arith, here)
  where
    sym_at : (n : ℕ) → n ≡ 0 → slice_get (y ∷ []) n ≡ Some x → Some y ≡ Some x
    sym_at zero e k = k
    sym_at (suc n) e k = absurd (omega (arith, e))
mines_one (y ∷ z ∷ xs) p x long is at = absurd (omega (arith, long))

mines_same : (a b : List Pass) → length b ≡ length a → ((q : ℕ) → slice_get b q ≡ slice_get a q) → mines b ≡ mines a
mines_same [] [] long same = refl
mines_same [] (y ∷ b) long same = absurd (omega (arith, long))
mines_same (x ∷ a) [] long same = absurd (omega (arith, long))
mines_same (x ∷ a) (y ∷ b) long same =
    let here : length y.mine ≡ length x.mine = ap (λ (z : Pass). length z.mine) (one_pass y x (same 0)) in
    let rest = mines_same a b (omega (arith, long)) (λ q. same (suc q)) in omega (arith, here, rest)

-- where one pass alone changes
mines_moved : (a b : List Pass) (p : ℕ) (x y : Pass) → length b ≡ length a → slice_get a p ≡ Some x → slice_get b p ≡ Some y → ((q : ℕ) → (q ≡ p → ⊥) → slice_get b q ≡ slice_get a q) → mines b + length x.mine ≡ mines a + length y.mine
mines_moved [] b p x y long at by same = let no : None ≡ Some x = at in absurd cc
mines_moved (z ∷ a) [] p x y long at by same = absurd (omega (arith, long))
mines_moved (z ∷ a) (t ∷ b) zero x y long at by same =
    let one : length z.mine ≡ length x.mine = ap (λ (v : Pass). length v.mine) (one_pass z x at) in
    let other : length t.mine ≡ length y.mine = ap (λ (v : Pass). length v.mine) (one_pass t y by) in
    let rest = mines_same a b (omega (arith, long)) (λ q. same (suc q) (λ e. absurd (omega (arith, e)))) in omega (arith, one, other, rest)
mines_moved (z ∷ a) (t ∷ b) (suc p) x y long at by same =
    let here : length t.mine ≡ length z.mine = ap (λ (v : Pass). length v.mine) (one_pass t z (same 0 (λ e. absurd (omega (arith, e))))) in
    let rest = mines_moved a b p x y (omega (arith, long)) at by (λ q apart. same (suc q) (λ e. apart (omega (arith, e)))) in omega (arith, here, rest)

-- ---- a step

pub opening_stays : (w after : World) (p : ℕ) (x y : Pass) → Kept (with_txns [] w) → Kept (with_txns [] after) → length after.passes ≡ length w.passes → slice_get w.passes p ≡ Some x → slice_get after.passes p ≡ Some y
    → ((q : ℕ) → (q ≡ p → ⊥) → slice_get after.passes q ≡ slice_get w.passes q) → length y.mine + length w.history ≡ length x.mine + length after.history → after.opening ≡ w.opening
opening_stays w after p x y kept keeps count at by same more =
    let was : w.opening + mines w.passes ≡ length w.history = as_many w.opening w.history w.since w.passes kept.whose in
    let now : after.opening + mines after.passes ≡ length after.history = as_many after.opening after.history after.since after.passes keeps.whose in
    let moved = mines_moved w.passes after.passes p x y count at by same in omega (arith, was, now, moved, more)
