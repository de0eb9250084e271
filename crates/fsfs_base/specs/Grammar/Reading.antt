-- Reading from left to right: a value and the bytes behind it, or how many bytes are left where reading stops.
use Rattle.std.specs.Prelude.{◌≡◌, ℕ, zero, suc, List, [], ◌∷◌, length, take, drop, Result, Ok, Err, nat_lt, ◌==◌, if◌then◌else◌}
use Rattle.fsfs_base.specs.Grammar.Relations.{begins}

infixl 10 ◌>>=◌
abbrev pub ◌>>=◌ : {A B : Type 0} → Result A ℕ → (A → Result B ℕ) → Result B ℕ
(Ok x) >>= f = f x
(Err e) >>= f = Err e

-- what a function returned, seen by view, is what reading gives
abbrev pub Gives : {X Y : Type 0} → (X → Y) → Result X ℕ → Result Y ℕ → Type 0
Gives view (Ok x) read = read ≡ Ok (view x)
Gives view (Err left) read = read ≡ Err left

unfoldable pub text_at : List ℕ → List ℕ → Result (Unit {0} × List ℕ) ℕ
text_at [] bytes = Ok (tt, bytes)
text_at (c ∷ cs) [] = Err 0
text_at (c ∷ cs) (b ∷ bs) = if b == c then text_at cs bs else Err (suc (length bs))

abbrev pub bytes_at : ℕ → List ℕ → Result (List ℕ × List ℕ) ℕ
bytes_at n bytes = if nat_lt (length bytes) n then Err 0 else Ok (take n bytes, drop n bytes)

-- all of the bytes
abbrev pub whole : {X : Type 0} → Result (X × List ℕ) ℕ → Result X ℕ
whole read = read >>= λ p. if length p.1 == 0 then Ok p.0 else Err (length p.1)

-- items that begin with k, and then the end; n is how many steps may be made
unfoldable pub until_at : {X Z : Type 0} → (List ℕ → Result (X × List ℕ) ℕ) → (List ℕ → Result (Z × List ℕ) ℕ) → ℕ → ℕ → List ℕ → Result (List X × List ℕ) ℕ
until_at item stop k zero bytes = Err 0
until_at item stop k (suc n) bytes =
    if begins k bytes then (item bytes >>= λ p. until_at item stop k n p.1 >>= λ q. Ok (p.0 ∷ q.0, q.1))
    else (stop bytes >>= λ p. Ok ([], p.1))

-- items to the end of the bytes; n is how many steps may be made
unfoldable pub many_at : {X : Type 0} → (List ℕ → Result (X × List ℕ) ℕ) → ℕ → List ℕ → Result (List X) ℕ
many_at item zero bytes = Err 0
many_at item (suc n) bytes = if length bytes == 0 then Ok [] else (item bytes >>= λ p. many_at item n p.1 >>= λ xs. Ok (p.0 ∷ xs))
