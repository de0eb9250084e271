-- The text of the path that a word means, by what is cut off it.
use Rattle.std.proofs.Common.{◌≡◌, ◌≢◌, ℕ, List, [], ◌∷◌, ◌++◌, Bool, true, false, refl, sym, ap, ◌∙◌, ◌==◌}
use Rattle.std.proofs.lemmas.Bool.{eqb-true}
use Rattle.std.specs.Prelude.{Option, Some, None, MatchOption, unwrap_or}
use Rattle.std.specs.Borrow.{Bor}
use Rattle.fsfs_cli.specs.Grammars.{without_last_slash, with_first_slash, path_meant}

pub cut_last : (front : List ℕ) → without_last_slash (front ++ 47 ∷ []) ≡ front
cut_last [] = refl
cut_last (c ∷ []) = refl
cut_last (c ∷ d ∷ rest) = ap (λ (l : List ℕ). c ∷ l) (cut_last (d ∷ rest))

last_by : (c : ℕ) (b : Bool) → (c == 47) ≡ b → ((front : List ℕ) → c ∷ [] ≢ front ++ 47 ∷ []) → without_last_slash (c ∷ []) ≡ c ∷ []
last_by c true is not = absurd (not [] (ap (λ (n : ℕ). n ∷ []) (eqb-true c 47 is)))
last_by c false is not = rw is refl

pub no_last : (word : List ℕ) → ((front : List ℕ) → word ≢ front ++ 47 ∷ []) → without_last_slash word ≡ word
no_last [] not = refl
no_last (c ∷ []) not = last_by c (c == 47) refl not
no_last (c ∷ d ∷ rest) not = ap (λ (l : List ℕ). c ∷ l) (no_last (d ∷ rest) (λ front e. not (c ∷ front) (ap (λ (l : List ℕ). c ∷ l) e)))

-- the word without a `/` at its end, as it was looked for there
pub last_cut : (word : List ℕ) (o : Option (Bor (List ℕ))) (all cut : Bor (List ℕ)) → all.now ≡ word
    → MatchOption o ((front : List ℕ) → word ≢ front ++ 47 ∷ []) (λ front. word ≡ front.now ++ 47 ∷ []) → cut ≡ unwrap_or o all → cut.now ≡ without_last_slash word
last_cut word None all cut whole not is = ap (λ (b : Bor (List ℕ)). b.now) is ∙ (whole ∙ sym (no_last word not))
last_cut word (Some front) all cut whole e is = ap (λ (b : Bor (List ℕ)). b.now) is ∙ sym (ap without_last_slash e ∙ cut_last front.now)

first_by : (c : ℕ) (rest : List ℕ) (b : Bool) → (c == 47) ≡ b → ((r : List ℕ) → c ∷ rest ≢ 47 ∷ r) → 47 ∷ c ∷ rest ≡ with_first_slash (c ∷ rest)
first_by c rest true is not = absurd (not rest (ap (λ (n : ℕ). n ∷ rest) (eqb-true c 47 is)))
first_by c rest false is not = rw is refl

no_first : (text : List ℕ) → ((rest : List ℕ) → text ≢ 47 ∷ rest) → 47 ∷ text ≡ with_first_slash text
no_first [] not = refl
no_first (c ∷ rest) not = first_by c rest (c == 47) refl not

-- what stands behind the `/` at the beginning of the path's text
pub first_cut : (text : List ℕ) (o : Option (Bor (List ℕ))) (all cut : Bor (List ℕ)) → all.now ≡ text
    → MatchOption o ((rest : List ℕ) → text ≢ 47 ∷ rest) (λ rest. text ≡ 47 ∷ rest.now) → cut ≡ unwrap_or o all → 47 ∷ cut.now ≡ with_first_slash text
first_cut text None all cut whole not is = ap (λ (b : Bor (List ℕ)). 47 ∷ b.now) is ∙ (ap (λ (l : List ℕ). 47 ∷ l) whole ∙ no_first text not)
first_cut text (Some rest) all cut whole e is = ap (λ (b : Bor (List ℕ)). 47 ∷ b.now) is ∙ sym (ap with_first_slash e)

pub meant_is : (word cut : List ℕ) (names : List ℕ) → cut ≡ without_last_slash word → 47 ∷ names ≡ with_first_slash cut → 47 ∷ names ≡ path_meant word
unfolding path_meant
meant_is word cut names e h = h ∙ ap with_first_slash e
