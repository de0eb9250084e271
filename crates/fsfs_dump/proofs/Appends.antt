-- What is put behind a text, part by part.
use Rattle.std.proofs.Common.{◌≡◌, ℕ, List, ◌++◌, ap, ◌∙◌, append_assoc}

pub then_more : (x a y b z : List ℕ) → y ≡ x ++ a → z ≡ y ++ b → z ≡ x ++ (a ++ b)
then_more x a y b z e f = f ∙ ap (λ (t : List ℕ). t ++ b) e ∙ append_assoc x a b

pub put_as : (x a b y : List ℕ) → y ≡ x ++ a → a ≡ b → y ≡ x ++ b
put_as x a b y e f = e ∙ ap (λ (t : List ℕ). x ++ t) f
