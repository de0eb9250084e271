-- The text of a path that is printed name by name.
use Rattle.std.proofs.Common.{◌≡◌, ◌+◌, ◌<◌, ℕ, List, ◌∷◌, ◌++◌, length, map, take, drop, get_or, sym, ap, ◌∙◌}
use Rattle.std.proofs.lemmas.List.{take-append-drop, map-append}
use Rattle.fsfs_base.specs.Paths.{PathName, names_text}
use Rattle.fsfs_base.proofs.PathTextLemmas.{names_text-append, text_more}

-- the names before one, that one, and those behind it
pub text_around : {A : Type 0} (f : A → PathName) (names : List A) (k : ℕ) (d : A) → k < length names
    → (names_text (map f (take k names)) ++ 47 ∷ f (get_or names k d)) ++ names_text (map f (drop (k + 1) names)) ≡ names_text (map f names)
text_around f names k d lt =
    ap (λ (t : List ℕ). t ++ names_text (map f (drop (k + 1) names))) (sym (text_more f names k d lt))
    ∙ sym (names_text-append (map f (take (k + 1) names)) (map f (drop (k + 1) names)))
    ∙ ap names_text (sym (map-append f (take (k + 1) names) (drop (k + 1) names)) ∙ ap (map f) (take-append-drop (k + 1) names))
