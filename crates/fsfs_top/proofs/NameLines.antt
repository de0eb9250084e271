-- The text of names that are printed line by line.
use Rattle.std.proofs.Common.{◌≡◌, ◌+◌, ◌<◌, ℕ, List, [], ◌∷◌, ◌++◌, length, map, take, drop, refl, sym, ap, ◌∙◌, append_assoc, append-nil}
use Rattle.std.proofs.lemmas.List.{take-append-drop, map-append, take_more}
use Rattle.std.specs.Prelude.{codes, slice_index_or}
use Rattle.fsfs_base.specs.declared.fields.txn_name.TxnName.{TxnName}
use Rattle.fsfs_disk.specs.Transactions.Txns.{text_of}
use Rattle.fsfs_top.specs.TxnAnswers.{names_text}

names_append : (xs ys : List (List ℕ)) → names_text (xs ++ ys) ≡ names_text xs ++ names_text ys
names_append [] ys = refl
names_append (x ∷ xs) ys = ap (λ (t : List ℕ). (x ++ codes "\n") ++ t) (names_append xs ys) ∙ sym (append_assoc (x ++ codes "\n") (names_text xs) (names_text ys))

-- one line more
pub lines_more : (txns : List TxnName) (k : ℕ) (d : TxnName) → k < length txns → names_text (map text_of (take (k + 1) txns)) ≡ names_text (map text_of (take k txns)) ++ (text_of (slice_index_or txns k d) ++ codes "\n")
lines_more txns k d lt =
    ap (λ (l : List TxnName). names_text (map text_of l)) (take_more txns k d lt)
    ∙ ap names_text (map-append text_of (take k txns) (slice_index_or txns k d ∷ []))
    ∙ names_append (map text_of (take k txns)) (text_of (slice_index_or txns k d) ∷ [])
    ∙ ap (λ (t : List ℕ). names_text (map text_of (take k txns)) ++ t) (append-nil (text_of (slice_index_or txns k d) ++ codes "\n"))

-- the lines before one, that one, and those behind it
pub lines_around : (txns : List TxnName) (k : ℕ) (d : TxnName) → k < length txns
    → (names_text (map text_of (take k txns)) ++ (text_of (slice_index_or txns k d) ++ codes "\n")) ++ names_text (map text_of (drop (k + 1) txns)) ≡ names_text (map text_of txns)
lines_around txns k d lt =
    ap (λ (t : List ℕ). t ++ names_text (map text_of (drop (k + 1) txns))) (sym (lines_more txns k d lt))
    ∙ sym (names_append (map text_of (take (k + 1) txns)) (map text_of (drop (k + 1) txns)))
    ∙ ap names_text (sym (map-append text_of (take (k + 1) txns) (drop (k + 1) txns)) ∙ ap (map text_of) (take-append-drop (k + 1) txns))
