-- The transactions that words name, one word more at a time.
use Rattle.std.proofs.Common.{◌≡◌, ℕ, ◌+◌, ◌<◌, List, [], ◌∷◌, ◌++◌, length, map, take, drop, refl, sym, ap, ◌∙◌, option_map, option_and_then}
use Rattle.std.proofs.lemmas.List.{drop_more, map-append, take-append-drop, take_more}
use Rattle.std.proofs.lemmas.Option.{same_Some, none-some}
use Rattle.std.specs.Prelude.{Option, Some, None, slice_index_or}
use Rattle.std.specs.Borrow.{Bor}
use Rattle.fsfs_base.specs.Fields.TxnNames.{txn_name_at}
use Rattle.fsfs_cli.specs.Grammars.{txns_named}

named_append : (xs ys : List (List ℕ)) (ns : List (ℕ × ℕ)) → txns_named xs ≡ Some ns → txns_named (xs ++ ys) ≡ option_map (λ ms. ns ++ ms) (txns_named ys)
named_append [] ys ns e = by_rest (txns_named ys)
  where
    by_rest : (o : Option (List (ℕ × ℕ))) → o ≡ option_map (λ ms. ns ++ ms) o
    by_rest None = refl
    by_rest (Some ms) = ap (λ (l : List (ℕ × ℕ)). Some (l ++ ms)) (same_Some [] ns e)
named_append (x ∷ xs) ys ns e = by_parts (txn_name_at x) (txns_named xs) refl e (named_append xs ys)
  where
    by_rest : (t : ℕ × ℕ) (rest : List (ℕ × ℕ)) → t ∷ rest ≡ ns → (o : Option (List (ℕ × ℕ))) → option_map (λ txns. t ∷ txns) (option_map (λ ms. rest ++ ms) o) ≡ option_map (λ ms. ns ++ ms) o
    by_rest t rest same None = refl
    by_rest t rest same (Some ms) = ap (λ (l : List (ℕ × ℕ)). Some (l ++ ms)) same

    by_parts : (o : Option (ℕ × ℕ)) (p : Option (List (ℕ × ℕ))) → txns_named xs ≡ p → option_and_then (λ txn. option_map (λ txns. txn ∷ txns) p) o ≡ Some ns
        → ((ms : List (ℕ × ℕ)) → txns_named xs ≡ Some ms → txns_named (xs ++ ys) ≡ option_map (λ l. ms ++ l) (txns_named ys))
        → option_and_then (λ txn. option_map (λ txns. txn ∷ txns) (txns_named (xs ++ ys))) o ≡ option_map (λ ms. ns ++ ms) (txns_named ys)
    by_parts None p is named more = absurd (none-some ns named)
    by_parts (Some t) None is named more = absurd (none-some ns named)
    by_parts (Some t) (Some rest) is named more = ap (option_map (λ txns. t ∷ txns)) (more rest is) ∙ by_rest t rest (same_Some (t ∷ rest) ns named) (txns_named ys)

abbrev texts : List (Bor (List ℕ)) → List (List ℕ)
texts words = map (λ word. word.now) words

module _ (words : List (Bor (List ℕ))) (i : ℕ) (d : Bor (List ℕ)) (ns : List (ℕ × ℕ)) (lt : i < length words) (so_far : txns_named (texts (take i words)) ≡ Some ns) where
  abbrev word : List ℕ
  word = (slice_index_or words i d).now

  pub named_more : (txn : ℕ × ℕ) → txn_name_at (slice_index_or words i d).now ≡ Some txn → txns_named (map (λ word. word.now) (take (i + 1) words)) ≡ Some (ns ++ txn ∷ [])
  named_more txn named =
      ap (λ (l : List (Bor (List ℕ))). txns_named (texts l)) (take_more words i d lt)
      ∙ ap txns_named (map-append (λ (w : Bor (List ℕ)). w.now) (take i words) (slice_index_or words i d ∷ []))
      ∙ named_append (texts (take i words)) (word ∷ []) ns so_far
      ∙ ap (λ o. option_map (λ ms. ns ++ ms) (option_and_then (λ t. option_map (λ txns. t ∷ txns) (Some [])) o)) named

  pub named_none : txn_name_at (slice_index_or words i d).now ≡ None → txns_named (map (λ word. word.now) words) ≡ None
  named_none none =
      ap (λ (l : List (Bor (List ℕ))). txns_named (texts l)) (sym (take-append-drop i words) ∙ ap (λ (l : List (Bor (List ℕ))). take i words ++ l) (drop_more words i d lt))
      ∙ ap txns_named (map-append (λ (w : Bor (List ℕ)). w.now) (take i words) (slice_index_or words i d ∷ drop (i + 1) words))
      ∙ named_append (texts (take i words)) (word ∷ texts (drop (i + 1) words)) ns so_far
      ∙ ap (λ o. option_map (λ ms. ns ++ ms) (option_and_then (λ t. option_map (λ txns. t ∷ txns) (txns_named (texts (drop (i + 1) words)))) o)) none
