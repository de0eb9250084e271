-- Pairs put to a map one after the other.
use Rattle.std.proofs.Common.{◌≡◌, ℕ, List, [], ◌∷◌, ◌++◌, map, refl, sym, ap, ◌∙◌, append_assoc, Ordering}
use Rattle.std.specs.Ordering.{nat_cmp}
use Rattle.std.specs.Cmp.Lexicographic.{slice_cmp, nat_list_cmp_total}
use Rattle.std.specs.Ordering.{ordering_reverse}
use Rattle.std.specs.List.{AllByRecursion}
use Rattle.std.specs.List.Sorted.{IsStrictlySortedBy}
use Rattle.std.proofs.lemmas.List.{append-nil}
use Rattle.std.specs.Global.{Vec}
use Rattle.std.specs.BTreeMap.{BTreeMap}
use Rattle.std.specs.declared.cmp.Ordering.TheVariants.{Less, Greater}
use Rattle.fsfs_layout.specs.Hash.Dump.{Ascending, put, put_all}

abbrev pub pair_of : Vec ℕ × Vec ℕ → List ℕ × List ℕ
pair_of e = (e.0.items, e.1.items)

abbrev pub vec_cmp : Vec ℕ → Vec ℕ → Ordering
vec_cmp x y = slice_cmp nat_cmp x.items y.items

-- the pairs of a map, without where they lie in memory
abbrev pub pairs_of : BTreeMap (Vec ℕ) (Vec ℕ) → List (List ℕ × List ℕ)
pairs_of m = map pair_of m.entries

-- ---- pairs in order, put one after the other, are as they were

reversed : (x y : List ℕ) → slice_cmp nat_cmp x y ≡ Less → slice_cmp nat_cmp y x ≡ Greater
reversed x y e = nat_list_cmp_total.antisymm y x ∙ ap ordering_reverse e

-- the key is above each key of the pairs
abbrev IsAbove : List (List ℕ × List ℕ) → List ℕ → Type 0
IsAbove ps k = AllByRecursion (λ p. slice_cmp nat_cmp k p.0 ≡ Greater) ps

put-above : (ps : List (List ℕ × List ℕ)) (e : List ℕ × List ℕ) → IsAbove ps e.0 → put ps e ≡ ps ++ e ∷ []
put-above [] e above = refl
put-above (p ∷ ps) e above = rw above.0 (ap (λ (t : List (List ℕ × List ℕ)). p ∷ t) (put-above ps e above.1))

above-push : (ps : List (List ℕ × List ℕ)) (e : List ℕ × List ℕ) (k : List ℕ) → IsAbove ps k → slice_cmp nat_cmp k e.0 ≡ Greater → IsAbove (ps ++ e ∷ []) k
above-push [] e k above last = (last, tt)
above-push (p ∷ ps) e k above last = (above.0, above-push ps e k above.1 last)

all-push : (ps es : List (List ℕ × List ℕ)) (e : List ℕ × List ℕ) → AllByRecursion (λ x. IsAbove ps x.0) es → AllByRecursion (λ x. slice_cmp nat_cmp e.0 x.0 ≡ Less) es → AllByRecursion (λ x. IsAbove (ps ++ e ∷ []) x.0) es
all-push ps [] e above below = tt
all-push ps (x ∷ es) e above below = (above-push ps e x.0 above.0 (reversed e.0 x.0 below.0), all-push ps es e above.1 below.1)

put_all-above : (ps es : List (List ℕ × List ℕ)) → AllByRecursion (λ x. IsAbove ps x.0) es → Ascending es → put_all ps es ≡ ps ++ es
put_all-above ps [] above order = sym (append-nil ps)
put_all-above ps (e ∷ es) above order =
    ap (λ (t : List (List ℕ × List ℕ)). put_all t es) (put-above ps e above.0) ∙ put_all-above (ps ++ e ∷ []) es (all-push ps es e above.1 order.0) order.1 ∙ append_assoc ps (e ∷ []) es

above_nothing : (es : List (List ℕ × List ℕ)) → AllByRecursion (λ x. IsAbove [] x.0) es
above_nothing [] = tt
above_nothing (e ∷ es) = (tt, above_nothing es)

pub put_all-ascending : (es : List (List ℕ × List ℕ)) → Ascending es → put_all [] es ≡ es
put_all-ascending es order = put_all-above [] es (above_nothing es) order

below-map : (k : Vec ℕ) (es : List (Vec ℕ × Vec ℕ)) → AllByRecursion (λ y. vec_cmp k y ≡ Less) (map (λ e. e.0) es) → AllByRecursion (λ x. slice_cmp nat_cmp k.items x.0 ≡ Less) (map pair_of es)
below-map k [] h = tt
below-map k (e ∷ es) h = (h.0, below-map k es h.1)

pub ascending : (es : List (Vec ℕ × Vec ℕ)) → IsStrictlySortedBy vec_cmp (map (λ e. e.0) es) → Ascending (map pair_of es)
unfolding IsStrictlySortedBy
ascending [] h = tt
ascending (e ∷ es) h = (below-map e.0 es h.0, ascending es h.1)
