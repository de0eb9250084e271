-- Pairs whose keys rise, one after the other, are in order.
use Rattle.std.proofs.Common.{◌≡◌, ℕ, false, List, [], ◌∷◌, ◌++◌, refl, ap, ◌∙◌}
use Rattle.std.specs.List.{AllByRecursion}
use Rattle.std.specs.declared.cmp.Ordering.{Ordering}
use Rattle.std.specs.declared.cmp.Ordering.TheVariants.{Less, Equal, Greater}
use Rattle.std.specs.Ordering.{nat_cmp, is_gt}
use Rattle.std.specs.Cmp.{tied_itself}
use Rattle.std.specs.Cmp.Lexicographic.{slice_cmp, nat_list_cmp_total}
use Rattle.std.proofs.lemmas.Bool.{true≢false}
use Rattle.fsfs_layout.specs.Hash.Dump.{Ascending}

abbrev Pair : Type 0
Pair = List ℕ × List ℕ

abbrev text_cmp : List ℕ → List ℕ → Ordering
text_cmp = slice_cmp nat_cmp

-- no key is above the last
abbrev pub AreUpTo : List ℕ → List Pair → Type 0
AreUpTo last = AllByRecursion (λ p. is_gt (text_cmp p.0 last) ≡ false)

less_past : (k last key : List ℕ) (o : Ordering) → text_cmp k last ≡ o → is_gt o ≡ false → text_cmp last key ≡ Less → text_cmp k key ≡ Less
less_past k last key Less e h less = nat_list_cmp_total.trans k last key e less
less_past k last key Equal e h less = nat_list_cmp_total.congr k last key e ∙ less
less_past k last key Greater e h less = absurd (true≢false h)

below_all : (last key : List ℕ) (ps : List Pair) → AreUpTo last ps → text_cmp last key ≡ Less → AllByRecursion (λ p. text_cmp p.0 key ≡ Less) ps
below_all last key [] all less = tt
below_all last key (p ∷ ps) all less = (less_past p.0 last key (text_cmp p.0 last) refl all.0 less, below_all last key ps all.1 less)

less_push : (k : List ℕ) (ps : List Pair) (e : Pair) → AllByRecursion (λ p. text_cmp k p.0 ≡ Less) ps → text_cmp k e.0 ≡ Less → AllByRecursion (λ p. text_cmp k p.0 ≡ Less) (ps ++ e ∷ [])
less_push k [] e all one = (one, tt)
less_push k (p ∷ ps) e all one = (all.0, less_push k ps e all.1 one)

ascending_push : (ps : List Pair) (e : Pair) → Ascending ps → AllByRecursion (λ p. text_cmp p.0 e.0 ≡ Less) ps → Ascending (ps ++ e ∷ [])
ascending_push [] e order below = (tt, tt)
ascending_push (p ∷ ps) e order below = (less_push p.0 ps e order.0 below.0, ascending_push ps e order.1 below.1)

up_to_push : (ps : List Pair) (e : Pair) → AllByRecursion (λ p. text_cmp p.0 e.0 ≡ Less) ps → AreUpTo e.0 (ps ++ e ∷ [])
up_to_push [] e below = (ap is_gt (tied_itself nat_list_cmp_total e.0), tt)
up_to_push (p ∷ ps) e below = (ap is_gt below.0, up_to_push ps e below.1)

-- pairs that rise up to the last key
pub record Rise (last : List ℕ) (ps : List Pair) : Type 0 where
  pub order : Ascending ps
  pub up_to : AreUpTo last ps

pub rises_none : (last : List ℕ) → Rise last []
rises_none last = record { order = tt; up_to = tt }

-- and with one more that is above the last
pub rises_more : (last : List ℕ) (ps : List Pair) (e : Pair) → Rise last ps → text_cmp last e.0 ≡ Less → Rise e.0 (ps ++ e ∷ [])
rises_more last ps e so less =
    let below = below_all last e.0 ps so.up_to less in
    record { order = ascending_push ps e so.order below; up_to = up_to_push ps e below }
