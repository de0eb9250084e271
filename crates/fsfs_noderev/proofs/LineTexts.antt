-- Lines are read one by one.
use Rattle.std.proofs.Common.{◌≡◌, ℕ, ◌<◌, Bool, true, false, cond, eqb, List, [], ◌∷◌, ◌++◌, length, Option, Some, None, refl, sym, ap, subst, ◌∙◌, append_assoc, arith}
use Rattle.std.proofs.lemmas.Option.{some_pair_parts}
use Rattle.std.specs.Prelude.{◌≢◌}
use Rattle.std.proofs.lemmas.Bool.{eqb-true}
use Rattle.std.proofs.lemmas.List.{length-append}
use Rattle.fsfs_base.specs.Grammar.Cuts.{Lacks, cut, and_then}
use Rattle.fsfs_base.proofs.CutLemmas.{cut_found, cut_again, lacks_parts, lacks_from}
use Rattle.fsfs_noderev.specs.Lines.{IsPair, line, spaced, pair_at}

-- what was read as a pair
pub record IsSpaced (name rest : List ℕ) (pair : List ℕ × List ℕ) : Type 0 where
  pub filled : name ≢ []
  pub name_is : name ≡ pair.0
  pub rest_is : rest ≡ 32 ∷ pair.1

spaced_found : (name rest : List ℕ) (pair : List ℕ × List ℕ) → spaced name rest ≡ Some pair → IsSpaced name rest pair
spaced_found [] rest pair e = absurd cc
spaced_found (c ∷ name) [] pair e = absurd cc
spaced_found (c ∷ name) (b ∷ bs) pair e = go (eqb b 32) refl e
  where
    filled : (c ∷ name) ≢ []
    filled e = cc

    go : (t : Bool) → eqb b 32 ≡ t → cond t (Some (c ∷ name, bs)) None ≡ Some pair → IsSpaced (c ∷ name) (b ∷ bs) pair
    go true same e = let p = some_pair_parts (c ∷ name) pair.0 bs pair.1 e in record { filled = filled; name_is = p.0; rest_is = rw (p.1, eqb-true b 32 same) refl }
    go false same e = absurd cc

pub pair_found : (text : List ℕ) (pair : List ℕ × List ℕ) → Lacks 10 text → pair_at text ≡ Some pair → IsPair pair × (text ≡ pair.0 ++ 58 ∷ 32 ∷ pair.1)
pair_found text pair lacks e = go (cut 58 text) refl e
  where
    go : (o : Option (List ℕ × List ℕ)) → cut 58 text ≡ o → and_then o (λ p. spaced p.0 p.1) ≡ Some pair → IsPair pair × (text ≡ pair.0 ++ 58 ∷ 32 ∷ pair.1)
    go None is e = absurd cc
    go (Some q) is e =
        let s = spaced_found q.0 q.1 pair e in
        let w = cut_found 58 text q.0 q.1 is in
        let parts : text ≡ pair.0 ++ 58 ∷ 32 ∷ pair.1 = w.parts ∙ rw (s.name_is, s.rest_is) refl in
        let ends = lacks_parts 10 pair.0 (58 ∷ 32 ∷ pair.1) (subst (λ (t : List ℕ). Lacks 10 t) parts lacks) in
        (record { filled = subst (λ (t : List ℕ). t ≢ []) s.name_is s.filled; colon = subst (λ (f : List ℕ). Lacks 58 f) s.name_is w.lacks; name = ends.0; value = ends.1.1.1 }, parts)

spaced_again : (name value : List ℕ) → name ≢ [] → spaced name (32 ∷ value) ≡ Some (name, value)
spaced_again [] value filled = absurd (filled refl)
spaced_again (c ∷ name) value filled = refl

pub pair_again : (pair : List ℕ × List ℕ) → IsPair pair → pair_at (pair.0 ++ 58 ∷ 32 ∷ pair.1) ≡ Some pair
pair_again pair is = rw (cut_again 58 pair.0 (32 ∷ pair.1) is.colon) (spaced_again pair.0 pair.1 is.filled)

pub line_lacks : (pair : List ℕ × List ℕ) → IsPair pair → Lacks 10 (pair.0 ++ 58 ∷ 32 ∷ pair.1)
line_lacks pair is = lacks_from 10 pair.0 (58 ∷ 32 ∷ pair.1) is.name (refl, (refl, is.value))

pub line_parts : (pair : List ℕ × List ℕ) (rest : List ℕ) → (pair.0 ++ 58 ∷ 32 ∷ pair.1) ++ 10 ∷ rest ≡ line pair ++ rest
line_parts pair rest = simp append_assoc

pub line_cut : (pair : List ℕ × List ℕ) (rest : List ℕ) → IsPair pair → cut 10 (line pair ++ rest) ≡ Some (pair.0 ++ 58 ∷ 32 ∷ pair.1, rest)
line_cut pair rest is = ap (cut 10) (sym (line_parts pair rest)) ∙ cut_again 10 (pair.0 ++ 58 ∷ 32 ∷ pair.1) rest (line_lacks pair is)
