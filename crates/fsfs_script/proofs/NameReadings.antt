-- The tests of names say what the rules say.
use Rattle.std.proofs.Common.{◌≡◌, ◌<◌, ℕ, Bool, true, false, ◌&&◌, ltb, List, [], ◌∷◌, length, Option, Some, None, refl, sym, ap, arith}
use Rattle.std.proofs.lemmas.Bool.{ltb-true, lt-ltb, and_parts}
use Rattle.std.specs.List.{AllByRecursion, list_all}
use Rattle.std.proofs.lemmas.Str.{is_utf8-from_IsUtf8, IsUtf8-from_is_utf8}
use Rattle.std.specs.Prelude.{Ok, Err}
use Rattle.std.specs.Str.{is_utf8, IsUtf8}
use Rattle.fsfs_script.specs.JobLines.Words.{checked}
use Rattle.fsfs_script.specs.declared.job_lines.refusal.Refusal.TheVariants.{Bad}
use Rattle.fsfs_script.specs.declared.job_lines.refusal.Why.TheVariants as why
use Rattle.fsfs_base.specs.Fields.PropNames.{begins_name, continues_name, IsPropName}
use Rattle.fsfs_script.specs.JobLines.Parts.{is_prop_name, name_of}

all_continue : (cs : List ℕ) → list_all continues_name cs ≡ true → AllByRecursion (λ d. continues_name d ≡ true) cs
all_continue [] e = tt
all_continue (c ∷ cs) e = let p = and_parts (continues_name c) (list_all continues_name cs) e in (p.0, all_continue cs p.1)

all_tested : (cs : List ℕ) → AllByRecursion (λ d. continues_name d ≡ true) cs → list_all continues_name cs ≡ true
all_tested [] all = refl
all_tested (c ∷ cs) all = rw (all.0, all_tested cs all.1) refl

pub name_tested : (word : List ℕ) → IsPropName word → is_prop_name word ≡ true
name_tested [] is = absurd is
name_tested (c ∷ cs) is = rw (is.0, all_tested cs is.1, lt-ltb (length cs) 255 is.2) refl

pub name_passes : (word : List ℕ) → is_prop_name word ≡ true → IsPropName word
name_passes [] e = absurd cc
name_passes (c ∷ cs) e =
    let p = and_parts (begins_name c) (list_all continues_name cs && ltb (length cs) 255) e in
    let q = and_parts (list_all continues_name cs) (ltb (length cs) 255) p.1 in
    (p.0, all_continue cs q.0, ltb-true (length cs) 255 q.1)

pub name_again : (word : List ℕ) → IsPropName word → Some word ≡ name_of word
unfolding name_of
name_again word is = rw (name_tested word is) refl

pub name_none : (word : List ℕ) → (IsPropName word → ⊥) → None ≡ name_of word
unfolding name_of
name_none word refuted = by (is_prop_name word) refl
  where
    by : (t : Bool) → is_prop_name word ≡ t → None ≡ name_of word
    by true e = absurd (refuted (name_passes word e))
    by false e = rw e refl

-- ---- text

pub checked_text : (word : List ℕ) → IsUtf8 word → checked word ≡ Ok tt
checked_text word is = rw (is_utf8-from_IsUtf8 word is) refl

pub checked_other : (word : List ℕ) → (IsUtf8 word → ⊥) → checked word ≡ Err (Bad why.NotUtf8)
checked_other word other = by (is_utf8 word) refl
  where
    by : (t : Bool) → is_utf8 word ≡ t → checked word ≡ Err (Bad why.NotUtf8)
    by true e = absurd (other (IsUtf8-from_is_utf8 word e))
    by false e = rw e refl
