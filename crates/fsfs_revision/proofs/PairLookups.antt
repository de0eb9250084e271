-- What a list of pairs has under a name, after a value is put.
use Rattle.std.proofs.Common.{◌≡◌, ◌∙◌, ℕ, Bool, true, false, cond, List, [], ◌∷◌, Option, Some, None, refl, sym, ap, subst, Ordering, Less, Equal, Greater}
use Rattle.std.specs.Ordering.{nat_cmp, is_eq, match_ordering}
use Rattle.std.specs.Cmp.{tied_itself}
use Rattle.std.specs.Cmp.Lexicographic.{slice_cmp, nat_list_cmp_total}
use Rattle.std.specs.BTreeMap.{insert_entry, is_at}
use Rattle.std.specs.Map.{lookup}
use Rattle.std.specs.FinMap.{slice_cmp-IsAntisymmetric, nat_cmp-IsAntisymmetric}
use Rattle.fsfs_base.specs.Paths.{same_name}
use Rattle.fsfs_base.proofs.PathLemmas.{same_name-refl, same_name-is}
use Rattle.fsfs_revision.specs.Shows.Reading.{Pairs}

abbrev pub text_cmp : List ℕ → List ℕ → Ordering
text_cmp = slice_cmp nat_cmp

pub equal_is : (x y : List ℕ) → text_cmp x y ≡ Equal → x ≡ y
equal_is x y e = slice_cmp-IsAntisymmetric nat_cmp-IsAntisymmetric x y e

pub equal_of : (x y : List ℕ) → x ≡ y → text_cmp x y ≡ Equal
equal_of x y e = sym (ap (λ (z : List ℕ). text_cmp x z) e) ∙ tied_itself nat_list_cmp_total x

-- the two tests of a name are one
pub tests_one : (q k : List ℕ) → is_eq (text_cmp q k) ≡ same_name k q
tests_one q k = by (text_cmp q k) refl (same_name k q) refl
  where
    by : (o : Ordering) → text_cmp q k ≡ o → (b : Bool) → same_name k q ≡ b → is_eq (text_cmp q k) ≡ same_name k q
    by Equal is true h = ap is_eq is ∙ sym h
    by Equal is false h =
        let same : same_name k q ≡ true = subst (λ (z : List ℕ). same_name k z ≡ true) (sym (equal_is q k is)) (same_name-refl k) in
        let no : true ≡ false = sym same ∙ h in cc
    by Less is true h = let no : Equal ≡ Less = sym (equal_of q k (sym (same_name-is k q h))) ∙ is in cc
    by Less is false h = ap is_eq is ∙ sym h
    by Greater is true h = let no : Equal ≡ Greater = sym (equal_of q k (sym (same_name-is k q h))) ∙ is in cc
    by Greater is false h = ap is_eq is ∙ sym h

pub twice : {X : Type 0} (b : Bool) (x y z : X) → cond b x z ≡ cond b x (cond b y z)
twice true x y z = refl
twice false x y z = refl

pub swapped : {X : Type 0} (s t : Bool) (x y z : X) → (s ≡ true → t ≡ true → ⊥) → cond s x (cond t y z) ≡ cond t y (cond s x z)
swapped true true x y z h = absurd (h refl refl)
swapped true false x y z h = refl
swapped false true x y z h = refl
swapped false false x y z h = refl

pub found_put : (ps : Pairs) (k v q : List ℕ) → lookup (is_at (text_cmp q)) (insert_entry text_cmp ps k v) ≡ cond (same_name k q) (Some v) (lookup (is_at (text_cmp q)) ps)
found_put [] k v q = ap (λ (b : Bool). cond b (Some v) None) (tests_one q k)
found_put (p ∷ ps) k v q = by (text_cmp k p.0) refl (found_put ps k v q)
  where
    by : (o : Ordering) → text_cmp k p.0 ≡ o → lookup (is_at (text_cmp q)) (insert_entry text_cmp ps k v) ≡ cond (same_name k q) (Some v) (lookup (is_at (text_cmp q)) ps)
        → lookup (is_at (text_cmp q)) (match_ordering o ((k, v) ∷ p ∷ ps) ((p.0, v) ∷ ps) (p ∷ insert_entry text_cmp ps k v)) ≡ cond (same_name k q) (Some v) (cond (is_eq (text_cmp q p.0)) (Some p.1) (lookup (is_at (text_cmp q)) ps))
    by Less is rest = ap (λ (b : Bool). cond b (Some v) (cond (is_eq (text_cmp q p.0)) (Some p.1) (lookup (is_at (text_cmp q)) ps))) (tests_one q k)
    by Equal is rest =
        let test : is_eq (text_cmp q p.0) ≡ same_name k q = tests_one q p.0 ∙ ap (λ (z : List ℕ). same_name z q) (sym (equal_is k p.0 is)) in
        ap (λ (b : Bool). cond b (Some v) (lookup (is_at (text_cmp q)) ps)) test
        ∙ twice (same_name k q) (Some v) (Some p.1) (lookup (is_at (text_cmp q)) ps)
        ∙ ap (λ (b : Bool). cond (same_name k q) (Some v) (cond b (Some p.1) (lookup (is_at (text_cmp q)) ps))) (sym test)
    by Greater is rest =
        ap (λ (o : Option (List ℕ)). cond (is_eq (text_cmp q p.0)) (Some p.1) o) rest
        ∙ swapped (is_eq (text_cmp q p.0)) (same_name k q) (Some p.1) (Some v) (lookup (is_at (text_cmp q)) ps)
        (λ s t. let no : Equal ≡ Greater = sym (equal_of k p.0 (same_name-is k q t ∙ sym (same_name-is p.0 q (sym (tests_one q p.0) ∙ s)))) ∙ is in cc)
