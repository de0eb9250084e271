-- What files have at a name after a change, and when two changes come to one.
use Rattle.std.proofs.Common.{◌≡◌, ℕ, List, Bool, true, false, cond, refl, sym, ap, ◌∙◌}
use Rattle.std.specs.Prelude.{Option, Some, None}
use Rattle.std.specs.declared.cmp.Ordering.{Ordering}
use Rattle.std.specs.declared.cmp.Ordering.TheVariants.{Less, Equal, Greater}
use Rattle.std.specs.Ordering.{nat_cmp, is_eq}
use Rattle.std.specs.Cmp.{tied_itself}
use Rattle.std.specs.Cmp.Lexicographic.{slice_cmp, nat_list_cmp_total}
use Rattle.std.specs.FinMap.{get, insert, remove, get-insert, get-remove, same_map, slice_cmp-IsAntisymmetric, nat_cmp-IsAntisymmetric}
use Rattle.fsfs_base.specs.Files.{Files, renamed}

-- the test of two names, as a choice
pub at_same : {X : Type 0} (k : List ℕ) (x y : X) → cond (is_eq (slice_cmp nat_cmp k k)) x y ≡ x
at_same k x y = ap (λ r. cond (is_eq r) x y) (tied_itself nat_list_cmp_total k)

pub at_other : {X : Type 0} (q k : List ℕ) (x y : X) → (q ≡ k → ⊥) → cond (is_eq (slice_cmp nat_cmp q k)) x y ≡ y
at_other q k x y apart =
    elim (slice_cmp nat_cmp q k) as (λ r. slice_cmp nat_cmp q k ≡ r → cond (is_eq r) x y ≡ y) [
      | Less ↦ λ p. refl
      | Equal ↦ λ p. absurd (apart (slice_cmp-IsAntisymmetric nat_cmp-IsAntisymmetric q k p))
      | Greater ↦ λ p. refl
    ] refl

pub get_new : (m : Files) (k v : List ℕ) → get (insert m k v) k ≡ Some v
get_new m k v = get-insert nat_list_cmp_total m k v k ∙ at_same k (Some v) (get m k)

pub get_kept : (m : Files) (k v q : List ℕ) → (q ≡ k → ⊥) → get (insert m k v) q ≡ get m q
get_kept m k v q apart = get-insert nat_list_cmp_total m k v q ∙ at_other q k (Some v) (get m q) apart

pub get_left : (m : Files) (k q : List ℕ) → (q ≡ k → ⊥) → get (remove m k) q ≡ get m q
get_left m k q apart = get-remove nat_list_cmp_total m k q ∙ at_other q k None (get m q) apart

-- files that have the same at each name are the same
pub same_files : (m n : Files) → ((q : List ℕ) → get m q ≡ get n q) → m ≡ n
same_files m n is = same_map nat_list_cmp_total (slice_cmp-IsAntisymmetric nat_cmp-IsAntisymmetric) m n is

-- a test of two names that says no
pub apart_by : (a b : List ℕ) → is_eq (slice_cmp nat_cmp a b) ≡ false → (a ≡ b → ⊥)
apart_by a b unlike same =
    let h : true ≡ false = sym (ap is_eq (tied_itself nat_list_cmp_total a)) ∙ ap (λ k. is_eq (slice_cmp nat_cmp a k)) same ∙ unlike in cc

-- a name that is taken away again was not given
pub remove-insert_same : (m : Files) (k v : List ℕ) → remove (insert m k v) k ≡ remove m k
remove-insert_same m k v = same_files _ _ (λ q.
    get-remove nat_list_cmp_total (insert m k v) k q
    ∙ by_case q (slice_cmp nat_cmp q k) refl
    ∙ sym (get-remove nat_list_cmp_total m k q))
  where
    by_case : (q : List ℕ) (r : Ordering) → slice_cmp nat_cmp q k ≡ r → cond (is_eq (slice_cmp nat_cmp q k)) None (get (insert m k v) q) ≡ cond (is_eq (slice_cmp nat_cmp q k)) None (get m q)
    by_case q Less p = ap (λ x. cond (is_eq (slice_cmp nat_cmp q k)) None x) (get-insert nat_list_cmp_total m k v q ∙ ap (λ r. cond (is_eq r) (Some v) (get m q)) p)
    by_case q Equal p = ap (λ r. cond (is_eq r) None (get (insert m k v) q)) p ∙ sym (ap (λ r. cond (is_eq r) None (get m q)) p)
    by_case q Greater p = ap (λ x. cond (is_eq (slice_cmp nat_cmp q k)) None x) (get-insert nat_list_cmp_total m k v q ∙ ap (λ r. cond (is_eq r) (Some v) (get m q)) p)

swapped : (a b : Bool) (x y z : Option (List ℕ)) → (a ≡ true → b ≡ true → ⊥) → cond a x (cond b y z) ≡ cond b y (cond a x z)
swapped true true x y z apart = absurd (apart refl refl)
swapped true false x y z apart = refl
swapped false b x y z apart = refl

pub same_is : (q k : List ℕ) → is_eq (slice_cmp nat_cmp q k) ≡ true → q ≡ k
same_is q k alike =
    elim (slice_cmp nat_cmp q k) as (λ r. slice_cmp nat_cmp q k ≡ r → is_eq r ≡ true → q ≡ k) [
      | Less ↦ λ p h. cc
      | Equal ↦ λ p h. slice_cmp-IsAntisymmetric nat_cmp-IsAntisymmetric q k p
      | Greater ↦ λ p h. cc
    ] refl alike

-- changes at two names are done in either order
pub insert-remove : (m : Files) (k v n : List ℕ) → (k ≡ n → ⊥) → insert (remove m n) k v ≡ remove (insert m k v) n
insert-remove m k v n apart = same_files _ _ (λ q.
    get-insert nat_list_cmp_total (remove m n) k v q
    ∙ ap (λ x. cond (is_eq (slice_cmp nat_cmp q k)) (Some v) x) (get-remove nat_list_cmp_total m n q)
    ∙ swapped (is_eq (slice_cmp nat_cmp q k)) (is_eq (slice_cmp nat_cmp q n)) (Some v) None (get m q) (λ a b. apart (sym (same_is q k a) ∙ same_is q n b))
    ∙ sym (get-remove nat_list_cmp_total (insert m k v) n q ∙ ap (λ x. cond (is_eq (slice_cmp nat_cmp q n)) None x) (get-insert nat_list_cmp_total m k v q)))

-- a file that was put and then got another name
pub renamed_put : (m : Files) (from to bytes : List ℕ) → renamed (insert m from bytes) from to (get (insert m from bytes) from) ≡ insert (remove m from) to bytes
renamed_put m from to bytes =
    ap (λ o. renamed (insert m from bytes) from to o) (get_new m from bytes)
    ∙ ap (λ n. insert n to bytes) (remove-insert_same m from bytes)
