-- Whether two values are one, by tests.
use Rattle.std.proofs.Common.{◌≡◌, ◌⊎◌, ℕ, Bool, true, false, refl, sym, subst, ◌∙◌, inl, inr}
use Rattle.std.specs.Prelude.{◌≢◌, ◌==◌}
use Rattle.fsfs_base.specs.Paths.{Path, same_path}
use Rattle.fsfs_base.proofs.PathLemmas.{same_path-is, same_path-refl}
use Rattle.fsfs_noderev.specs.declared.node_id.Part.{Part}
use Rattle.fsfs_noderev.specs.declared.node_id.NodeId.{NodeId}
use Rattle.fsfs_dag.specs.Same.{same_part, same_id}
use Rattle.fsfs_dag.proofs.IdLemmas.{equal, itself, part_true, part_self, id_true, id_self}

-- a test of two values that says just when they are one
by_test : {X : Type 0} (a b : X) (test : X → X → Bool) → (test a b ≡ true → a ≡ b) → test a a ≡ true → (a ≡ b) ⊎ (a ≢ b)
by_test {X = X} a b test is self = by (test a b) refl
  where
    by : (t : Bool) → test a b ≡ t → (a ≡ b) ⊎ (a ≢ b)
    by true e = inl (is e)
    by false e = inr (λ same. (let yes = subst (λ (x : X). test a x ≡ true) same self in let no : true ≡ false = sym yes ∙ e in cc))

pub number_or : (a b : ℕ) → (a ≡ b) ⊎ (a ≢ b)
number_or a b = by_test a b (λ x y. x == y) (equal a b) (itself a)

pub part_or : (a b : Part) → (a ≡ b) ⊎ (a ≢ b)
part_or a b = by_test a b same_part (part_true a b) (part_self a)

pub id_or : (a b : NodeId) → (a ≡ b) ⊎ (a ≢ b)
id_or a b = by_test a b same_id (id_true a b) (id_self a)

pub path_or : (a b : Path) → (a ≡ b) ⊎ (a ≢ b)
path_or a b = by_test a b same_path (same_path-is a b) (same_path-refl a)

-- two copy roots
pub root_or : (a b : ℕ × Path) → (a ≡ b) ⊎ (a ≢ b)
root_or a b = by (number_or a.0 b.0) (path_or a.1 b.1)
  where
    by : (a.0 ≡ b.0) ⊎ (a.0 ≢ b.0) → (a.1 ≡ b.1) ⊎ (a.1 ≢ b.1) → (a ≡ b) ⊎ (a ≢ b)
    by (inl x) (inl y) = inl (λ i. (x i, y i))
    by (inl x) (inr y) = inr (λ same. y (λ i. (same i).1))
    by (inr x) h = inr (λ same. x (λ i. (same i).0))
