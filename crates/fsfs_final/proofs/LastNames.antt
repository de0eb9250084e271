-- A path is `/`, or has a last name.
use Rattle.std.proofs.Common.{◌≡◌, [], ◌∷◌, ◌++◌, refl}
use Rattle.fsfs_base.specs.Paths.{PathName, Path}

pub data Ends (p : Path) : Type 0 where
  Root : p ≡ [] → Ends p
  Named : (q : Path) (name : PathName) → p ≡ q ++ name ∷ [] → Ends p

pub ends : (p : Path) → Ends p
ends [] = Root refl
ends (x ∷ p) = elim (ends p) [
  | Root e ↦ Named [] x (λ i. x ∷ e i)
  | Named q name e ↦ Named (x ∷ q) name (λ i. x ∷ e i)
]
