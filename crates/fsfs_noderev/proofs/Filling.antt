-- A field that is filled in place, with what its value was read as.
use Rattle.std.proofs.Common.{◌≡◌, ℕ, List, true, false, Option, Some, None, refl}
use Rattle.std.specs.Prelude.{is_some, IfSome, IsSomeAnd}
use Rattle.fsfs_noderev.specs.Fields.{Sets}
use Rattle.fsfs_noderev.specs.declared.fields.Fields.{Fields}

pub filled : {X : Type 0} (G : List ℕ → X → Type 0) (value : List ℕ) (old found : Option X) (fill : Option X → Fields) → old ≡ None → is_some found ≡ true → IfSome found (λ x. G value x) → Sets G value old (λ x. fill (Some x)) (fill found)
filled G value old None fill empty is w = absurd cc
filled G value old (Some x) fill empty is w = (empty, x, w, refl)

pub no_value : {X V : Type 0} (H : List ℕ → V → Type 0) (view : X → V) (value : List ℕ) (found : Option X) → is_some found ≡ false → ((v : V) → H value v → IsSomeAnd found (λ x. view x ≡ v)) → (x : X) → H value (view x) → ⊥
no_value H view value None is only x w = only (view x) w
no_value H view value (Some y) is only x w = absurd cc
