-- What calls make of the labels that they meet.
use Rattle.std.specs.Prelude.{◌≡◌, ◌⊎◌, List, Bool, false, Option, IfSome, option_map}
use Rattle.fsfs_disk.specs.Labels.{Label, has_label, without_label}

-- Where nobody else has turns, the labels stay: behind a call that makes nothing of them, and between two calls.
abbrev pub KeepsLabels : Bool → Option (List Label) → Option (List Label) → Type 0
KeepsLabels bound old new = bound ≡ false → new ≡ old

-- a call makes this of those that it meets
pub record Relabels (bound : Bool) (f : List Label → List Label) (old new : Option (List Label)) : Type 0 where
  pub met : Option (List Label)
  pub is_met : KeepsLabels bound old met
  pub made : new ≡ option_map f met

-- or leaves them
pub record MayRelabel (bound : Bool) (f : List Label → List Label) (old new : Option (List Label)) : Type 0 where
  pub met : Option (List Label)
  pub is_met : KeepsLabels bound old met
  pub either : (new ≡ met) ⊎ (new ≡ option_map f met)

-- it drops this label, and says whether it was there
pub record Drops (bound : Bool) (l : Label) (there : Bool) (old new : Option (List Label)) : Type 0 where
  pub met : Option (List Label)
  pub is_met : KeepsLabels bound old met
  pub made : new ≡ option_map (without_label l) met
  pub said : IfSome met (λ ls. there ≡ has_label l ls)
