-- The small files decide what an opening answers: each of its answers comes wherever its cause is there.
use Rattle.std.specs.Prelude.{◌≡◌, ℕ, Result, Ok, Err, ◌⊎◌}
use Rattle.fsfs_layout.specs.Opening.{SmallTexts, IsOpened, IsNone, HasFormat, IsLinear}
use Rattle.fsfs_create.specs.OpenFaults.{IfOutside}
use Rattle.fsfs_layout.specs.declared.opened.Opened.{Opened}
use Rattle.fsfs_base.specs.declared.places.open_fault.OpenFault.{OpenFault}
use Rattle.fsfs_base.specs.declared.places.open_fault.OpenFault.TheVariants.{NotRepo, OtherFormat, Linear}

-- a failure of the outside, or want of memory
abbrev pub IsOutside : OpenFault → Type 0
IsOutside fault = IfOutside (Unit {0}) fault

-- it was opened with this youngest revision, unless the outside failed
abbrev pub IsOpenedAs : ℕ → Result Opened OpenFault → Type 0
IsOpenedAs youngest (Ok o) = o.youngest ≡ youngest
IsOpenedAs youngest (Err fault) = IsOutside fault

-- it was refused for this cause, unless the outside failed
abbrev pub IsRefusedAs : OpenFault → Result Opened OpenFault → Type 0
IsRefusedAs why (Ok o) = ⊥
IsRefusedAs why (Err fault) = (fault ≡ why) ⊎ IsOutside fault

-- What is left is Small: with none of these causes one of the files is in no form.
pub record Decides (s : SmallTexts) (result : Result Opened OpenFault) : Type 0 where
  pub opened : (o : Opened) → IsOpened s o → IsOpenedAs o.youngest result
  pub none : IsNone s → IsRefusedAs NotRepo result
  pub other : (number : ℕ) → HasFormat s number → IsRefusedAs (OtherFormat number) result
  pub linear : IsLinear s → IsRefusedAs Linear result
