-- What reading one line after another comes to.
use Rattle.std.specs.Prelude.{◌≡◌, ℕ, List, ◌∷◌, ◌++◌}
use Rattle.std.specs.List.{flat_map}
use Rattle.fsfs_noderev.specs.Lines.{IsPair, line}
use Rattle.fsfs_noderev.specs.Fields.{field_named, Puts, nothing}
use Rattle.fsfs_noderev.specs.NodeRevs.{Takes, IsNodeFault}
use Rattle.fsfs_noderev.specs.declared.fields.Fields.{Fields}
use Rattle.fsfs_noderev.specs.declared.node_rev.Which.{Which}
use Rattle.fsfs_noderev.specs.declared.reading.Step.{Step}
use Rattle.fsfs_noderev.specs.declared.reading.Step.TheVariants.{More, End}
use Rattle.fsfs_noderev.specs.declared.reading.Stop.{Stop}
use Rattle.fsfs_noderev.specs.declared.reading.Stop.TheVariants as stops
use Rattle.fsfs_noderev.specs.declared.reading.NodeError.{NodeError}
use Rattle.fsfs_noderev.specs.declared.reading.NodeError.TheVariants as errors

-- the bytes begin with a line that makes t of s
pub record IsTaken (s : Fields) (bytes : List ℕ) (t : Fields) (rest : List ℕ) : Type 0 where
  pub pair : List ℕ × List ℕ
  pub is_pair : IsPair pair
  pub put : Puts (field_named pair.0) pair.1 s t
  pub parts : bytes ≡ line pair ++ rest

abbrev pub StepIs : Fields → Fields → List ℕ → Step → Type 0
StepIs s t bytes (More rest) = IsTaken s bytes t rest.now
StepIs s t bytes (End rest) = (bytes ≡ 10 ∷ rest.now) × (t ≡ s)

abbrev pub StopIs : (ℕ → Which → Type 0) → Stop → Type 0
StopIs P stops.OutOfMemory = Unit {0}
StopIs P (stops.At left which) = P left which

-- lines that are taken, and what stands behind them
abbrev pub HasFront : List ℕ → Fields → List ℕ → Type 0
HasFront bytes fields rest = (lines : List (List ℕ × List ℕ)) × Takes nothing lines fields × (bytes ≡ flat_map line lines ++ rest)

-- a fault is exact; want of memory may come anywhere
abbrev pub IsExact : List ℕ → NodeError → Type 0
IsExact bytes errors.OutOfMemory = Unit {0}
IsExact bytes (errors.Fault fault) = IsNodeFault bytes fault

abbrev pub IsOutOfMemory : NodeError → Type 0
IsOutOfMemory errors.OutOfMemory = Unit {0}
IsOutOfMemory (errors.Fault fault) = ⊥
