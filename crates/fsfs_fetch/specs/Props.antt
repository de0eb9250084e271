-- What a look at a property file meets, and what a reader may read so.
use Rattle.std.specs.Prelude.{◌≡◌, ◌≤◌, ◌<◌, ◌⊎◌, ℕ, List, Option, Some, None, Result, Ok, Err, IfSome}
use Rattle.fsfs_layout.specs.declared.layout.Layout.{Layout}
use Rattle.fsfs_disk.specs.Trace.{Trace, files_now}
use Rattle.fsfs_revision.specs.declared.wrong.Refusal.TheVariants.{NoRev}
use Rattle.fsfs_revision.specs.RevBytes.{props_file, or_missing}
use Rattle.fsfs_revision.specs.RevProps.{MayRead, IsLook}
use Rattle.fsfs_fetch.specs.Views.{Reach, IsYoungest}

-- what the property file of each revision may be when it is looked at: a text, or absent
abbrev pub MayMeet : Type 1
MayMeet = ℕ → Option (List ℕ) → Type 0

-- what may be met later may be met now
abbrev pub MeetsNoMore : MayMeet → MayMeet → Type 0
MeetsNoMore old new = (rev : ℕ) (file : Option (List ℕ)) → new rev file → old rev file

-- a look filled the buffer, which was `old`, with so many bytes of a file that may be met, or met none
abbrev pub Met : (Option (List ℕ) → Type 0) → List ℕ → List ℕ → Option ℕ → Type 0
Met may old new None = may None
Met may old new (Some n) = (text : List ℕ) × may (Some text) × IsLook text old new n

-- What may be read of the property file of a revision: that it is above the youngest; or, of one that is not, what may be met.
abbrev pub may_read : Reach → MayMeet → MayRead
may_read reach may rev read =
    ((n : ℕ) × IsYoungest reach n × (n < rev) × (read ≡ Err (NoRev rev n)))
    ⊎ ((n : ℕ) × IsYoungest reach n × (rev ≤ n) × (file : Option (List ℕ)) × may rev file × (read ≡ or_missing rev file))

-- of a disk that nobody else writes to, the file that it has, where it tells
abbrev pub owned_props : Option Trace → Layout → MayMeet
owned_props told layout rev file = IfSome told (λ t. file ≡ props_file layout (files_now t) rev)
