-- What a book tells of a revision, and what is read of it.
use Rattle.std.specs.Prelude.{◌≡◌, ℕ, Bool, true, false, List, length, take, drop, Result, Ok, Err}
use Rattle.fsfs_revision.specs.Told.{RevisionBytes, BytesOf}
use Rattle.fsfs_noderev.specs.declared.node_rev.NodeRev.{NodeRev}
use Rattle.fsfs_revision.specs.declared.damage.RevOffset.{RevOffset}
use Rattle.fsfs_revision.specs.declared.trailer.Trailer.{Trailer}
use Rattle.fsfs_revision.specs.Trailers.{EndsWith}
use Rattle.fsfs_revision.specs.Damage.Damages.{place_of}
use Rattle.fsfs_revision.specs.Damages.{trailer_checks}
use Rattle.fsfs_revision.specs.declared.wrong.Wrong.{Wrong}
use Rattle.fsfs_revision.specs.declared.wrong.ReadError.{ReadError}
use Rattle.fsfs_revision.specs.declared.wrong.ReadError.TheVariants as errors
use Rattle.fsfs_revision.specs.Damage.Checks.{Judged}
use Rattle.fsfs_revision.specs.Damage.Readings.{AndThen}

-- the length of a revision
abbrev pub LengthOf : RevisionBytes → ℕ → Result ℕ Wrong → Type 0
LengthOf look rev (Ok n) = (bytes : List ℕ) × (look rev ≡ Ok bytes) × (n ≡ length bytes)
LengthOf look rev (Err w) = BytesOf look rev (Err w)

-- up to so many bytes of a revision from a place on; none past the end
abbrev pub WindowAt : RevisionBytes → RevOffset → ℕ → Result (List ℕ) Wrong → Type 0
WindowAt look at count (Ok seen) = (bytes : List ℕ) × (look at.rev ≡ Ok bytes) × (seen ≡ take count (drop at.offset bytes))
WindowAt look at count (Err w) = BytesOf look at.rev (Err w)

-- what is read of a front of a node-revision's bytes stays so with more behind it: one is shown, or memory ran out
abbrev pub is_decided : Result NodeRev ReadError → Bool
is_decided (Ok node) = true
is_decided (Err errors.OutOfMemory) = true
is_decided (Err errors.DiskFault) = false
is_decided (Err (errors.Wrong w)) = false

-- where the trailer says that the root stands
abbrev pub EndIn : ℕ → List ℕ → Result RevOffset Wrong → Type 0
EndIn rev bytes = Judged (λ at. (t : Trailer) × EndsWith 0 bytes t × (at ≡ place_of rev t.root)) (trailer_checks rev bytes)

abbrev pub EndOf : RevisionBytes → ℕ → Result RevOffset Wrong → Type 0
EndOf look rev = AndThen (BytesOf look rev) (EndIn rev)
