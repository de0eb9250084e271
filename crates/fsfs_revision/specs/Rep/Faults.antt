-- What the readers of a representation answer where they have no bytes, or where they do not know the bytes.
use Rattle.std.specs.Prelude.{◌≡◌, ◌≢◌, ℕ, Some}
use Rattle.fsfs_revision.specs.declared.damage.DamageKind.{DamageKind}
use Rattle.fsfs_revision.specs.declared.damage.DamageKind.TheVariants as what
use Rattle.fsfs_revision.specs.declared.damage.RepWhat.TheVariants as repwhat
use Rattle.fsfs_revision.specs.declared.wrong.Refusal.{Refusal}
use Rattle.fsfs_revision.specs.declared.wrong.Wrong.{Wrong}
use Rattle.fsfs_revision.specs.declared.wrong.Wrong.TheVariants as wrongs
use Rattle.fsfs_revision.specs.declared.wrong.ReadError.{ReadError}
use Rattle.fsfs_revision.specs.Damage.Readings.{IfWrong}
use Rattle.fsfs_revision.specs.Told.{IsRefusalOf}
use Rattle.fsfs_noderev.specs.declared.rep.Rep.{Rep}
use Rattle.fsfs_noderev.specs.declared.rep.Uniquifier.{Uniquifier}
use Rattle.fsfs_revision.specs.Rep.Frames.{rev_of, rep_place}

-- the book answered this refusal, unless there was a failure
abbrev pub IsRefusedFor : Refusal → ReadError → Type 0
IsRefusedFor why = IfWrong (λ w. w ≡ wrongs.Refused why)

-- a refusal of this revision
abbrev pub IsRefusedRev : ℕ → Wrong → Type 0
IsRefusedRev rev (wrongs.Refused refusal) = IsRefusalOf rev refusal
IsRefusedRev rev w = ⊥

-- the values that damage carries are the representation's, and what was found differs
abbrev pub CarriesValues : Rep → DamageKind → Type 0
CarriesValues rep (what.Rep (repwhat.Size kept found)) = (kept ≡ rep.size) × (found ≡ rep.length) × (kept ≢ found)
CarriesValues rep (what.Rep (repwhat.Md5 kept found)) = (kept ≡ rep.md5) × (kept.bytes ≢ found.bytes)
CarriesValues rep (what.Rep (repwhat.Sha1 kept found)) = ((u : Uniquifier) × (rep.unique ≡ Some u) × (kept ≡ u.sha1)) × (kept.bytes ≢ found.bytes)
CarriesValues rep (what.Rep repwhat.Header) = Unit {0}
CarriesValues rep (what.Rep repwhat.EndRep) = Unit {0}
CarriesValues rep kind = ⊥

-- whatever the book tells: a refusal is of the representation's revision, and damage or a delta is at its place
abbrev pub IsWrongOf : Rep → Wrong → Type 0
IsWrongOf rep (wrongs.Refused refusal) = IsRefusalOf (rev_of rep) refusal
IsWrongOf rep (wrongs.Delta at) = at ≡ rep_place rep
IsWrongOf rep (wrongs.Damaged d) = (d.at ≡ rep_place rep) × CarriesValues rep d.what

abbrev pub IsAbout : Rep → ReadError → Type 0
IsAbout rep = IfWrong (IsWrongOf rep)
