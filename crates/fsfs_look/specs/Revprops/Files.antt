-- The properties of a revision, as they are read of its property file. (The libsvn_fs_fs structure file, "Revision properties file
-- format".)
use Rattle.std.specs.Prelude.{ℕ, List, [], ◌∷◌, Result, Ok, Err}
use Rattle.fsfs_revision.specs.declared.wrong.Refusal.{Refusal}
use Rattle.fsfs_revision.specs.declared.damage.DamageKind.TheVariants as what
use Rattle.fsfs_revision.specs.declared.wrong.Wrong.{Wrong}
use Rattle.fsfs_revision.specs.Damage.Checks.{Check, must, Judged}
use Rattle.fsfs_revision.specs.Damage.Damages.{place_of, damaged}
use Rattle.fsfs_revision.specs.Damage.Readings.{AndThen}
use Rattle.fsfs_revision.specs.RevProps.{MayRead, FileRead}
use Rattle.fsfs_layout.specs.Hash.Dump.{IsDump}

-- names and values, in the order of the names' bytes
abbrev pub Pairs : Type 0
Pairs = List (List ℕ × List ℕ)

-- the file is a dump, or it is wrong as a whole
abbrev pub file_checks : ℕ → List ℕ → List Check
file_checks rev bytes = must ((pairs : Pairs) × IsDump bytes pairs) (damaged (place_of rev 0) what.Props) ∷ []

abbrev pub RevPropsIn : ℕ → List ℕ → Result Pairs Wrong → Type 0
RevPropsIn rev bytes = Judged (IsDump bytes) (file_checks rev bytes)

-- these bytes are a dump just where the text is, and of the same pairs
abbrev pub SameDump : List ℕ → List ℕ → Type 0
SameDump text bytes = (pairs : Pairs) → (IsDump text pairs → IsDump bytes pairs) × (IsDump bytes pairs → IsDump text pairs)

-- bytes that stand for the text of a property file, as a reading
abbrev pub DumpRead : (Result (List ℕ) Refusal → Type 0) → Result (List ℕ) Wrong → Type 0
DumpRead may (Ok bytes) = (text : List ℕ) × may (Ok text) × SameDump text bytes
DumpRead may (Err w) = FileRead may (Err w)

-- the properties of a revision, of one text that may be read of its property file
abbrev pub RevPropsOf : MayRead → ℕ → Result Pairs Wrong → Type 0
RevPropsOf may rev = AndThen (FileRead (may rev)) (RevPropsIn rev)
