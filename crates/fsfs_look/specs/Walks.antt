-- What is left to write of a tree.
use Rattle.std.specs.Prelude.{◌≡◌, ◌≢◌, ◌⊎◌, ℕ, Bool, List, [], ◌∷◌, ◌++◌, Option, Result, Ok, Err}
use Rattle.fsfs_base.specs.Paths.{PathName}
use Rattle.fsfs_revision.specs.Told.{RevisionBytes}
use Rattle.fsfs_base.specs.Streams.{Adds}
use Rattle.fsfs_noderev.specs.declared.node_rev.NodeRev.{NodeRev}
use Rattle.fsfs_dag.specs.TreeWalks.{Left}
use Rattle.fsfs_look.specs.declared.look_error.LookError.{LookError}
use Rattle.fsfs_look.specs.declared.look_error.LookError.TheVariants as errors
use Rattle.fsfs_base.specs.Output.{AddsFront}
use Rattle.fsfs_stands.specs.Texts.{End, Whole, Refused, Stopped, Nothing}
use Rattle.fsfs_stands.specs.TreeTexts.{NodeText, EntryText}

-- one text behind another, if that is whole
abbrev pub Then : (List ℕ → End → Type 0) → (List ℕ → End → Type 0) → List ℕ → End → Type 0
Then R S text end = (R text end × (end ≢ Whole)) ⊎ ((first : List ℕ) × (rest : List ℕ) × R first Whole × S rest end × (text ≡ first ++ rest))

-- the text of what is left
abbrev pub LeftText : RevisionBytes → Bool → Left → List ℕ → End → Type 0
LeftText look ids [] text end = (text ≡ []) × (end ≡ Whole)
LeftText look ids (p ∷ ps) text end = Then (EntryText look ids p.0 p.1) (LeftText look ids ps) text end

-- a node at the path itself, or nothing yet where a failure stops before it
abbrev pub NodeFrom : RevisionBytes → Bool → PathName → NodeRev → List ℕ → End → Type 0
NodeFrom look ids name v text end = Nothing Stopped text end ⊎ NodeText look ids 0 name v text end

-- a node's line was put behind the lines, and its entries before what is left; or what is wrong is in it
abbrev pub Puts : RevisionBytes → Bool → ℕ → PathName → NodeRev → Left → Left → List ℕ → List ℕ → Result (Unit {0}) LookError → Type 0
Puts look ids level name v old new before now (Ok x) =
    (line : List ℕ) × (now ≡ before ++ line) × ((text : List ℕ) (end : End) → LeftText look ids new text end → Then (NodeText look ids level name v) (LeftText look ids old) (line ++ text) end)
Puts look ids level name v old new before now (Err (errors.Fault fault)) = (line : List ℕ) × (now ≡ before ++ line) × NodeText look ids level name v line (Refused fault)
Puts look ids level name v old new before now (Err errors.OutOfMemory) = Unit {0}
Puts look ids level name v old new before now (Err errors.DiskFault) = Unit {0}
Puts look ids level name v old new before now (Err errors.WriteFault) = Unit {0}

-- the lines that were kept and the text of what was left are what was written and the lines that are kept now
abbrev pub Joins : (List ℕ → End → Type 0) → List ℕ → List ℕ → End → List ℕ → Type 0
Joins R before written end now = (text : List ℕ) × R text end × (before ++ text ≡ written ++ now)

abbrev pub JoinsSome : (List ℕ → End → Type 0) → List ℕ → List ℕ → Type 0
JoinsSome R before written = (end : End) × (rest : List ℕ) × Joins R before written end rest

abbrev pub WalksTo : (List ℕ → End → Type 0) → List ℕ → List ℕ → List ℕ → Result (Unit {0}) LookError → Type 0
WalksTo R before now written (Ok x) = Joins R before written Whole now
WalksTo R before now written (Err (errors.Fault fault)) = Joins R before written (Refused fault) now
WalksTo R before now written (Err errors.OutOfMemory) = JoinsSome R before written
WalksTo R before now written (Err errors.DiskFault) = JoinsSome R before written
WalksTo R before now written (Err errors.WriteFault) = JoinsSome R before written

-- a text was written but for the lines that are kept now
abbrev pub Walks : (List ℕ → End → Type 0) → List ℕ → List ℕ → Option (List ℕ) → Option (List ℕ) → Result (Unit {0}) LookError → Type 0
Walks R before now old new result = (written : List ℕ) × Adds old new written × WalksTo R before now written result

-- the last lines were written where the walk came to an end, and nothing where it failed
abbrev pub EndsSo : List ℕ → Option (List ℕ) → Option (List ℕ) → Result (Unit {0}) LookError → Result (Unit {0}) LookError → Type 0
EndsSo lines mid new (Ok x) (Ok y) = Adds mid new lines
EndsSo lines mid new (Ok x) (Err e) = (e ≡ errors.WriteFault) × AddsFront mid new lines
EndsSo lines mid new (Err (errors.Fault fault)) (Ok y) = ⊥
EndsSo lines mid new (Err (errors.Fault fault)) (Err e) = ((e ≡ errors.Fault fault) × Adds mid new lines) ⊎ ((e ≡ errors.WriteFault) × AddsFront mid new lines)
EndsSo lines mid new (Err errors.OutOfMemory) result = (result ≡ Err errors.OutOfMemory) × (new ≡ mid)
EndsSo lines mid new (Err errors.DiskFault) result = (result ≡ Err errors.DiskFault) × (new ≡ mid)
EndsSo lines mid new (Err errors.WriteFault) result = (result ≡ Err errors.WriteFault) × (new ≡ mid)
