-- How jobs are written: the one text of each command, and which values may stand in it.
use Rattle.std.specs.Prelude.{◌≡◌, ◌≢◌, ◌≤◌, ◌<◌, ◌^◌, ℕ, List, [], ◌∷◌, ◌++◌, length, Option, Some, None, codes, decimal, true}
use Rattle.std.specs.List.{flat_map}
use Rattle.std.specs.Str.{is_utf8}
use Rattle.fsfs_base.specs.Paths.{Path, path_text}
use Rattle.fsfs_base.specs.PathTexts.{IsPath}
use Rattle.fsfs_base.specs.Fields.PropNames.{IsPropName}
use Rattle.fsfs_script.specs.JobLines.Parts.{is_author}
use Rattle.fsfs_script.specs.declared.job_lines.edit.Edit.{Edit}
use Rattle.fsfs_script.specs.declared.job_lines.edit.Edit.TheVariants as edits
use Rattle.fsfs_script.specs.declared.job_lines.edit.SetProp.{SetProp}
use Rattle.fsfs_script.specs.declared.job_lines.lines.OpeningLine.{OpeningLine}
use Rattle.fsfs_script.specs.declared.job_lines.lines.OpeningLine.TheVariants as openings
use Rattle.fsfs_script.specs.declared.job_lines.lines.CommandLine.{CommandLine}
use Rattle.fsfs_script.specs.declared.job_lines.lines.CommandLine.TheVariants as says
use Rattle.fsfs_script.specs.declared.job_lines.verbs.Stage.{Stage}
use Rattle.fsfs_script.specs.declared.job_lines.verbs.Stage.TheVariants.{AfterJob, InEdits}
use Rattle.fsfs_script.specs.declared.job_lines.job.Base.{Base}
use Rattle.fsfs_script.specs.declared.job_lines.job.Base.TheVariants.{Youngest, Number}

-- ---- the first lines, without their ends

abbrev pub base_text : Base → List ℕ
base_text Youngest = codes "head"
base_text (Number n) = decimal n

abbrev pub set_text : SetProp → Option (List ℕ) → List ℕ
set_text set None = codes "unprop " ++ (set.name ++ 32 ∷ path_text set.path)
set_text set (Some value) = codes "prop " ++ decimal (length value) ++ 32 ∷ (set.name ++ 32 ∷ path_text set.path)

abbrev pub edit_line : Edit → List ℕ
edit_line (edits.MakeDir path) = codes "mkdir " ++ path_text path
edit_line (edits.MakeFile path) = codes "mkfile " ++ path_text path
edit_line (edits.Delete path) = codes "rm " ++ path_text path
edit_line (edits.Copy copy) = codes "copy " ++ decimal copy.rev ++ 32 ∷ path_text copy.from
edit_line (edits.Put put) = codes "put " ++ decimal (length put.text) ++ 32 ∷ path_text put.path
edit_line (edits.Prop set) = set_text set set.value

-- ---- what follows the first line: a text and a newline, or a line `to`

abbrev pub value_text : Option (List ℕ) → List ℕ
value_text None = []
value_text (Some value) = value ++ 10 ∷ []

abbrev pub edit_body : Edit → List ℕ
edit_body (edits.MakeDir path) = []
edit_body (edits.MakeFile path) = []
edit_body (edits.Delete path) = []
edit_body (edits.Copy copy) = codes "to " ++ path_text copy.to ++ 10 ∷ []
edit_body (edits.Put put) = put.text ++ 10 ∷ []
edit_body (edits.Prop set) = value_text set.value

-- all of an edit's text
abbrev pub edit_text : Edit → List ℕ
edit_text edit = edit_line edit ++ 10 ∷ edit_body edit

-- ---- which values may stand in a script

-- a path, in UTF-8
pub record CanPath (path : Path) : Type 0 where
  pub path_is : IsPath path
  pub utf8 : is_utf8 (path_text path) ≡ true

abbrev pub CanNumber : ℕ → Type 0
CanNumber n = n < 2 ^ 64

abbrev pub CanBase : Base → Type 0
CanBase Youngest = Unit {0}
CanBase (Number n) = CanNumber n

abbrev pub CanValue : Option (List ℕ) → Type 0
CanValue None = Unit {0}
CanValue (Some value) = length value ≤ 1_048_576

abbrev pub CanEdit : Edit → Type 0
CanEdit (edits.MakeDir path) = CanPath path
CanEdit (edits.MakeFile path) = CanPath path
CanEdit (edits.Delete path) = CanPath path
CanEdit (edits.Copy copy) = CanNumber copy.rev × CanPath copy.from × CanPath copy.to
CanEdit (edits.Put put) = CanPath put.path × (length put.text ≤ 1_073_741_824)
CanEdit (edits.Prop set) = CanPath set.path × IsPropName set.name × CanValue set.value

-- ---- first lines, as they say it

abbrev pub said_text : CommandLine → List ℕ
said_text (says.Author name) = codes "author " ++ name
said_text (says.Log n) = codes "log " ++ decimal n
said_text (says.Whole edit) = edit_line edit
said_text (says.Copy rev from) = codes "copy " ++ decimal rev ++ 32 ∷ path_text from
said_text (says.Put n path) = codes "put " ++ decimal n ++ 32 ∷ path_text path
said_text (says.SetProp n name path) = codes "prop " ++ decimal n ++ 32 ∷ (name ++ 32 ∷ path_text path)
said_text says.Commit = codes "commit"

abbrev pub opening_text : OpeningLine → List ℕ
opening_text (openings.Job base) = codes "job " ++ base_text base
opening_text (openings.Read base path) = codes "read " ++ base_text base ++ 32 ∷ path_text path

abbrev pub CanAuthor : List ℕ → Type 0
CanAuthor name = (is_author name ≡ true) × (is_utf8 name ≡ true)

-- an edit that one line says whole
abbrev pub CanWhole : Edit → Type 0
CanWhole (edits.MakeDir path) = CanPath path
CanWhole (edits.MakeFile path) = CanPath path
CanWhole (edits.Delete path) = CanPath path
CanWhole (edits.Copy copy) = ⊥
CanWhole (edits.Put put) = ⊥
CanWhole (edits.Prop set) = CanPath set.path × IsPropName set.name × (set.value ≡ None)

abbrev pub CanSay : CommandLine → Type 0
CanSay (says.Author name) = CanAuthor name
CanSay (says.Log n) = n ≤ 1_048_576
CanSay (says.Whole edit) = CanWhole edit
CanSay (says.Copy rev from) = CanNumber rev × CanPath from
CanSay (says.Put n path) = (n ≤ 1_073_741_824) × CanPath path
CanSay (says.SetProp n name path) = (n ≤ 1_048_576) × IsPropName name × CanPath path
CanSay says.Commit = Unit {0}

-- an author comes first, then a log, then edits
abbrev pub MayStand : Stage → CommandLine → Type 0
MayStand stage (says.Author name) = stage ≡ AfterJob
MayStand stage (says.Log n) = stage ≢ InEdits
MayStand stage (says.Whole edit) = Unit {0}
MayStand stage (says.Copy rev from) = Unit {0}
MayStand stage (says.Put n path) = Unit {0}
MayStand stage (says.SetProp n name path) = Unit {0}
MayStand stage says.Commit = Unit {0}

abbrev pub CanOpen : OpeningLine → Type 0
CanOpen (openings.Job base) = CanBase base
CanOpen (openings.Read base path) = CanBase base × CanPath path
