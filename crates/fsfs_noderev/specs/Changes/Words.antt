-- The words of an item's first line.
use Rattle.std.specs.Prelude.{◌≡◌, ℕ, Bool, true, false, ◌&&◌, not, List, Option, Some, None, codes}
use Rattle.fsfs_base.specs.Grammar.Cuts.{IsCutOf}
use Rattle.fsfs_base.specs.declared.kind.Kind.{Kind}
use Rattle.fsfs_base.specs.declared.action.Action.{Action}
use Rattle.fsfs_base.specs.declared.action.Action.TheVariants.{Add, Delete, Replace, Modify}
use Rattle.fsfs_noderev.specs.Fields.{IsKindText}

abbrev pub IsFlagText : List ℕ → Bool → Type 0
IsFlagText text true = text ≡ codes "true"
IsFlagText text false = text ≡ codes "false"

abbrev pub IsActionText : List ℕ → Action → Type 0
IsActionText text Add = text ≡ codes "add"
IsActionText text Delete = text ≡ codes "delete"
IsActionText text Replace = text ≡ codes "replace"
IsActionText text Modify = text ≡ codes "modify"

-- `<action>-<kind>`, or an action alone
abbrev pub IsActionAndKind : List ℕ → Action × Option Kind → Type 0
IsActionAndKind text (action, None) = IsActionText text action
IsActionAndKind text (action, Some kind) = IsCutOf 45 IsActionText IsKindText text (action, kind)

-- a delete changes neither text nor properties
abbrev pub flags_fit : Action → (text_changed props_changed : Bool) → Bool
flags_fit Delete text props = not text && not props
flags_fit Add text props = true
flags_fit Replace text props = true
flags_fit Modify text props = true
