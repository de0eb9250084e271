-- The changed paths that a transaction's marks come to. (The libsvn_fs_fs structure file, "Revision file format", on changed-path
-- data; the pairs of changes are folded as libsvn_fs_fs folds them.)
use Rattle.std.specs.Prelude.{ℕ, Bool, true, false, List, [], ◌∷◌, Option, Some, None, if◌then◌else◌}
use Rattle.fsfs_base.specs.declared.kind.Kind.{Kind}
use Rattle.fsfs_model.specs.declared.flat.mark.Mark.{Mark}
use Rattle.fsfs_model.specs.declared.flat.mark.What.{What}
use Rattle.fsfs_model.specs.declared.flat.mark.What.TheVariants.{Make, Gone, Text, Prop}
use Rattle.fsfs_base.specs.declared.action.Action.{Action}
use Rattle.fsfs_base.specs.declared.action.Action.TheVariants.{Add, Delete, Replace, Modify}
use Rattle.fsfs_tree.specs.declared.change_map.Change.{Change}
use Rattle.fsfs_model.specs.declared.flat.folded.Folded.{Folded}
use Rattle.fsfs_base.specs.Paths.{Path, covers, same_path}

abbrev pub deletes : Action → Bool
deletes Delete = true
deletes Add = false
deletes Replace = false
deletes Modify = false

-- a mark alone, as a change
abbrev pub change_of : Kind → What → Change
change_of kind (Make source) = record { action = Add; kind = kind; text_changed = false; props_changed = false; source = source }
change_of kind Gone = record { action = Delete; kind = kind; text_changed = false; props_changed = false; source = None }
change_of kind Text = record { action = Modify; kind = kind; text_changed = true; props_changed = false; source = None }
change_of kind Prop = record { action = Modify; kind = kind; text_changed = false; props_changed = true; source = None }

-- a change and the kind of what the first delete of it took away: no mark has come before
abbrev pub begun : Kind → What → Folded
begun kind what = record { change = change_of kind what; was = kind }

-- the change with the flag that a modify raises
abbrev pub flagged : What → Folded → Folded
flagged Text f = record f { change = record f.change { text_changed = true } }
flagged Prop f = record f { change = record f.change { props_changed = true } }
flagged Gone f = f
flagged (Make source) f = f

-- a delete after a change: an add and its delete leave nothing
abbrev pub after_delete : Action → Kind → Kind → Option Folded
after_delete Add kind was = None
after_delete Modify kind was = Some (begun kind Gone)
after_delete Replace kind was = Some (begun was Gone)
after_delete Delete kind was = Some (begun kind Gone)

-- an add after a change: after a delete it is a replace, which keeps the kind of what the delete took away
abbrev pub after_add : Action → Kind → Option (ℕ × Path) → Kind → Folded
after_add Delete kind source was = record { change = record (change_of kind (Make source)) { action = Replace }; was = was }
after_add Add kind source was = begun kind (Make source)
after_add Modify kind source was = begun kind (Make source)
after_add Replace kind source was = begun kind (Make source)

-- a modify after a change: the same, with one more flag
abbrev pub after_modify : Action → Kind → What → Folded → Folded
after_modify Delete kind what f = begun kind what
after_modify Add kind what f = flagged what f
after_modify Replace kind what f = flagged what f
after_modify Modify kind what f = flagged what f

-- what was said of a path, and one more mark at that path. (No transaction has an add or a delete or a modify after what leaves no
-- room for it; the new mark stands then.)
abbrev pub joined : Option Folded → Kind → What → Option Folded
joined None kind what = Some (begun kind what)
joined (Some f) kind (Make source) = Some (after_add f.change.action kind source f.was)
joined (Some f) kind Gone = after_delete f.change.action kind f.was
joined (Some f) kind Text = Some (after_modify f.change.action kind Text f)
joined (Some f) kind Prop = Some (after_modify f.change.action kind Prop f)

-- a delete of what is above takes away what was said of a path
abbrev pub forgotten : Option Folded → What → Bool → Option Folded
forgotten o Gone below = if below then None else o
forgotten o (Make source) below = o
forgotten o Text below = o
forgotten o Prop below = o

-- what is said of the path q after one more mark
abbrev pub fold_mark : Path → Option Folded → Mark → Option Folded
fold_mark q o m = if same_path m.path q then joined o m.kind m.what else forgotten o m.what (covers m.path q)

abbrev pub fold_from : Path → Option Folded → List Mark → Option Folded
fold_from q o [] = o
fold_from q o (m ∷ ms) = fold_from q (fold_mark q o m) ms

abbrev pub change_in : Option Folded → Option Change
change_in None = None
change_in (Some f) = Some f.change

-- the change of a path that the marks of a transaction come to, if any
abbrev pub fold : List Mark → Path → Option Change
fold marks q = change_in (fold_from q None marks)
