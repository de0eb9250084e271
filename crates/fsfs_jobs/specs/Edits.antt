-- What an edit of a job makes of a transaction's tree, and why it is refused: the first row that applies.
use Rattle.std.specs.Prelude.{◌≡◌, ◌⊎◌, ℕ, ◌++◌, Bool, true, false, nat_le, if◌then◌else◌, List, [], ◌∷◌, length, Option, Some, None, is_some, codes}
use Rattle.fsfs_base.specs.Paths.{Path, is_root, same_name}
use Rattle.fsfs_base.specs.declared.kind.Kind.TheVariants.{File, Dir}
use Rattle.fsfs_tree.specs.Nodes.{Node, TreeFunction, empty_node}
use Rattle.fsfs_model.specs.Flat.Edits.{is_dir, kind_of_node, parent, with_node, without, with_copy, with_text, with_prop, fits_value}
use Rattle.fsfs_model.specs.declared.flat.mark.Mark.{Mark}
use Rattle.fsfs_model.specs.declared.flat.mark.What.TheVariants as whats
use Rattle.fsfs_tree.specs.Answers.{Found, Stands, Lacking, Blocked, found_at}
use Rattle.fsfs_draft.specs.Names.{IsFull, HasSpace}
use Rattle.fsfs_script.specs.declared.job_lines.edit.Edit.{Edit}
use Rattle.fsfs_script.specs.declared.job_lines.edit.Edit.TheVariants.{MakeDir, MakeFile, Delete, Copy, Put, Prop}
use Rattle.fsfs_script.specs.declared.job_lines.job.Step.{Step}
use Rattle.fsfs_cli.specs.declared.faults.fault.Fault.{Fault}
use Rattle.fsfs_cli.specs.declared.faults.fault.Fault.TheVariants.{Request, Limit}
use Rattle.fsfs_cli.specs.declared.faults.request_fault.RequestFault.TheVariants.{NotFound, NotDir, NotFile, NoRev, Exists, RootFixed, Mergeinfo}
use Rattle.fsfs_cli.specs.declared.faults.limit_fault.LimitFault.TheVariants.{TextTooLong, PropTooLong, TooManyEntries}

-- ---- the tree after an edit, over the trees of the revisions, and the marks that it adds

-- a file is made where nothing stands
abbrev pub with_file : TreeFunction → Path → TreeFunction
with_file t path = if is_some (t path) then t else with_node t path (Some (empty_node File))

abbrev pub edited : Edit → (ℕ → TreeFunction) → TreeFunction → TreeFunction
edited (MakeDir path) trees t = with_node t path (Some (empty_node Dir))
edited (MakeFile path) trees t = with_node t path (Some (empty_node File))
edited (Delete path) trees t = without t path
edited (Copy copy) trees t = with_copy t copy.rev (trees copy.rev) copy.from copy.to
edited (Put put) trees t = with_node (with_file t put.path) put.path (with_text put.text (with_file t put.path put.path))
edited (Prop set) trees t = with_node t set.path (with_prop set.name set.value (t set.path))

-- the mark of the file that is made, where nothing stands
abbrev pub file_marks : TreeFunction → Path → List Mark
file_marks t path = if is_some (t path) then [] else record { path = path; kind = File; what = whats.Make None } ∷ []

abbrev pub marks_of : Edit → (ℕ → TreeFunction) → TreeFunction → List Mark
marks_of (MakeDir path) trees t = record { path = path; kind = Dir; what = whats.Make None } ∷ []
marks_of (MakeFile path) trees t = record { path = path; kind = File; what = whats.Make None } ∷ []
marks_of (Delete path) trees t = record { path = path; kind = kind_of_node (t path); what = whats.Gone } ∷ []
marks_of (Copy copy) trees t = record { path = copy.to; kind = kind_of_node (trees copy.rev copy.from); what = whats.Make (Some (copy.rev, copy.from)) } ∷ []
marks_of (Put put) trees t = file_marks t put.path ++ record { path = put.path; kind = kind_of_node (with_file t put.path put.path); what = whats.Text } ∷ []
marks_of (Prop set) trees t = record { path = set.path; kind = kind_of_node (t set.path); what = whats.Prop } ∷ []

-- ---- why an edit is refused

-- the first of two rows, else the other
abbrev pub or_else : Option Fault → Option Fault → Option Fault
or_else None next = next
or_else (Some fault) next = Some fault

-- a path leads to nothing, or further names follow behind a file
abbrev pub unfound : Found → Option Fault
unfound (Stands node) = None
unfound (Lacking at) = Some (Request (NotFound at))
unfound (Blocked at) = Some (Request (NotDir at))

-- no directory stands at a path
abbrev pub no_dir : Path → Found → Option Fault
no_dir path (Stands node) = if is_dir node.kind then None else Some (Request (NotDir path))
no_dir path (Lacking at) = Some (Request (NotFound at))
no_dir path (Blocked at) = Some (Request (NotDir at))

abbrev pub taken : Path → Option Node → Option Fault
taken path None = None
taken path (Some node) = Some (Request (Exists path))

abbrev pub root_fixed : Path → Option Fault
root_fixed path = if is_root path then Some (Request RootFixed) else None

abbrev pub no_rev : ℕ → ℕ → Option Fault
no_rev rev last = if nat_le rev last then None else Some (Request (NoRev rev last))

-- mergeinfo is not kept
abbrev pub no_mergeinfo : List ℕ → Path → Option Fault
no_mergeinfo name path = if same_name name (codes "svn:mergeinfo") then Some (Request (Mergeinfo path)) else None

-- a new node at a path
abbrev pub make_fault : TreeFunction → Path → Option Fault
make_fault t path = or_else (no_dir (parent path) (found_at t (parent path))) (taken path (t path))

abbrev pub delete_fault : TreeFunction → Path → Option Fault
delete_fault t path = or_else (unfound (found_at t path)) (root_fixed path)

abbrev pub copy_fault : (ℕ → TreeFunction) → ℕ → TreeFunction → ℕ → Path → Path → Option Fault
copy_fault trees last t rev from to = or_else (make_fault t to) (or_else (no_rev rev last) (unfound (found_at (trees rev) from)))

-- a text at a path: where nothing stands, the file is made first
abbrev pub put_fault : TreeFunction → Path → Option Node → Option Fault
put_fault t path None = make_fault t path
put_fault t path (Some node) = if is_dir node.kind then Some (Request (NotFile path)) else None

abbrev pub prop_fault : TreeFunction → Path → List ℕ → Option Fault
prop_fault t path name = or_else (unfound (found_at t path)) (no_mergeinfo name path)

-- by the trees; `last` is the youngest revision
abbrev pub fault_of : Edit → (ℕ → TreeFunction) → ℕ → TreeFunction → Option Fault
fault_of (MakeDir path) trees last t = make_fault t path
fault_of (MakeFile path) trees last t = make_fault t path
fault_of (Delete path) trees last t = delete_fault t path
fault_of (Copy copy) trees last t = copy_fault trees last t copy.rev copy.from copy.to
fault_of (Put put) trees last t = put_fault t put.path (t put.path)
fault_of (Prop set) trees last t = prop_fault t set.path set.name

-- the directory that gets an entry more, if one does
abbrev pub grown_dir : Edit → TreeFunction → Option Path
grown_dir (MakeDir path) t = Some (parent path)
grown_dir (MakeFile path) t = Some (parent path)
grown_dir (Delete path) t = None
grown_dir (Copy copy) t = Some (parent copy.to)
grown_dir (Put put) t = if is_some (t put.path) then None else Some (parent put.path)
grown_dir (Prop set) t = None

abbrev pub HasSpaceFor : TreeFunction → Option Path → Type 0
HasSpaceFor t None = Unit {0}
HasSpaceFor t (Some dir) = HasSpace t dir

abbrev pub IsFullFor : TreeFunction → Option Path → Type 0
IsFullFor t None = ⊥
IsFullFor t (Some dir) = IsFull t dir

-- a text or a value is too long
abbrev pub too_long : Edit → Option Fault
too_long (MakeDir path) = None
too_long (MakeFile path) = None
too_long (Delete path) = None
too_long (Copy copy) = None
too_long (Put put) = if nat_le (length put.text) 1_073_741_824 then None else Some (Limit TextTooLong)
too_long (Prop set) = if fits_value set.value then None else Some (Limit PropTooLong)

-- the edit is done
pub record Allows (trees : ℕ → TreeFunction) (last : ℕ) (t : TreeFunction) (edit : Edit) : Type 0 where
  pub fits : fault_of edit trees last t ≡ None
  pub space : HasSpaceFor t (grown_dir edit t)
  pub short : too_long edit ≡ None

-- or refused by one of the rows, in this order: by the trees, for the number of entries, for the length of a text or a value
pub data Refuses (trees : ℕ → TreeFunction) (last : ℕ) (t : TreeFunction) (edit : Edit) : Fault → Type 0 where
  ByTrees : (fault : Fault) → fault_of edit trees last t ≡ Some fault → Refuses trees last t edit fault
  Full : fault_of edit trees last t ≡ None → IsFullFor t (grown_dir edit t) → Refuses trees last t edit (Limit TooManyEntries)
  Long : (fault : Fault) → fault_of edit trees last t ≡ None → HasSpaceFor t (grown_dir edit t) → too_long edit ≡ Some fault → Refuses trees last t edit fault

-- ---- the edits of a job one after another

-- all are done; the last two are the tree and the marks after them
abbrev pub TakesSteps : (ℕ → TreeFunction) → ℕ → TreeFunction → List Mark → List Step → TreeFunction → List Mark → Type 0
TakesSteps trees last t marks [] u now = (u ≡ t) × (now ≡ marks)
TakesSteps trees last t marks (step ∷ steps) u now = Allows trees last t step.edit × TakesSteps trees last (edited step.edit trees t) (marks ++ marks_of step.edit trees t) steps u now

-- the first that is refused stands on this line, and is refused for this; `Bars` says what may refuse an edit over a tree and marks
abbrev pub StopsAt : (TreeFunction → List Mark → Edit → Fault → Type 0) → (ℕ → TreeFunction) → ℕ → TreeFunction → List Mark → List Step → ℕ → Fault → Type 0
StopsAt Bars trees last t marks [] line fault = ⊥
StopsAt Bars trees last t marks (step ∷ steps) line fault =
    ((step.line ≡ line) × Bars t marks step.edit fault)
    ⊎ (Allows trees last t step.edit × StopsAt Bars trees last (edited step.edit trees t) (marks ++ marks_of step.edit trees t) steps line fault)
