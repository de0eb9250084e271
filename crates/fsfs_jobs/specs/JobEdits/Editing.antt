-- What an edit of a job does in a transaction.
use Rattle.std.specs.Prelude.{◌≡◌, ◌⊎◌, ◌≤◌, ◌++◌, ◌∷◌, [], ℕ, Bool, true, List, Option, Some, None, Result, Ok, Err}
use Rattle.fsfs_base.specs.Counts as counts
use Rattle.fsfs_base.specs.Paths.{Path}
use Rattle.fsfs_tree.specs.Nodes.{TreeFunction}
use Rattle.fsfs_tree.specs.Histories.{AreRevisions}
use Rattle.fsfs_base.specs.declared.kind.Kind.TheVariants.{File, Dir}
use Rattle.fsfs_model.specs.Flat.Edits.{parent, kind_of_node, with_node, with_text}
use Rattle.fsfs_model.specs.declared.flat.mark.What.TheVariants.{Text}
use Rattle.fsfs_draft.specs.Walks.{HasKind}
use Rattle.fsfs_model.specs.declared.flat.mark.Mark.{Mark}
use Rattle.fsfs_base.specs.Fields.RevNums.{last_rev}
use Rattle.fsfs_base.specs.declared.fields.txn_name.TxnName.{TxnName}
use Rattle.fsfs_revision.specs.Told.{Told, RevisionBytes, Knows}
use Rattle.fsfs_draft.specs.Drafts.{Folder, ShowTrees}
use Rattle.fsfs_txn.specs.Edits.Mergeinfo.{MeetsCounts, RevisionHas}
use Rattle.fsfs_txn.specs.Standing.{Stands}
use Rattle.fsfs_script.specs.declared.job_lines.edit.Edit.{Edit}
use Rattle.fsfs_script.specs.declared.job_lines.edit.Edit.TheVariants.{MakeDir, MakeFile, Delete, Copy, Put, Prop}
use Rattle.fsfs_script.specs.declared.job_lines.edit.PutText.{PutText}
use Rattle.fsfs_script.specs.declared.job_lines.edit.SetProp.{SetProp}
use Rattle.fsfs_script.specs.declared.job_lines.job.Step.{Step}
use Rattle.fsfs_cli.specs.declared.faults.fault.Fault.{Fault}
use Rattle.fsfs_cli.specs.declared.faults.fault.Fault.TheVariants.{Words, Request, Repository, Outside, Memory, Limit}
use Rattle.fsfs_cli.specs.declared.faults.request_fault.RequestFault.TheVariants.{NotFile, NoRev}
use Rattle.fsfs_cli.specs.declared.faults.outside_fault.OutsideFault.{OutsideFault}
use Rattle.fsfs_cli.specs.declared.faults.outside_fault.OutsideFault.TheVariants as outside
use Rattle.fsfs_jobs.specs.Edits.{Allows, Refuses, fault_of, edited, marks_of, with_file, file_marks, too_long, no_mergeinfo, TakesSteps, StopsAt}
use Rattle.fsfs_jobs.specs.JobEdits.Answers.{counts_mergeinfo}
use Rattle.fsfs_jobs.specs.declared.job_edits.edits.Stopped.{Stopped}

-- a fact of any history that the bytes show, all of which the book tells, and of any tree and marks that the transaction stands for
abbrev pub OverHistories : Told → Option ℕ → ℕ → TxnName → Folder → (RevisionBytes → (ℕ → TreeFunction) → ℕ → TreeFunction → List Mark → Type 0) → Type 0
OverHistories told youngest base txn before P = (look : RevisionBytes) (trees : ℕ → TreeFunction) (top : ℕ) (tree : TreeFunction) (marks : List Mark) → Knows told top look → youngest ≡ Some top → ShowTrees look top trees → AreRevisions trees top → base ≤ top
    → Stands look trees top base txn before tree marks → P look trees top tree marks

-- ---- counts of mergeinfo

-- a transaction that stands for this tree and these marks meets them on the way to a path
abbrev pub MeetsOnWay : RevisionBytes → (ℕ → TreeFunction) → ℕ → ℕ → TxnName → TreeFunction → List Mark → Path → Type 0
MeetsOnWay look trees top base txn tree marks path = (folder : Folder) × (stands : Stands look trees top base txn folder tree marks) × MeetsCounts look trees base stands.shows.0.shows.own path

-- where an edit would have to change them
abbrev pub MeetsMergeinfo : RevisionBytes → (ℕ → TreeFunction) → ℕ → ℕ → TxnName → TreeFunction → List Mark → Edit → Type 0
MeetsMergeinfo look trees top base txn tree marks (MakeDir path) = MeetsOnWay look trees top base txn tree marks (parent path)
MeetsMergeinfo look trees top base txn tree marks (MakeFile path) = MeetsOnWay look trees top base txn tree marks (parent path)
MeetsMergeinfo look trees top base txn tree marks (Delete path) = MeetsOnWay look trees top base txn tree marks (parent path)
MeetsMergeinfo look trees top base txn tree marks (Copy copy) = MeetsOnWay look trees top base txn tree marks (parent copy.to) ⊎ RevisionHas look copy.rev copy.from true
MeetsMergeinfo look trees top base txn tree marks (Put put) =
    MeetsOnWay look trees top base txn tree marks (parent put.path) ⊎ MeetsOnWay look trees top base txn (with_file tree put.path) (marks ++ file_marks tree put.path) put.path
MeetsMergeinfo look trees top base txn tree marks (Prop set) = MeetsOnWay look trees top base txn tree marks set.path

-- the path that is told of it
abbrev pub path_of : Edit → Path
path_of (MakeDir path) = path
path_of (MakeFile path) = path
path_of (Delete path) = path
path_of (Copy copy) = copy.to
path_of (Put put) = put.path
path_of (Prop set) = set.path

pub record IsCounted (look : RevisionBytes) (trees : ℕ → TreeFunction) (top base : ℕ) (txn : TxnName) (tree : TreeFunction) (marks : List Mark) (edit : Edit) (fault : Fault) : Type 0 where
  pub fits : fault_of edit trees top tree ≡ None
  pub meets : MeetsMergeinfo look trees top base txn tree marks edit
  pub fault_is : fault ≡ counts_mergeinfo (path_of edit)

-- ---- an edit

-- what refuses an edit over a tree and marks: the flat model, or counts of mergeinfo
abbrev pub Bars : RevisionBytes → (ℕ → TreeFunction) → ℕ → ℕ → TxnName → TreeFunction → List Mark → Edit → Fault → Type 0
Bars look trees top base txn tree marks edit fault = Refuses trees top tree edit fault ⊎ IsCounted look trees top base txn tree marks edit fault

-- a refusal has its cause in the trees. The outside may fail and memory run out anywhere; and no reading is wrong
abbrev pub IfRefused : Fault → Type 0 → Type 0
IfRefused (Request why) P = P
IfRefused (Limit why) P = P
IfRefused (Words why) P = ⊥
IfRefused (Repository why) P = ⊥
IfRefused (Outside why) P = Unit {0}
IfRefused Memory P = Unit {0}

abbrev pub IsEditing : Edit → TxnName → ℕ → Folder → Result (Unit {0}) Fault → RevisionBytes → (ℕ → TreeFunction) → ℕ → TreeFunction → List Mark → Type 0
IsEditing edit txn base after (Ok done) look trees top tree marks = Allows trees top tree edit × Stands look trees top base txn after (edited edit trees tree) (marks ++ marks_of edit trees tree)
IsEditing edit txn base after (Err fault) look trees top tree marks = IfRefused fault (Bars look trees top base txn tree marks edit fault)

-- ---- parts of edits

-- there is no such revision; this is the youngest
abbrev pub IsNoRev : ℕ → ℕ → Fault → Type 0
IsNoRev asked top fault = IfRefused fault ((fault ≡ Request (NoRev asked top)) × (top ≤ last_rev))

-- the mark of a text
abbrev pub text_mark : TreeFunction → Path → Mark
text_mark tree path = record { path = path; kind = kind_of_node (tree path); what = Text }

-- a text was put at a file
pub record IsTextPut (look : RevisionBytes) (trees : ℕ → TreeFunction) (top base : ℕ) (txn : TxnName) (tree : TreeFunction) (marks : List Mark) (put : PutText) (after : Folder) : Type 0 where
  pub file : HasKind (tree put.path) File
  pub short : too_long (Put put) ≡ None
  pub stands : Stands look trees top base txn after (with_node tree put.path (with_text put.text (tree put.path))) (marks ++ text_mark tree put.path ∷ [])

-- or refused at what was opened there
pub data RefusesText (tree : TreeFunction) (counted : Bool) (put : PutText) : Fault → Type 0 where
  OfDir : HasKind (tree put.path) Dir → RefusesText tree counted put (Request (NotFile put.path))
  OfCounts : HasKind (tree put.path) File → counted ≡ true → RefusesText tree counted put (counts_mergeinfo put.path)
  OfLength : (fault : Fault) → HasKind (tree put.path) File → too_long (Put put) ≡ Some fault → RefusesText tree counted put fault

abbrev pub IsTextAt : RevisionBytes → (ℕ → TreeFunction) → ℕ → ℕ → TxnName → TreeFunction → List Mark → Bool → PutText → Folder → Result (Unit {0}) Fault → Type 0
IsTextAt look trees top base txn tree marks counted put after (Ok done) = IsTextPut look trees top base txn tree marks put after
IsTextAt look trees top base txn tree marks counted put after (Err fault) = IfRefused fault (RefusesText tree counted put fault)

-- where counts of mergeinfo were met on the way, so that a transaction meets them that stands for this tree and these marks
abbrev pub RefusesTextOn : RevisionBytes → (ℕ → TreeFunction) → ℕ → ℕ → TxnName → TreeFunction → List Mark → PutText → Fault → Type 0
RefusesTextOn look trees top base txn tree marks put fault = (counted : Bool) × RefusesText tree counted put fault × (counted ≡ true → MeetsOnWay look trees top base txn tree marks put.path)

abbrev pub IsTextOn : PutText → TxnName → ℕ → Folder → Result (Unit {0}) Fault → RevisionBytes → (ℕ → TreeFunction) → ℕ → TreeFunction → List Mark → Type 0
IsTextOn put txn base after (Ok done) look trees top tree marks = IsTextPut look trees top base txn tree marks put after
IsTextOn put txn base after (Err fault) look trees top tree marks = IfRefused fault (RefusesTextOn look trees top base txn tree marks put fault)

-- of a file that was just made
abbrev pub IsTextInNew : PutText → TxnName → ℕ → Folder → Result (Unit {0}) Fault → RevisionBytes → (ℕ → TreeFunction) → ℕ → TreeFunction → List Mark → Type 0
IsTextInNew put txn base after result look trees top tree marks = HasKind (tree put.path) File → IsTextOn put txn base after result look trees top tree marks

-- a property was set or taken away at what was opened
pub record IsPropSet (look : RevisionBytes) (trees : ℕ → TreeFunction) (top base : ℕ) (txn : TxnName) (tree : TreeFunction) (marks : List Mark) (set : SetProp) (after : Folder) : Type 0 where
  pub named : no_mergeinfo set.name set.path ≡ None
  pub short : too_long (Prop set) ≡ None
  pub stands : Stands look trees top base txn after (edited (Prop set) trees tree) (marks ++ marks_of (Prop set) trees tree)

-- or refused
pub data RefusesProp (counted : Bool) (set : SetProp) : Fault → Type 0 where
  OfName : (fault : Fault) → no_mergeinfo set.name set.path ≡ Some fault → RefusesProp counted set fault
  OfCount : no_mergeinfo set.name set.path ≡ None → counted ≡ true → RefusesProp counted set (counts_mergeinfo set.path)
  OfValue : (fault : Fault) → no_mergeinfo set.name set.path ≡ None → too_long (Prop set) ≡ Some fault → RefusesProp counted set fault

abbrev pub IsSetAt : RevisionBytes → (ℕ → TreeFunction) → ℕ → ℕ → TxnName → TreeFunction → List Mark → Bool → SetProp → Folder → Result (Unit {0}) Fault → Type 0
IsSetAt look trees top base txn tree marks counted set after (Ok done) = IsPropSet look trees top base txn tree marks set after
IsSetAt look trees top base txn tree marks counted set after (Err fault) = IfRefused fault (RefusesProp counted set fault)

-- ---- edits one after another

-- after all of them the transaction stands for the tree and the marks that they come to
pub record IsEditedWhole (steps : List Step) (txn : TxnName) (base : ℕ) (after : Folder) (look : RevisionBytes) (trees : ℕ → TreeFunction) (top : ℕ) (tree : TreeFunction) (marks : List Mark) : Type 0 where
  pub now : TreeFunction
  pub added : List Mark
  pub takes : TakesSteps trees top tree marks steps now added
  pub stands : Stands look trees top base txn after now added

abbrev pub AreEditing : List Step → TxnName → ℕ → Folder → Result (Unit {0}) Stopped → RevisionBytes → (ℕ → TreeFunction) → ℕ → TreeFunction → List Mark → Type 0
AreEditing steps txn base after (Ok done) look trees top tree marks = IsEditedWhole steps txn base after look trees top tree marks
AreEditing steps txn base after (Err stopped) look trees top tree marks = IfRefused stopped.fault (StopsAt (Bars look trees top base txn) trees top tree marks steps stopped.line stopped.fault)

-- ---- counts of faults

-- of the outside only the disk and the bench fail
abbrev pub IfDiskIn : OutsideFault → Type 0 → Type 0
IfDiskIn outside.Mount P = ⊥
IfDiskIn (outside.Disk place) P = P
IfDiskIn outside.Read P = ⊥
IfDiskIn outside.Write P = ⊥
IfDiskIn outside.Bench P = Unit {0}
IfDiskIn (outside.Stuck place) P = ⊥

abbrev pub IfBenchIn : OutsideFault → Type 0 → Type 0
IfBenchIn outside.Mount P = Unit {0}
IfBenchIn (outside.Disk place) P = Unit {0}
IfBenchIn outside.Read P = Unit {0}
IfBenchIn outside.Write P = Unit {0}
IfBenchIn outside.Bench P = P
IfBenchIn (outside.Stuck place) P = Unit {0}

-- a fact, where the disk failed, and that nothing else of the outside did but the bench
abbrev pub IfDisk : Fault → Type 0 → Type 0
IfDisk (Request why) P = Unit {0}
IfDisk (Limit why) P = Unit {0}
IfDisk (Words why) P = Unit {0}
IfDisk (Repository why) P = Unit {0}
IfDisk (Outside why) P = IfDiskIn why P
IfDisk Memory P = Unit {0}

-- where the bench failed
abbrev pub IfBench : Fault → Type 0 → Type 0
IfBench (Request why) P = Unit {0}
IfBench (Limit why) P = Unit {0}
IfBench (Words why) P = Unit {0}
IfBench (Repository why) P = Unit {0}
IfBench (Outside why) P = IfBenchIn why P
IfBench Memory P = Unit {0}

-- a count never falls, and rose where what it counts failed
abbrev pub HasDiskCause : ℕ → ℕ → Result (Unit {0}) Fault → Type 0
HasDiskCause before now result = counts.HasCause IfDisk before now result

abbrev pub HasBenchCause : ℕ → ℕ → Result (Unit {0}) Fault → Type 0
HasBenchCause before now result = counts.HasCause IfBench before now result

abbrev pub IfStopped : (Fault → Type 0 → Type 0) → Stopped → Type 0 → Type 0
IfStopped If stopped P = If stopped.fault P
