-- What a walk down the transaction's tree sees, and what it meets on the way.
use Rattle.std.specs.Prelude.{◌≡◌, ◌≤◌, ◌||◌, ◌++◌, ℕ, Bool, List, [], ◌∷◌, is_some, Result, Ok, Err}
use Rattle.fsfs_base.specs.Paths.{PathName, Path}
use Rattle.fsfs_base.specs.declared.kind.Kind.TheVariants.{Dir}
use Rattle.fsfs_tree.specs.Nodes.{TreeFunction}
use Rattle.fsfs_tree.specs.Trees.{IsTree}
use Rattle.fsfs_model.specs.Flat.Edits.{parent}
use Rattle.fsfs_model.specs.declared.flat.mark.Mark.{Mark}
use Rattle.fsfs_base.specs.declared.fields.txn_name.TxnName.{TxnName}
use Rattle.fsfs_revision.specs.Told.{Told, RevisionBytes, Knows}
use Rattle.fsfs_revision.specs.Shows.ByTree.{LacksAt, IsBlockedAt}
use Rattle.fsfs_draft.specs.Own.{Own}
use Rattle.fsfs_draft.specs.Drafts.{Folder, ShowTrees}
use Rattle.fsfs_draft.specs.Edits.{IsDraftAfter}
use Rattle.fsfs_draft.specs.Errors.{IsFailure}
use Rattle.fsfs_draft.specs.Walks.{IsAt, HasKind}
use Rattle.fsfs_draft.specs.declared.error.EditError.{EditError}
use Rattle.fsfs_draft.specs.declared.walk.Step.{Step}
use Rattle.fsfs_draft.specs.declared.walk.Step.TheVariants as steps
use Rattle.fsfs_edit.specs.Ways.{IsNoDirectory}
use Rattle.fsfs_txn.specs.declared.seeing.Seen.{Seen}
use Rattle.fsfs_txn.specs.declared.seeing.Seen.TheVariants as seens
use Rattle.fsfs_txn.specs.declared.edits.above.Above.{Above}
use Rattle.fsfs_txn.specs.declared.edits.above.Above.TheVariants as aboves
use Rattle.fsfs_txn.specs.Edits.Mergeinfo.{has_counts, RevisionHas, MeetsCounts, LacksCounts, Counts}

-- counts were met before, or are met at a step that is not the transaction's own
abbrev pub counts_with : Bool → Step → Bool
counts_with before (steps.Own id) = before
counts_with before (steps.Lasting found) = before || has_counts found.node

abbrev pub IsBaseCounts : RevisionBytes → ℕ → Result Bool EditError → Type 0
IsBaseCounts look base (Ok counted) = RevisionHas look base [] counted
IsBaseCounts look base (Err e) = IsFailure e

-- ---- what stands at a path

abbrev pub IsSeen : RevisionBytes → (ℕ → TreeFunction) → ℕ → Own → TreeFunction → Path → Result Seen EditError → Type 0
IsSeen look trees base own tree p (Ok (seens.Node child counted)) = IsAt look trees base own p child.step × HasKind (tree p) child.kind × Counts look trees base own p counted
IsSeen look trees base own tree p (Ok (seens.Absent depth)) = LacksAt tree p depth
IsSeen look trees base own tree p (Ok (seens.File depth)) = IsBlockedAt tree p depth
IsSeen look trees base own tree p (Err e) = IsFailure e

-- over any draft it is so in its tree
abbrev pub Sees : Told → TxnName → Folder → Path → Result Seen EditError → Type 0
Sees told txn f p result = (look : RevisionBytes) (trees : ℕ → TreeFunction) (top base : ℕ) (tree : TreeFunction) (marks : List Mark) → Knows told top look → ShowTrees look top trees → base ≤ top → IsTree tree
    → (d : IsDraftAfter look trees top base txn f tree marks) → IsSeen look trees base d.0.shows.own tree p result

-- ---- what stands above a name

-- something stands under the name, or nothing does
abbrev pub IsTaken : TreeFunction → Path → Result Bool EditError → Type 0
IsTaken tree path (Ok taken) = is_some (tree path) ≡ taken
IsTaken tree path (Err e) = IsFailure e

-- under a name of a directory of any draft that a walk came to
abbrev pub TakesAt : Told → TxnName → Folder → Step → PathName → Result Bool EditError → Type 0
TakesAt told txn f step name result = (look : RevisionBytes) (trees : ℕ → TreeFunction) (top base : ℕ) (tree : TreeFunction) (marks : List Mark) (path : Path) → Knows told top look → ShowTrees look top trees → base ≤ top
    → (d : IsDraftAfter look trees top base txn f tree marks) → IsAt look trees base d.0.shows.own path step → HasKind (tree path) Dir → IsTaken tree (path ++ name ∷ []) result

abbrev pub IsAbove : RevisionBytes → (ℕ → TreeFunction) → ℕ → Own → TreeFunction → Path → Result Above EditError → Type 0
IsAbove look trees base own tree path (Ok (aboves.NotFound depth)) = LacksAt tree (parent path) depth
IsAbove look trees base own tree path (Ok (aboves.NotDir depth)) = IsNoDirectory tree (parent path) depth
IsAbove look trees base own tree path (Ok (aboves.Counted taken)) = HasKind (tree (parent path)) Dir × (is_some (tree path) ≡ taken) × MeetsCounts look trees base own (parent path)
IsAbove look trees base own tree path (Ok (aboves.Dir above step)) = (above ≡ parent path) × HasKind (tree (parent path)) Dir × IsAt look trees base own (parent path) step × LacksCounts look trees base own (parent path)
IsAbove look trees base own tree path (Err e) = IsFailure e

-- over any draft, where this was seen at the directory's path
abbrev pub AboveFrom : Told → TxnName → Folder → Path → PathName → Seen → Result Above EditError → Type 0
AboveFrom told txn f dir name seen result = (look : RevisionBytes) (trees : ℕ → TreeFunction) (top base : ℕ) (tree : TreeFunction) (marks : List Mark) (path : Path) → Knows told top look → ShowTrees look top trees → base ≤ top
    → (d : IsDraftAfter look trees top base txn f tree marks) → dir ≡ parent path → path ≡ parent path ++ name ∷ [] → IsSeen look trees base d.0.shows.own tree dir (Ok seen) → IsAbove look trees base d.0.shows.own tree path result

-- over any draft it is so in its tree
abbrev pub SeesAbove : Told → TxnName → Folder → Path → Result Above EditError → Type 0
SeesAbove told txn f path result = (look : RevisionBytes) (trees : ℕ → TreeFunction) (top base : ℕ) (tree : TreeFunction) (marks : List Mark) → Knows told top look → ShowTrees look top trees → base ≤ top → IsTree tree
    → (d : IsDraftAfter look trees top base txn f tree marks) → IsAbove look trees base d.0.shows.own tree path result
