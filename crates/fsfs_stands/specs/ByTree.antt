-- What looks print where the bytes show a flat tree: they print by the tree.
use Rattle.std.specs.Prelude.{◌≡◌, ℕ, Bool, List, [], take}
use Rattle.std.specs.FinMap.{FinMap, get}
use Rattle.fsfs_base.specs.declared.kind.Kind.{Kind}
use Rattle.fsfs_base.specs.declared.kind.Kind.TheVariants.{File, Dir}
use Rattle.fsfs_base.specs.Paths.{Path, path_cmp}
use Rattle.fsfs_tree.specs.Nodes.{Node, Content, Bytes, Closed, TreeFunction}
use Rattle.fsfs_revision.specs.Told.{RevisionBytes}
use Rattle.fsfs_tree.specs.Answers.{Found, Stands, Lacking, Blocked, found_at, tree_text}
use Rattle.fsfs_noderev.specs.declared.node_rev.NodeRev.{NodeRev}
use Rattle.fsfs_revision.specs.Damage.Damages.{place_of}
use Rattle.fsfs_revision.specs.declared.wrong.Wrong.TheVariants as wrongs
use Rattle.fsfs_revision.specs.Shows.Reading.{StandsAt}
use Rattle.fsfs_revision.specs.Shows.Shown.{Shows}
use Rattle.fsfs_stands.specs.declared.look_fault.LookFault.{LookFault}
use Rattle.fsfs_stands.specs.declared.look_fault.LookFault.TheVariants as faults
use Rattle.fsfs_stands.specs.Texts.{End, Whole, Refused, Stopped}
use Rattle.fsfs_stands.specs.TreeTexts.{IsShownId, TreeText}
use Rattle.fsfs_stands.specs.FileTexts.{FileText}
use Rattle.fsfs_stands.specs.Agreeing.{IsFront}

-- this whole text, or where a failure stopped it a first part of it; never a refusal
abbrev pub IsOf : List ℕ → List ℕ → End → Type 0
IsOf whole text Whole = text ≡ whole
IsOf whole text (Refused fault) = ⊥
IsOf whole text Stopped = IsFront text whole

-- nothing, for this cause, or since a failure stopped it before
abbrev pub IsRefusedFor : (LookFault → Type 0) → List ℕ → End → Type 0
IsRefusedFor Cause text Whole = ⊥
IsRefusedFor Cause text (Refused fault) = (text ≡ []) × Cause fault
IsRefusedFor Cause text Stopped = text ≡ []

-- so many first names of the path are those of `at`, at which nothing stands
abbrev pub IsNotFoundAt : Path → Path → LookFault → Type 0
IsNotFoundAt path at (faults.NotFound names) = at ≡ take names path
IsNotFoundAt path at (faults.NotDir names) = ⊥
IsNotFoundAt path at faults.NotFile = ⊥
IsNotFoundAt path at (faults.Wrong w) = ⊥

-- or a file that further names follow
abbrev pub IsNotDirAt : Path → Path → LookFault → Type 0
IsNotDirAt path at (faults.NotFound names) = ⊥
IsNotDirAt path at (faults.NotDir names) = at ≡ take names path
IsNotDirAt path at faults.NotFile = ⊥
IsNotDirAt path at (faults.Wrong w) = ⊥

-- ---- a tree

-- the ids that are shown are those of the node-revisions at the paths
abbrev pub AreShownIds : RevisionBytes → ℕ → Bool → (Path → List ℕ) → Type 0
AreShownIds look rev ids shown = (p : Path) (v : NodeRev) → StandsAt look rev p v → IsShownId ids v.id (shown p)

abbrev pub IsTreeOf : (Path → List ℕ) → Path → FinMap path_cmp Node → Found → List ℕ → End → Type 0
IsTreeOf shown path tree (Stands node) = IsOf (tree_text shown path tree)
IsTreeOf shown path tree (Lacking at) = IsRefusedFor (IsNotFoundAt path at)
IsTreeOf shown path tree (Blocked at) = IsRefusedFor (IsNotDirAt path at)

abbrev pub TreesAreByTree : Type 0
TreesAreByTree = (look : RevisionBytes) (rev : ℕ) (tree : FinMap path_cmp Node) (path : Path) (ids : Bool) (shown : Path → List ℕ) → Shows look rev (get tree) → AreShownIds look rev ids shown
    → (text : List ℕ) (end : End) → TreeText look rev path ids text end → IsTreeOf shown path tree (found_at (get tree) path) text end

-- ---- the text of a file

abbrev pub IsContent : Kind → Content → List ℕ → End → Type 0
IsContent Dir content = IsRefusedFor (λ fault. fault ≡ faults.NotFile)
IsContent File (Bytes bytes) = IsOf bytes
IsContent File (Closed rev offset) = IsRefusedFor (λ fault. fault ≡ faults.Wrong (wrongs.Delta (place_of rev offset)))

abbrev pub IsFileOf : Path → Found → List ℕ → End → Type 0
IsFileOf path (Stands node) = IsContent node.kind node.text
IsFileOf path (Lacking at) = IsRefusedFor (IsNotFoundAt path at)
IsFileOf path (Blocked at) = IsRefusedFor (IsNotDirAt path at)

abbrev pub FilesAreByTree : Type 0
FilesAreByTree = (look : RevisionBytes) (rev : ℕ) (tree : TreeFunction) (path : Path) → Shows look rev tree
    → (text : List ℕ) (end : End) → FileText look rev path text end → IsFileOf path (found_at tree path) text end
