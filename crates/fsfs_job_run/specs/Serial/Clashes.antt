-- What clashes behind landings, clashed before them.
use Rattle.std.specs.Prelude.{◌<◌, ◌≤◌, ℕ, List, length}
use Rattle.std.specs.FinMap.{get}
use Rattle.fsfs_base.specs.Paths.{Path}
use Rattle.fsfs_tree.specs.Histories.{IsHistory}
use Rattle.fsfs_tree.specs.Revisions.{tree_of}
use Rattle.fsfs_model.specs.Flat.Landing.{IsFirstClash}
use Rattle.fsfs_machine.specs.declared.machine.Recorded.{Recorded}
use Rattle.fsfs_machine.specs.declared.machine.Txn.{Txn}
use Rattle.fsfs_machine.specs.Machine.{revisions}
use Rattle.fsfs_turn.specs.Views.{IsTxnOver}
use Rattle.fsfs_repo.specs.Works.{Landings}

-- the path is the first at which the transaction clashes with this revision of the history
abbrev pub ClashesFirst : List Recorded → Txn → ℕ → Path → Type 0
ClashesFirst h x head path = IsFirstClash x.base (tree_of (revisions h) x.base) (tree_of (revisions h) head) (get x.tree) x.marks path

-- where a transaction clashes that was landed on the way, the one that was handed in clashes, first at the same path
abbrev pub LandedClashesAreClashes : Type 0
LandedClashesAreClashes = (h : List Recorded) (x y : Txn) (head : ℕ) (path : Path) → IsHistory (revisions h) → IsTxnOver h x → Landings h x y → y.base ≤ head → head < length h → ClashesFirst h y head path → ClashesFirst h x head path
