-- What a commit is: its draft, its turns, its answers.
use Rattle.std.specs.Prelude.{◌≡◌, ◌⊎◌, ◌<◌, ◌≤◌, ℕ, List, length}
use Rattle.std.specs.FinMap.{get}
use Rattle.fsfs_base.specs.Paths.{Path}
use Rattle.fsfs_model.specs.Flat.Landing.{land, NoClash}
use Rattle.fsfs_tree.specs.Revisions.{tree_of}
use Rattle.fsfs_tree.specs.Dated.{IsDated}
use Rattle.fsfs_machine.specs.declared.machine.Recorded.{Recorded}
use Rattle.fsfs_machine.specs.declared.machine.Txn.{Txn}
use Rattle.fsfs_machine.specs.Machine.{revisions}
use Rattle.fsfs_machine.specs.Kept.{IsIn}
use Rattle.fsfs_turn.specs.Views.{View, Begins, IsTxnOver}

-- the transaction may be committed by this pass: it is one over what the pass has seen
pub record CanCommit (v : View) (x : Txn) (properties : List (List ℕ × List ℕ)) : Type 0 where
  pub over : IsTxnOver v.seen x
  pub based : x.base < length v.seen
  pub given : IsIn x.name v.given
  pub dated : IsDated properties

-- y is x, landed on a head without a clash; or x stands on that head already
pub record LandedOn (head : ℕ) (seen : List Recorded) (x y : Txn) : Type 0 where
  pub name : y.name ≡ x.name
  pub marks : y.marks ≡ x.marks
  pub base : y.base ≡ head
  pub later : x.base ≤ head
  pub there : head < length seen
  pub over : IsTxnOver seen y
  pub lands : (y ≡ x) ⊎ (NoClash x.base (tree_of (revisions seen) x.base) (tree_of (revisions seen) head) (get x.tree) x.marks
      × ((q : Path) → get y.tree q ≡ land (tree_of (revisions seen) x.base) (tree_of (revisions seen) head) (get x.tree) x.marks head q))

-- y is x after some landings, each without a clash, on first parts of this history
pub data Landings (h : List Recorded) : Txn → Txn → Type 0 where
  Unmoved : (x : Txn) → Landings h x x
  Moved : (x y z : Txn) (head : ℕ) (seen : List Recorded) → Landings h x y → Begins h seen → LandedOn head seen y z → Landings h x z
