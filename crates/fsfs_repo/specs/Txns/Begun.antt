-- A transaction that a pass has begun.
use Rattle.std.specs.Prelude.{◌≡◌, ◌<◌, ◌≤◌, ℕ, List, [], ◌∷◌, length, None, false}
use Rattle.fsfs_base.specs.declared.fields.txn_name.TxnName.{TxnName}
use Rattle.fsfs_tree.specs.Dated.{last_of}
use Rattle.fsfs_tree.specs.Revisions.{tree_of}
use Rattle.fsfs_draft.specs.Drafts.{Folder}
use Rattle.fsfs_machine.specs.declared.machine.Recorded.{Recorded}
use Rattle.fsfs_machine.specs.Machine.{revisions}
use Rattle.fsfs_machine.specs.Kept.{AllBelow}
use Rattle.fsfs_turn.specs.Alone.{BringsNoDoubt}
use Rattle.fsfs_turn.specs.Bytes.{bytes_of}
use Rattle.fsfs_turn.specs.Views.{View, Begins}
use Rattle.fsfs_begin.specs.Steps.{Steps}
use Rattle.fsfs_txn.specs.Standing.{Stands}

-- BEGUN: the name is known to be given. The transaction stands for the tree of its base, a revision that the pass has seen, without marks;
-- and the pass is in no section.
pub record BeginsTxn (name : TxnName) (base : ℕ) (settled : Folder) (v u : View) : Type 0 where
  pub is : u ≡ record v { pass = record v.pass { seen = length u.seen; least = u.pass.least }; seen = u.seen; section = None; sure = false; firm = u.firm; given = name.number.number ∷ v.given }
  -- it was told a revision as young as before or younger, and has seen that
  pub least : v.pass.least ≤ u.pass.least
  pub all : u.pass.least < length u.seen
  pub based : base < length u.seen
  -- each name that the pass knew to be given is below this one
  pub above : AllBelow name.number.number v.given
  pub stands : Stands (bytes_of u.seen) (tree_of (revisions u.seen)) (last_of (revisions u.seen)) base name settled (tree_of (revisions u.seen) base) []
  pub grows : Begins u.seen v.seen
  pub steps : Steps v u

-- The same of a pass beside others: it may have read more of the history, and faults of reads may have come, none of which leaves a revision
-- in doubt.
pub record BeginsTxnAmong (name : TxnName) (base : ℕ) (settled : Folder) (v u : View) : Type 0 where
  pub is : u ≡ record v { pass = record v.pass { seen = length u.seen; least = u.pass.least; faults = u.pass.faults; floor = u.pass.floor }; seen = u.seen; section = None; sure = false; firm = u.firm; given = name.number.number ∷ v.given }
  pub least : v.pass.least ≤ u.pass.least
  pub all : u.pass.least < length u.seen
  pub based : base < length u.seen
  pub above : AllBelow name.number.number v.given
  -- over each first part of what it has seen that has the base
  pub stands : (part : List Recorded) → Begins u.seen part → base < length part → Stands (bytes_of part) (tree_of (revisions part)) (last_of (revisions part)) base name settled (tree_of (revisions part) base) []
  pub doubtless : BringsNoDoubt v u
  pub grows : Begins u.seen v.seen
  pub steps : Steps v u
