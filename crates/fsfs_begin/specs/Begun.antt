-- A transaction that was begun, and what it stands for.
use Rattle.std.specs.Prelude.{◌≡◌, ◌<◌, ◌≤◌, ℕ, List, [], ◌∷◌, length, false, Option, None, Ok, option_map}
use Rattle.fsfs_base.specs.Files.{Files}
use Rattle.fsfs_base.specs.declared.fields.txn_name.TxnName.{TxnName}
use Rattle.fsfs_noderev.specs.declared.node_rev.NodeRev.{NodeRev}
use Rattle.fsfs_begin.specs.Beginning.{BeginsOn, IsRootText}
use Rattle.fsfs_begin.specs.Benches.{first_files}
use Rattle.fsfs_machine.specs.Kept.{AllBelow}
use Rattle.fsfs_turn.specs.Alone.{BringsNoDoubt}
use Rattle.fsfs_turn.specs.Bytes.{bytes_of}
use Rattle.fsfs_turn.specs.Views.{View, Begins}
use Rattle.fsfs_begin.specs.Steps.{Steps}
use Rattle.fsfs_tree.specs.Nodes.{TreeFunction}
use Rattle.fsfs_revision.specs.Told.{RevisionBytes}
use Rattle.fsfs_revision.specs.Shows.IdRules.{IdRule}
use Rattle.fsfs_revision.specs.Shows.Reading.{RootOf}
use Rattle.fsfs_draft.specs.Drafts.{ShowTrees}
use Rattle.fsfs_draft.specs.Whole.{IsDraftOf}
use Rattle.fsfs_txn_nodes.specs.Memory.Views.{begun_folder}

-- the root goes on from that of the base, as the bytes of the revisions have it
abbrev pub IsBegunOn : RevisionBytes → TxnName → NodeRev → Type 0
IsBegunOn look name root = (x : NodeRev) × RootOf look name.base (Ok x) × BeginsOn name x root

-- where the bytes of the revisions show trees, a folder with this root alone is a draft of the base's tree, without marks
abbrev pub StandsForBase : RevisionBytes → TxnName → NodeRev → Option Files → Type 0
StandsForBase look name root held = (top : ℕ) (trees : ℕ → TreeFunction) (proto : List ℕ) → ShowTrees look top trees → IdRule look top → name.base ≤ top
    → IsDraftOf look trees top name.base name (begun_folder root held proto) (trees name.base) []

-- the bench holds the files that a transaction begins with, among them the text of this root; where anything is told
abbrev pub HoldsRoot : {A : Type 0} → NodeRev → Option A → Option Files → Type 0
HoldsRoot root told held = (text : List ℕ) × IsRootText root text × (held ≡ option_map (λ _. first_files root.id text) told)

-- the pass saw the history as it is then, the youngest revision that it was told of with it, and nothing else is changed for it
pub record IsMade (v u : View) : Type 0 where
  pub is : u ≡ record v { pass = record v.pass { seen = length u.seen }; seen = u.seen }
  pub all : v.pass.least < length u.seen
  pub grows : Begins u.seen v.seen
  pub steps : Steps v u

-- the same, where it was told the youngest revision first, and read: so it may have been told a younger one, and faults of reads may have come
pub record IsMadeAmong (v u : View) : Type 0 where
  pub is : u ≡ record v { pass = record v.pass { seen = length u.seen; least = u.pass.least; faults = u.pass.faults; floor = u.pass.floor }; seen = u.seen; sure = false; firm = u.firm }
  pub least : v.pass.least ≤ u.pass.least
  pub all : u.pass.least < length u.seen
  pub doubtless : BringsNoDoubt v u
  pub grows : Begins u.seen v.seen
  pub steps : Steps v u

-- BEGUN: the name is known to be given, its base is a revision that the pass has seen, and the root goes on from that revision's. The
-- pass is in no section.
pub record HasBegun (name : TxnName) (node : NodeRev) (held : Option Files) (v u : View) : Type 0 where
  pub is : u ≡ record v { pass = record v.pass { seen = length u.seen; least = u.pass.least }; seen = u.seen; section = None; sure = false; firm = u.firm; given = name.number.number ∷ v.given }
  -- it was told a revision as young as before or younger, and has seen that
  pub least : v.pass.least ≤ u.pass.least
  pub all : u.pass.least < length u.seen
  pub base : name.base < length u.seen
  -- each name that the pass knew to be given is below this one
  pub above : AllBelow name.number.number v.given
  pub root : IsBegunOn (bytes_of u.seen) name node
  -- where these bytes show trees, it is a draft of its base's, without marks
  pub draft : StandsForBase (bytes_of u.seen) name node held
  pub grows : Begins u.seen v.seen
  pub steps : Steps v u

-- The same of a pass beside others: it may have read more of the history, and faults of reads may have come, none of which leaves a revision
-- in doubt.
pub record HasBegunAmong (name : TxnName) (node : NodeRev) (held : Option Files) (v u : View) : Type 0 where
  pub is : u ≡ record v { pass = record v.pass { seen = length u.seen; least = u.pass.least; faults = u.pass.faults; floor = u.pass.floor }; seen = u.seen; section = None; sure = false; firm = u.firm; given = name.number.number ∷ v.given }
  pub least : v.pass.least ≤ u.pass.least
  pub all : u.pass.least < length u.seen
  pub base : name.base < length u.seen
  pub above : AllBelow name.number.number v.given
  pub root : IsBegunOn (bytes_of u.seen) name node
  pub draft : StandsForBase (bytes_of u.seen) name node held
  pub doubtless : BringsNoDoubt v u
  pub grows : Begins u.seen v.seen
  pub steps : Steps v u
