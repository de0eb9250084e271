-- What is left of a walk through a tree, and why a walk ends: each entry weighs more than all that can stand in the directory
-- that it names.
use Rattle.std.specs.Prelude.{◌≡◌, ◌≤◌, ℕ, suc, ◌+◌, ◌-◌, ◌*◌, ◌^◌, min, List, [], ◌∷◌, ◌++◌, map, reverse, Result, Ok, Err}
use Rattle.std.specs.List.{AllByRecursion}
use Rattle.fsfs_revision.specs.Told.{RevisionBytes}
use Rattle.fsfs_revision.specs.declared.damage.RevOffset.{RevOffset}
use Rattle.fsfs_revision.specs.declared.wrong.ReadError.{ReadError}
use Rattle.fsfs_revision.specs.declared.wrong.ReadError.TheVariants as errors
use Rattle.fsfs_noderev.specs.declared.node_rev.NodeRev.{NodeRev}
use Rattle.fsfs_revision.specs.Shows.Reading.{DirEntry as EntryValue, EntriesOf, offset_of}
use Rattle.fsfs_dag.specs.Views.{entry_value}
use Rattle.fsfs_dag.specs.declared.tree_walk.Pending.{Pending}
use Rattle.fsfs_dag.specs.declared.tree_walk.TreeWalk.{TreeWalk}

-- an entry, and how many levels it stands below where the walk began
abbrev pub pending_value : Pending → ℕ × EntryValue
pending_value p = (p.level, entry_value p.entry)

-- what is left, in the order in which it is walked
abbrev pub Left : Type 0
Left = List (ℕ × EntryValue)

-- of a stack: the last is the first
abbrev pub in_order : List Pending → Left
in_order todo = map pending_value (reverse todo)

abbrev pub left : TreeWalk → Left
left walk = in_order walk.todo.items

abbrev pub at_level : ℕ → List EntryValue → Left
at_level level = map (λ entry. (level, entry))

-- all that is left stands in revisions up to this one
abbrev pub AreWithin : ℕ → Left → Type 0
AreWithin top = AllByRecursion (λ (p : ℕ × EntryValue). (offset_of p.1.id.place).rev ≤ top)

-- what stands in a directory was put before what was left; or what is wrong with it, and nothing was put
abbrev pub Enters : RevisionBytes → ℕ → NodeRev → Left → Left → Result (Unit {0}) ReadError → Type 0
Enters look level v old new (Ok x) = (entries : List EntryValue) × EntriesOf look v (Ok entries) × (new ≡ at_level (suc level) entries ++ old)
Enters look level v old new (Err (errors.Wrong w)) = EntriesOf look v (Err w) × (new ≡ old)
Enters look level v old new (Err errors.OutOfMemory) = Unit {0}
Enters look level v old new (Err errors.DiskFault) = Unit {0}

-- a place as one number
abbrev pub rank : RevOffset → ℕ
rank at = at.rev * 2 ^ 64 + min at.offset (2 ^ 64 - 1)

abbrev pub weight : RevOffset → ℕ
weight at = (2 ^ 65) ^ rank at

abbrev pub total : Left → ℕ
total [] = 0
total (p ∷ rest) = weight (offset_of p.1.id.place) + total rest
