-- The entries of directories, by their names.
use Rattle.std.specs.Prelude.{◌≡◌, ◌+◌, ◌-◌, ◌^◌, min, true, List, map, Option, Some, option_map}
use Rattle.std.specs.BTreeMap.{get_by_text}
use Rattle.std.specs.String.{string_bytes}
use Rattle.std.specs.declared.string.String.{String}
use Rattle.std.specs.declared.alloc.Global.{Global}
use Rattle.fsfs_base.specs.Paths.{PathName}
use Rattle.fsfs_revision.specs.declared.damage.RevOffset.{RevOffset}
use Rattle.fsfs_revision.specs.Nodes.{place_before}
use Rattle.fsfs_revision.specs.Shows.Reading.{DirEntry, named}
use Rattle.fsfs_noderev.specs.declared.node_id.NodeId.{NodeId}
use Rattle.fsfs_noderev.specs.declared.node_rev.NodeRev.{NodeRev}
use Rattle.fsfs_merge.specs.declared.clash.merged.Link.{Link}
use Rattle.fsfs_merge.specs.declared.clash.three.Target.{Target}
use Rattle.fsfs_merge.specs.declared.clash.three.Three.{Three}
use Rattle.fsfs_merge.specs.declared.clash.entries.Entries.{Entries}
use Rattle.fsfs_merge.specs.declared.clash.entries.Sides.{Sides}
use Rattle.fsfs_merge.specs.Clash.Threes.{entry_target}

-- the directory of an id goes on from the head's
abbrev pub link_of : NodeRev → NodeId → Link
link_of y own = record { own = own; head = y.id; count = min (y.count + 1) (2 ^ 64 - 1) }

-- the entries of the base's directory, of the head's and of the transaction's; and what the merged one goes on from
pub record Lists : Type 0 where
  pub link : Link
  pub base : List DirEntry
  pub head : List DirEntry
  pub own : List DirEntry

-- what an entry of a name leads to
abbrev pub target_named : List DirEntry → PathName → Option Target
target_named entries name = option_map entry_target (named name entries)

abbrev pub three_named : Lists → PathName → Three
three_named l name = record { base = target_named l.base name; head = target_named l.head name; own = target_named l.own name }

-- ---- as they stand in maps

abbrev pub target_in : Entries → PathName → Option Target
target_in e name = get_by_text e.targets name

abbrev pub names_in : Entries → List PathName
names_in e = map (λ (p : String Global × Target). string_bytes p.0) e.targets.entries

abbrev pub three_in : Sides → PathName → Three
three_in s name = record { base = target_in s.base name; head = target_in s.head name; own = target_in s.own name }

-- they are those of this list
abbrev pub AreListed : List DirEntry → Entries → Type 0
AreListed entries e = (name : PathName) → target_in e name ≡ target_named entries name

pub record AreAllListed (l : Lists) (s : Sides) : Type 0 where
  pub base : AreListed l.base s.base
  pub head : AreListed l.head s.head
  pub own : AreListed l.own s.own

-- what they name stands before this place
abbrev pub AreTargetsBefore : RevOffset → Entries → Type 0
AreTargetsBefore home e = (name : PathName) (t : Target) → target_in e name ≡ Some t → place_before home t.id.place ≡ true
