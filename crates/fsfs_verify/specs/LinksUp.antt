-- Where the node-revisions of a revision are named, and the paths that lead up from one.
use Rattle.std.specs.Prelude.{◌≡◌, ◌++◌, ℕ, Bool, true, false, [], ◌∷◌, Option, Some, None, option_map, if◌then◌else◌}
use Rattle.std.specs.String.{string_bytes}
use Rattle.std.specs.Map.{lookup}
use Rattle.std.specs.BTreeMap.{is_at}
use Rattle.std.specs.Ordering.{nat_cmp}
use Rattle.fsfs_base.specs.Paths.{PathName, Path, same_name}
use Rattle.fsfs_verify.specs.declared.links.Link.{Link}
use Rattle.fsfs_verify.specs.declared.links.Links.{Links}

-- a directory's place and a name, by which a node-revision is named first, and whether it is named again
pub record LinkValue : Type 0 where
  pub dir : ℕ
  pub name : PathName
  pub again : Bool

abbrev pub link_value : Link → LinkValue
link_value link = record { dir = link.dir; name = string_bytes link.name; again = link.again }

-- where the node-revision at this place is named
abbrev pub link_at : Links → ℕ → Option LinkValue
link_at links place = option_map link_value (lookup (is_at (nat_cmp place)) links.by_place.entries)

-- what is named once more: first by this directory and this name, or named again
abbrev pub named_by : ℕ → PathName → Option LinkValue → LinkValue
named_by dir name None = record { dir = dir; name = name; again = false }
named_by dir name (Some link) = record { dir = link.dir; name = link.name; again = true }

-- the directory that alone names it, where it does so by this name
abbrev pub alone_by : PathName → Option LinkValue → Option ℕ
alone_by name None = None
alone_by name (Some link) = if link.again then None else (if same_name link.name name then Some link.dir else None)

-- from the place up, each is named once: at last in the root, by the names of the path
pub data LeadsUp (links : Links) (root : ℕ) : ℕ → Path → Type 0 where
  Here : LeadsUp links root root []
  Up : (place : ℕ) (link : LinkValue) (path : Path) → link_at links place ≡ Some link → link.again ≡ false → LeadsUp links root link.dir path → LeadsUp links root place (path ++ link.name ∷ [])
