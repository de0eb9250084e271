-- The root of a revision against that of the revision before, if there is one.
use Rattle.std.specs.Prelude.{◌≡◌, ◌⊎◌, ℕ, suc, List, Option, Some, None, Ok, Err}
use Rattle.fsfs_revision.specs.Told.{RevisionBytes}
use Rattle.fsfs_revision.specs.declared.damage.DamageKind.TheVariants as what
use Rattle.fsfs_revision.specs.declared.wrong.Wrong.{Wrong}
use Rattle.fsfs_revision.specs.Damage.Damages.{damaged}
use Rattle.fsfs_noderev.specs.Ids.{part_value, Old}
use Rattle.fsfs_noderev.specs.declared.node_rev.NodeRev.{NodeRev}
use Rattle.fsfs_revision.specs.Shows.Reading.{DirEntry, EntriesOf, offset_of, RootOf}
use Rattle.fsfs_sound.specs.Rules.{IsFirstRoot, FollowsRoot}

abbrev pub FollowsOrFirst : RevisionBytes → NodeRev → Option NodeRev → Type 0
FollowsOrFirst look v None = IsFirstRoot look v
FollowsOrFirst look v (Some last) = FollowsRoot v last

-- it is of node 0 and copy 0, no copy, and follows the root before it
pub record IsRootBehind (look : RevisionBytes) (v : NodeRev) (last : Option NodeRev) : Type 0 where
  pub node : part_value v.id.node ≡ Old 0
  pub copy : part_value v.id.copy ≡ Old 0
  pub no_copy : v.copy_from ≡ None
  pub follows : FollowsOrFirst look v last

-- the list of revision 0's root isn't had, or it isn't as it has to be
abbrev pub IsWrongFirst : RevisionBytes → NodeRev → Wrong → Type 0
IsWrongFirst look v w = EntriesOf look v (Err w) ⊎ ((entries : List DirEntry) × EntriesOf look v (Ok entries) × (IsFirstRoot look v → ⊥) × (w ≡ damaged (offset_of v.id.place) what.CopyId))

abbrev pub IsWrongBehind : RevisionBytes → NodeRev → Option NodeRev → Wrong → Type 0
IsWrongBehind look v None w = IsWrongFirst look v w
IsWrongBehind look v (Some last) w = (FollowsRoot v last → ⊥) × (w ≡ damaged (offset_of v.id.place) what.CopyId)

-- it is of node 0 and copy 0, and no copy
abbrev pub IsZero : NodeRev → Type 0
IsZero v = (part_value v.id.node ≡ Old 0) × (part_value v.id.copy ≡ Old 0) × (v.copy_from ≡ None)

abbrev pub IsWrongRoot : RevisionBytes → NodeRev → Option NodeRev → Wrong → Type 0
IsWrongRoot look v last w = ((IsZero v → ⊥) × (w ≡ damaged (offset_of v.id.place) what.CopyId)) ⊎ IsWrongBehind look v last w

-- the root of the revision before, if there is one
abbrev pub IsLastRoot : RevisionBytes → ℕ → Option NodeRev → Type 0
IsLastRoot look r None = r ≡ 0
IsLastRoot look r (Some last) = (s : ℕ) × (r ≡ suc s) × RootOf look s (Ok last)
