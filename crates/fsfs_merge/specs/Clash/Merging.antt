-- The entries of a merged directory, side by side.
use Rattle.std.specs.Prelude.{◌++◌, List, [], ◌∷◌, if◌then◌else◌}
use Rattle.std.specs.String.{string_bytes}
use Rattle.std.specs.declared.string.String.{String}
use Rattle.std.specs.declared.alloc.Global.{Global}
use Rattle.fsfs_base.specs.Paths.{PathName}
use Rattle.fsfs_revision.specs.Shows.Reading.{DirEntry}
use Rattle.fsfs_merge.specs.declared.clash.three.Side.{Side}
use Rattle.fsfs_merge.specs.declared.clash.three.Target.{Target}
use Rattle.fsfs_merge.specs.declared.clash.three.Three.{Three}
use Rattle.fsfs_merge.specs.declared.clash.entries.Sides.{Sides}
use Rattle.fsfs_merge.specs.Clash.Lists.{three_in}
use Rattle.fsfs_merge.specs.Clash.Threes.{is_taken}

abbrev pub target_entry : PathName → Target → DirEntry
target_entry name t = record { name = name; kind = t.kind; id = t.id }

-- the entry of a side, where it is there after the merge
abbrev pub if_merged : Side → PathName → Target → Three → List DirEntry
if_merged side name target three = if is_taken side three then target_entry name target ∷ [] else []

abbrev pub merged_of : Side → Sides → List (String Global × Target) → List DirEntry
merged_of side sides [] = []
merged_of side sides (e ∷ es) = if_merged side (string_bytes e.0) e.1 (three_in sides (string_bytes e.0)) ++ merged_of side sides es
