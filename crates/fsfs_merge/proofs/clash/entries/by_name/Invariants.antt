use Rattle.std.proofs.Common.{◌≡◌, ◌++◌, List, length}
use Rattle.std.specs.Prelude.{option_map}
use Rattle.std.specs.BTreeMap.{get_by_text}
use Rattle.fsfs_base.specs.Paths.{PathName}
use Rattle.fsfs_dag.specs.declared.directory.DirEntry.{DirEntry}
use Rattle.fsfs_dag.specs.Views.{entry_values}
use Rattle.fsfs_revision.specs.Shows.Reading.{named}
use Rattle.fsfs_merge.specs.Clash.Threes.{entry_target}
use Rattle.fsfs_merge.proofs.clash.entries.by_name.Given as goal

-- the last entries were put
abbrev pub invariant-loop-entry : goal.invariant-loop-entry
invariant-loop-entry l = (done : List DirEntry) × (l.fn.entries.items ≡ l.entries.items ++ done) × ((name : PathName) → get_by_text l.targets name ≡ option_map entry_target (named name (entry_values done)))

abbrev pub decreases-loop-entry : goal.decreases-loop-entry
decreases-loop-entry l = length l.entries.items
