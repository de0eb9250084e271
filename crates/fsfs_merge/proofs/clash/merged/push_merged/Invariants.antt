use Rattle.std.proofs.Common.{◌≡◌, ◌++◌, List}
use Rattle.fsfs_dag.specs.Views.{entry_values}
use Rattle.fsfs_merge.specs.Clash.Merging.{merged_of}
use Rattle.fsfs_merge.proofs.ListLemmas.{Named}
use Rattle.fsfs_merge.proofs.clash.merged.push_merged.Given as goal

-- those of the first entries were put
abbrev pub invariant-loop-name : goal.invariant-loop-name
invariant-loop-name l = (done : List Named) × (l.entries.targets.entries ≡ done ++ l.name-iterator) × (entry_values l.all.items ≡ entry_values l.fn.all.items ++ merged_of l.side l.sides done)
