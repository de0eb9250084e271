use Rattle.std.proofs.Common.{◌∙◌, ◌++◌, List, ap}
use Rattle.fsfs_revision.specs.Shows.Reading.{DirEntry}
use Rattle.fsfs_dag.specs.declared.directory.DirEntry.{DirEntry as PlacedEntry}
use Rattle.fsfs_dag.specs.Views.{entry_values}
use Rattle.fsfs_merge.specs.declared.clash.three.Side.TheVariants.{Head, Own}
use Rattle.fsfs_merge.specs.Clash.Merging.{merged_of}
use Rattle.fsfs_merge.proofs.MergedLemmas.{merged_named}
use Rattle.fsfs_merge.proofs.clash.merged.merged_entries.Goals as goal

pub returns : goal.returns
returns c = λ name.
    let sides = c.args.sides.now in
    merged_named sides (entry_values c.push_merged-2.new.all.items) name
    (c.in_ok-push_merged-2.ensures ∙ ap (λ (es : List DirEntry). es ++ merged_of Head sides sides.head.targets.entries)
    (c.in_ok-push_merged.ensures ∙ ap (λ (es : List PlacedEntry). entry_values es ++ merged_of Own sides sides.own.targets.entries) c.new-all.ensures.items))
