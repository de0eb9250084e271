use Rattle.std.proofs.Common.{◌≡◌, ◌≤◌, length}
use Rattle.fsfs_tree.specs.ChangedTexts.{nearest_source}
use Rattle.fsfs_stands.specs.ChangedTexts.{source_at}
use Rattle.fsfs_history.specs.Views.{by_text_value}
use Rattle.fsfs_history.proofs.taken.nearest_source.Given as goal

-- no nearer one has a source
abbrev pub invariant-names : goal.invariant-names
invariant-names l = record {
  within : l.depth ≤ length l.path;
  same : nearest_source (source_at (by_text_value l.items)) l.path (length l.path) ≡ nearest_source (source_at (by_text_value l.items)) l.path l.depth;
}

abbrev pub decreases-names : goal.decreases-names
decreases-names l = l.depth
