-- Where files stand for a history, the text of a path's history is that of the flat model.
use Rattle.std.proofs.Common.{arith}
use Rattle.fsfs_tree.specs.Revisions.{tree_of}
use Rattle.fsfs_revision.specs.RevBytes.{rev_bytes, props_bytes}
use Rattle.fsfs_stands.proofs.TextByTrees.{histories_by_trees}
use Rattle.fsfs_stands.specs.PathHistories.{PathHistoriesAreFlat}
use Rattle.fsfs_stands.proofs.Histories.{trees}

pub path_histories_flat : PathHistoriesAreFlat
path_histories_flat files h s rev path le =
    let count = s.count in
    histories_by_trees (rev_bytes s.opened.layout files) s.opened.youngest (tree_of h) (trees (rev_bytes s.opened.layout files) (props_bytes s.opened.layout files) h s.opened.youngest s.count s.history)
    rev path (omega (arith, le, count))
