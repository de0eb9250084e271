use Rattle.std.proofs.Common.{ap, ◌∙◌}
use Rattle.fsfs_folders.specs.Told.{is_apart}
use Rattle.fsfs_folders.proofs.ApartLemmas.{beside_ends, beside_apart}
use Rattle.fsfs_folders.proofs.folders.Folders.put.Goals as goal

pub clear-requires-clause-beside : goal.clear-requires-clause-beside
clear-requires-clause-beside g c = ap is_apart c.with_ending-beside.ensures ∙ beside_apart _ (beside_ends c.args.name.now)

pub write-requires-clause-beside : goal.write-requires-clause-beside
write-requires-clause-beside g c = ap is_apart c.with_ending-beside.ensures ∙ beside_apart _ (beside_ends c.args.name.now)

pub give-requires-clause-beside : goal.give-requires-clause-beside
give-requires-clause-beside g c = ap is_apart c.with_ending-beside.ensures ∙ beside_apart _ (beside_ends c.args.name.now)
