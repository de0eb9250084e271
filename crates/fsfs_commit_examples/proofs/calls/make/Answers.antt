use Rattle.std.proofs.Common.{subst, sym}
use Rattle.fsfs_layout.specs.Folders.{AreShards}
use Rattle.fsfs_commit_examples.proofs.calls.make.Goals as goal

pub create-requires-clause-packs : goal.create-requires-clause-packs
create-requires-clause-packs c = record { format = c.sharded.ensures.format; sharded = subst AreShards (sym c.sharded.ensures.folders) tt }
