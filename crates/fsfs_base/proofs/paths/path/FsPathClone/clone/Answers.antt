use Rattle.std.proofs.Common.{◌∙◌}
use Rattle.std.specs.String.{string_bytes}
use Rattle.fsfs_base.proofs.ClonedLists.{map_cloned}
use Rattle.fsfs_base.proofs.paths.path.FsPathClone.clone.Goals as goal

pub returns : goal.returns
returns c = record { cases = map_cloned string_bytes _ _ c.in_ok-clone.ensures.cases.0 ∙ c.self.view_is }
