use Rattle.fsfs_core.specs.State.{world_of}
use Rattle.fsfs_core.proofs.Along.{kept_along}
use Rattle.fsfs_core.proofs.state.State.step.Goals as goal

pub returns-clause-kept : goal.returns-clause-kept
returns-clause-kept c = kept_along c.take_step.result (world_of c.args.self.now) (world_of c.take_step.new.self) c.args.s c.take_step.ensures
