-- A new repository keeps what the machine keeps.
use Rattle.std.proofs.Common.{rules}
use Rattle.std.specs.NonZero.{non_zero_u64_get}
use Rattle.fsfs_machine.proofs.Created.{created_kept}
use Rattle.fsfs_core.proofs.state.State.create.Goals as goal

pub returns-clause-kept : goal.returns-clause-kept
returns-clause-kept c = created_kept _ (non_zero_u64_get c.args.size) c.args.properties c.args.bytes c.args.size.ok (search rules)
