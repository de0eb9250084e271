use Rattle.std.proofs.Common.{◌≡◌}
use Rattle.std.specs.Prelude.{Some}
use Rattle.std.specs.NonZero.{non_zero_u64_get}
use Rattle.fsfs_machine.specs.Machine.{read_back}
use Rattle.fsfs_core.proofs.state.State.read_back.Given as goal

abbrev pub invariant-loop-rev : goal.invariant-loop-rev
invariant-loop-rev l = read_back (non_zero_u64_get l.self.size) l.floor l.self.disk.items l.rev ≡ Some l.line
