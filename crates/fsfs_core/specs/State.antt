-- The state as the machine's words.
use Rattle.std.specs.NonZero.{non_zero_u64_get}
use Rattle.fsfs_core.specs.declared.state.State.{State}
use Rattle.fsfs_machine.specs.Machine.{World}

abbrev pub world_of : State → World
world_of s = record { disk = s.disk.items; lock = s.lock; young = s.young; history = s.line; opening = s.opening; since = s.since.items; size = non_zero_u64_get s.size; low = s.low; floor = s.floor; given = s.given.items; labels = s.labels.items; named = s.named.items; txns = s.txns.items; spent = s.spent.items; passes = s.passes.items }
