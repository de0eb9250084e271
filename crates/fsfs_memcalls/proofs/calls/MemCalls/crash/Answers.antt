use Rattle.fsfs_memcalls.specs.Recorded.{record_of}
use Rattle.fsfs_memcalls.proofs.LeftLemmas.{picked_is_left}
use Rattle.fsfs_memcalls.proofs.calls.MemCalls.crash.Goals as goal

pub returns-in_err-first-clause-left : goal.returns-in_err-first-clause-left
returns-in_err-first-clause-left c = picked_is_left c.args.pick.now c.args.all_bytes (record_of c.args.self.now)

pub returns-clause-left : goal.returns-clause-left
returns-clause-left c = picked_is_left c.args.pick.now c.args.all_bytes (record_of c.args.self.now)
