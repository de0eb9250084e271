use Rattle.std.specs.Prelude.{None}
use Rattle.fsfs_workers.proofs.Ends.{printed}
use Rattle.fsfs_workers.proofs.running.run_script_by_two.Goals as goal

pub returns-clause-ran : goal.returns-clause-ran
returns-clause-ran g c = printed c.args.micros 2 c.args.known None _ _ _ _ _ _ _ _ _ c.do_script_by_two-disk.result.1 _ _ _ _ c.tell_if.result c.do_script_by_two-disk.ensures.works c.tell_if.ensures
