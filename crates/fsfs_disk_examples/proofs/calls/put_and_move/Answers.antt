use Rattle.std.proofs.Common.{rules}
use Rattle.fsfs_disk.specs.Trace.{Performs, Put}
use Rattle.fsfs_disk.proofs.TraceLemmas.{file_at-put}
use Rattle.fsfs_disk_examples.proofs.calls.put_and_move.Goals as goal

pub rename-requires-clause-there : goal.rename-requires-clause-there
rename-requires-clause-there g c =
    let performed : Performs (Put c.args.from.now c.args.bytes.now) (g.D.Disk.trace c.args.disk.now) (g.D.Disk.trace c.put.new.self) = search rules in
    file_at-put (g.D.Disk.trace c.args.disk.now) (g.D.Disk.trace c.put.new.self) c.args.from.now c.args.bytes.now performed
