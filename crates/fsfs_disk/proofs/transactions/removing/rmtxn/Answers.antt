use Rattle.fsfs_disk.specs.Transactions.Txns.{pair_of, txn_label}
use Rattle.fsfs_disk.proofs.InTurn.{dropped}
use Rattle.fsfs_disk.proofs.transactions.removing.rmtxn.Goals as goal

pub returns-clause-done : goal.returns-clause-done
returns-clause-done g c =
    dropped (txn_label (pair_of c.args.name.now)) (g.D.Disk.trace c.args.disk.now) (g.D.Disk.trace c.drop_bench.new.self) c.drop_bench.result c.drop_bench.ensures.there c.drop_bench.ensures.ok
