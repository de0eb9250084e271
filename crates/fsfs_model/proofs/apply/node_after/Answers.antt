use Rattle.std.proofs.Common.{sym, arith}
use Rattle.fsfs_base.proofs.PathLemmas.{covers-length}
use Rattle.fsfs_model.proofs.apply.node_after.Goals as goal

pub moved-requires : goal.moved-requires
moved-requires c = omega (arith, c.depth.ensures, covers-length c.in-Copy.to c.args.path.now (sym c.if-covers-2.ensures))
