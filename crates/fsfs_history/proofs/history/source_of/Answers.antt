use Rattle.std.proofs.Common.{◌≤◌, sym, ◌∙◌, subst, length}
use Rattle.fsfs_base.proofs.PathLemmas.{covers-length}
use Rattle.fsfs_history.proofs.history.source_of.Goals as goal

pub moved-requires : goal.moved-requires
moved-requires c = subst (λ n. n ≤ length c.args.path.now) (sym c.depth.ensures) (covers-length c.args.root.now c.args.path.now (sym c.covers.ensures ∙ c.if-covers.true))
