use Rattle.std.proofs.Common.{Ok, subst}
use Rattle.std.specs.Prelude.{MatchResult}
use Rattle.std.proofs.lemmas.Result.{err_from_is_err_and}
use Rattle.fsfs_noderev.specs.declared.rep.Rep.{Rep}
use Rattle.fsfs_revision.specs.Rep.Frames.{IsWhole, IsFaultOf}
use Rattle.fsfs_revision.proofs.WholeLemmas.{told_later, fault_for}
use Rattle.fsfs_look.proofs.file.check_rep.Goals as goal

pub returns-in_err-next-clause-bytes : goal.returns-in_err-next-clause-bytes
returns-in_err-next-clause-bytes g c = λ bytes e.
    let inv = c.pieces.invariant in
    let told = told_later _ _ _ _ (Ok bytes) inv.kept inv.rep e in
    let p = err_from_is_err_and c.from_residual-in_err-next.result c.from_residual-in_err-next.ensures.1 in
    rw (p.1, p.2) (fault_for _ _ bytes _ inv.rep (c.in_err-next.ensures.bytes bytes told (inv.read bytes e)))

pub returns-clause-bytes : goal.returns-clause-bytes
returns-clause-bytes g c = λ bytes e.
    let inv = c.pieces.invariant in
    let told = told_later _ _ _ _ (Ok bytes) inv.kept inv.rep e in
    subst (λ (r : Rep). MatchResult c.finish.result (λ _. IsWhole r bytes) (IsFaultOf r bytes)) inv.rep (c.finish.ensures.bytes bytes told (inv.read bytes e))
