use Rattle.std.proofs.Common.{sym, ◌∙◌}
use Rattle.std.specs.Prelude.{Err}
use Rattle.std.proofs.lemmas.Result.{err_from_is_err_and}
use Rattle.fsfs_revision.specs.Shows.Reading.{RootOf}
use Rattle.fsfs_revision.proofs.TreeLaw.{root_home}
use Rattle.fsfs_dag.specs.declared.node.PlacedNode.{PlacedNode}
use Rattle.fsfs_verify.proofs.Findings.{wrong_as}
use Rattle.fsfs_verify.proofs.roots.dir_root.Goals as goal

pub returns-in_err-root-clause-told : goal.returns-in_err-root-clause-told
returns-in_err-root-clause-told g c = λ look knows.
    let p = err_from_is_err_and c.from_residual.result c.from_residual.ensures.1 in
    rw (p.1, p.2) (wrong_as (λ (found : PlacedNode). found.node) (RootOf look c.args.rev) (λ w. RootOf look c.args.rev (Err w)) c.in_err-root.field-0.0 (λ w h. h) (c.in_err-root.ensures.told look knows))

pub returns-in-File-clause-told : goal.returns-in-File-clause-told
returns-in-File-clause-told g c = λ look knows.
    let home = root_home look c.args.rev c.in_ok-root.root.node (c.in_ok-root.ensures.told look knows) in
    let e = sym home.2 ∙ c.in-File.is in
    absurd cc
