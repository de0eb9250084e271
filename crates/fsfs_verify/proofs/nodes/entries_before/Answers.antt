use Rattle.std.proofs.Common.{◌≡◌, ◌≤◌, Err, arith, Vec, Global}
use Rattle.std.proofs.lemmas.Result.{err_from_is_err_and}
use Rattle.fsfs_revision.specs.Shows.Reading.{EntriesOf}
use Rattle.fsfs_dag.specs.declared.directory.DirEntry.{DirEntry}
use Rattle.fsfs_dag.specs.Views.{entry_values}
use Rattle.fsfs_verify.proofs.Findings.{wrong_as}
use Rattle.fsfs_verify.proofs.nodes.entries_before.Goals as goal

pub returns-in_err-all-in-Some-clause-told : goal.returns-in_err-all-in-Some-clause-told
returns-in_err-all-in-Some-clause-told g c = λ look rev knows le.
    let u = c.in-Some.pred.node in
    let below = rw c.in-Some.is at le in
    let p = err_from_is_err_and c.from_residual-in_err-all-in-Some.result c.from_residual-in_err-all-in-Some.ensures.1 in
    rw (c.in-Some.is, p.1, p.2) (wrong_as (λ (found : Vec DirEntry Global). entry_values found.items) (EntriesOf look u) (λ w. EntriesOf look u (Err w)) c.in_err-all-in-Some.field-0.0 (λ w h. h)
    (c.in_err-all-in-Some.ensures.told look (λ r lower. knows r (omega (arith, lower, below)))))

pub returns-in_ok-found-in-Some-clause-told : goal.returns-in_ok-found-in-Some-clause-told
returns-in_ok-found-in-Some-clause-told g c = λ look rev knows le.
    let below = rw c.in-Some.is at le in
    rw c.in-Some.is (entry_values c.in_ok-all-in-Some.all.items, c.in_ok-all-in-Some.ensures.told look (λ r lower. knows r (omega (arith, lower, below))), c.in_ok-found-in-Some.ensures)
