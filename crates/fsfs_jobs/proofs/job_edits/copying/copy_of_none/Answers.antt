use Rattle.std.proofs.Common.{arith}
use Rattle.std.specs.Prelude.{Result}
use Rattle.fsfs_txn.specs.Spending.{IsFailure}
use Rattle.fsfs_txn.specs.Opening.{IsOpeningPath}
use Rattle.fsfs_txn.specs.declared.txn_error.TxnError.{TxnError}
use Rattle.fsfs_txn.specs.declared.opening.PathOpened.{PathOpened}
use Rattle.fsfs_txn.specs.declared.opening.PathOpened.TheVariants as paths
use Rattle.fsfs_jobs.proofs.SetLemmas.{as_found}
use Rattle.fsfs_jobs.proofs.CopyLemmas.{there_at, lacks_at, free_at, no_rev_at, file_in_way, opening_failed}
use Rattle.fsfs_jobs.proofs.job_edits.copying.copy_of_none.Goals as goal

pub returns-in-Ok-Node-clause-edits : goal.returns-in-Ok-Node-clause-edits
returns-in-Ok-Node-clause-edits g c = λ look trees top tree marks knows youngest shown revs within stands.
    let copy = c.args.copy.now in
    let base = c.args.txn.now.base in
    let txn = g.N.Own.txn c.args.txn.now.own in
    let before = g.N.Own.settled c.args.txn.now.own in
    let own = stands.shows.0.shows.own in
    let met = as_found (λ (r : Result PathOpened TxnError). IsOpeningPath IsFailure look trees base own tree copy.to r) c.open_path.result c.in-Ok-Node.field-0 (paths.Node c.in-Ok-Node.field-0-0) c.in-Ok-Node.is c.in-Ok-Node.field-0-is (c.open_path.ensures.meets c.requires.lasting look trees top tree marks knows shown revs within stands) in
    there_at look trees top base txn before tree marks revs stands copy before c.in-Ok-Node.field-0-0 c.is_there.result met c.is_there.ensures

pub returns-then-names-depth-clause-edits : goal.returns-then-names-depth-clause-edits
returns-then-names-depth-clause-edits g c = λ look trees top tree marks knows youngest shown revs within stands.
    let copy = c.args.copy.now in
    let base = c.args.txn.now.base in
    let txn = g.N.Own.txn c.args.txn.now.own in
    let before = g.N.Own.settled c.args.txn.now.own in
    let own = stands.shows.0.shows.own in
    let met = as_found (λ (r : Result PathOpened TxnError). IsOpeningPath IsFailure look trees base own tree copy.to r) c.open_path.result c.in-Ok-NotFound.field-0 (paths.NotFound c.in-Ok-NotFound.names) c.in-Ok-NotFound.is c.in-Ok-NotFound.field-0-is (c.open_path.ensures.meets c.requires.lasting look trees top tree marks knows shown revs within stands) in
    lacks_at look trees top base txn before tree marks revs stands copy before c.in-Ok-NotFound.names c.nothing_at.result (omega (arith, c.if-names-depth.true, c.depth.ensures)) met c.nothing_at.ensures

pub returns-in-Ok-NotFound-clause-edits : goal.returns-in-Ok-NotFound-clause-edits
returns-in-Ok-NotFound-clause-edits g c = λ look trees top tree marks knows youngest shown revs within stands.
    let copy = c.args.copy.now in
    let base = c.args.txn.now.base in
    let txn = g.N.Own.txn c.args.txn.now.own in
    let before = g.N.Own.settled c.args.txn.now.own in
    let own = stands.shows.0.shows.own in
    let met = as_found (λ (r : Result PathOpened TxnError). IsOpeningPath IsFailure look trees base own tree copy.to r) c.open_path.result c.in-Ok-NotFound.field-0 (paths.NotFound c.in-Ok-NotFound.names) c.in-Ok-NotFound.is c.in-Ok-NotFound.field-0-is (c.open_path.ensures.meets c.requires.lasting look trees top tree marks knows shown revs within stands) in
    no_rev_at look trees top base txn before tree marks revs stands copy before c.lacks_revision.result c.requires.above (free_at look trees top base txn before tree marks revs stands copy before c.in-Ok-NotFound.names (λ lt. omega (arith, lt, c.if-names-depth.false, c.depth.ensures)) met)
    (c.lacks_revision.ensures.lacks top (c.open_path.ensures.kept.youngest top youngest))

pub returns-in-Ok-NotFound-clause-bench : goal.returns-in-Ok-NotFound-clause-bench
returns-in-Ok-NotFound-clause-bench g c = c.lacks_revision.ensures.quiet _ _ c.open_path.ensures.bench.later

pub returns-in-Ok-NotDir-clause-edits : goal.returns-in-Ok-NotDir-clause-edits
returns-in-Ok-NotDir-clause-edits g c = λ look trees top tree marks knows youngest shown revs within stands.
    let copy = c.args.copy.now in
    let base = c.args.txn.now.base in
    let txn = g.N.Own.txn c.args.txn.now.own in
    let before = g.N.Own.settled c.args.txn.now.own in
    let own = stands.shows.0.shows.own in
    let met = as_found (λ (r : Result PathOpened TxnError). IsOpeningPath IsFailure look trees base own tree copy.to r) c.open_path.result c.in-Ok-NotDir.field-0 (paths.NotDir c.in-Ok-NotDir.names) c.in-Ok-NotDir.is c.in-Ok-NotDir.field-0-is (c.open_path.ensures.meets c.requires.lasting look trees top tree marks knows shown revs within stands) in
    file_in_way look trees top base txn before tree marks revs stands copy before c.in-Ok-NotDir.names c.file_at.result met c.file_at.ensures

pub returns-clause-edits : goal.returns-clause-edits
returns-clause-edits g c = λ look trees top tree marks knows youngest shown revs within stands.
    let base = c.args.txn.now.base in
    let txn = g.N.Own.txn c.args.txn.now.own in
    let before = g.N.Own.settled c.args.txn.now.own in
    let own = stands.shows.0.shows.own in
    opening_failed look trees top base txn before tree marks revs stands c.args.copy.now before c.in-Err.error c.of_failure.result (c.in-Err.ensures.meets c.requires.lasting look trees top tree marks knows shown revs within stands) c.of_failure.ensures
