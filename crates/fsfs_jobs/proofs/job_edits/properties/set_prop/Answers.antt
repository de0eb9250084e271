use Rattle.std.proofs.Common.{◌≤◌, ℕ, sym, subst}
use Rattle.std.specs.Prelude.{Result}
use Rattle.fsfs_txn.specs.Opened.Knowing.{AreKnown}
use Rattle.fsfs_txn.specs.Spending.{IsFailure}
use Rattle.fsfs_txn.specs.Opening.{IsOpeningPath, IfOpenedPath}
use Rattle.fsfs_txn.specs.declared.txn_error.TxnError.{TxnError}
use Rattle.fsfs_txn.specs.declared.opening.PathOpened.{PathOpened}
use Rattle.fsfs_txn.specs.declared.opening.PathOpened.TheVariants as paths
use Rattle.fsfs_jobs.specs.JobEdits.Editing.{IsSetAt}
use Rattle.fsfs_jobs.proofs.TellLemmas.{quiet_since}
use Rattle.fsfs_jobs.proofs.SetLemmas.{as_found, set_here, set_nowhere, set_below_file, set_not_opened}
use Rattle.fsfs_jobs.proofs.StepLemmas.{moved}
use Rattle.fsfs_jobs.proofs.job_edits.properties.set_prop.Goals as goal

pub returns-in-Ok-Node-clause-disk : goal.returns-in-Ok-Node-clause-disk
returns-in-Ok-Node-clause-disk g c = quiet_since _ _ c.set_at.result c.open_path.ensures.cause.later (c.set_at.ensures.quiet _)

pub returns-in-Ok-Node-clause-edits : goal.returns-in-Ok-Node-clause-edits
returns-in-Ok-Node-clause-edits g c = λ look trees top tree marks knows youngest shown revs within stands.
    let set = c.args.set.now in
    let opened = c.in-Ok-Node.opened in
    let base = c.args.txn.now.base in
    let txn = g.N.Own.txn c.args.txn.now.own in
    let before = g.N.Own.settled c.args.txn.now.own in
    let own = stands.shows.0.shows.own in
    let met = as_found (λ (r : Result PathOpened TxnError). IsOpeningPath IsFailure look trees base own tree set.path r) c.open_path.result c.in-Ok-Node.field-0 (paths.Node opened) c.in-Ok-Node.is c.in-Ok-Node.field-0-is (c.open_path.ensures.meets c.requires.lasting look trees top tree marks knows shown revs within stands) in
    let known = as_found (λ (r : Result PathOpened TxnError). IfOpenedPath r (λ o. AreKnown look top o.way.known.items)) c.open_path.result c.in-Ok-Node.field-0 (paths.Node opened) c.in-Ok-Node.is c.in-Ok-Node.field-0-is (c.open_path.ensures.known look top knows) in
    let here : c.open_path.new.self.base ≤ top = subst (λ (b : ℕ). b ≤ top) (sym c.open_path.ensures.base) within in
    set_here look trees top base txn before tree marks revs stands set _ opened.kind opened.counted c.set_at.result met.0 met.1
    (moved look trees top base txn before tree marks stands (λ b t. IsSetAt look trees top b t tree marks opened.counted set (g.N.Own.settled c.set_at.new.txn.own) c.set_at.result) _ _ _ c.open_path.ensures.base c.open_path.ensures.name c.open_path.ensures.settled
    (λ s. c.set_at.ensures.sets look trees top tree marks known shown revs here s))

pub returns-in-Ok-NotFound-clause-edits : goal.returns-in-Ok-NotFound-clause-edits
returns-in-Ok-NotFound-clause-edits g c = λ look trees top tree marks knows youngest shown revs within stands.
    let set = c.args.set.now in
    let base = c.args.txn.now.base in
    let txn = g.N.Own.txn c.args.txn.now.own in
    let before = g.N.Own.settled c.args.txn.now.own in
    let own = stands.shows.0.shows.own in
    let met = as_found (λ (r : Result PathOpened TxnError). IsOpeningPath IsFailure look trees base own tree set.path r) c.open_path.result c.in-Ok-NotFound.field-0 (paths.NotFound c.in-Ok-NotFound.names) c.in-Ok-NotFound.is c.in-Ok-NotFound.field-0-is (c.open_path.ensures.meets c.requires.lasting look trees top tree marks knows shown revs within stands) in
    set_nowhere look trees top base txn before tree marks revs stands set before c.in-Ok-NotFound.names c.nothing_at.result met c.nothing_at.ensures

pub returns-in-Ok-NotDir-clause-edits : goal.returns-in-Ok-NotDir-clause-edits
returns-in-Ok-NotDir-clause-edits g c = λ look trees top tree marks knows youngest shown revs within stands.
    let set = c.args.set.now in
    let base = c.args.txn.now.base in
    let txn = g.N.Own.txn c.args.txn.now.own in
    let before = g.N.Own.settled c.args.txn.now.own in
    let own = stands.shows.0.shows.own in
    let met = as_found (λ (r : Result PathOpened TxnError). IsOpeningPath IsFailure look trees base own tree set.path r) c.open_path.result c.in-Ok-NotDir.field-0 (paths.NotDir c.in-Ok-NotDir.names) c.in-Ok-NotDir.is c.in-Ok-NotDir.field-0-is (c.open_path.ensures.meets c.requires.lasting look trees top tree marks knows shown revs within stands) in
    set_below_file look trees top base txn before tree marks revs stands set before c.in-Ok-NotDir.names c.file_at.result met c.file_at.ensures

pub returns-in-Err-clause-edits : goal.returns-in-Err-clause-edits
returns-in-Err-clause-edits g c = λ look trees top tree marks knows youngest shown revs within stands.
    let base = c.args.txn.now.base in
    let txn = g.N.Own.txn c.args.txn.now.own in
    let before = g.N.Own.settled c.args.txn.now.own in
    let own = stands.shows.0.shows.own in
    set_not_opened look trees top base txn before tree marks revs stands c.args.set.now before c.in-Err.error c.of_failure.result (c.in-Err.ensures.meets c.requires.lasting look trees top tree marks knows shown revs within stands) c.of_failure.ensures
