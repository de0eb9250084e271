use Rattle.std.proofs.Common.{◌≤◌, ℕ, sym, subst}
use Rattle.std.specs.Prelude.{Result}
use Rattle.fsfs_txn.specs.Opened.Knowing.{AreKnown}
use Rattle.fsfs_txn.specs.Spending.{IsFailure}
use Rattle.fsfs_txn.specs.Opening.{IsOpeningPath, IfOpenedPath}
use Rattle.fsfs_txn.specs.declared.txn_error.TxnError.{TxnError}
use Rattle.fsfs_txn.specs.declared.opening.PathOpened.{PathOpened}
use Rattle.fsfs_txn.specs.declared.opening.PathOpened.TheVariants as paths
use Rattle.fsfs_txn.proofs.Meeting.{is_tree}
use Rattle.fsfs_jobs.specs.JobEdits.Editing.{IsTextAt}
use Rattle.fsfs_jobs.proofs.FoundLemmas.{lacks_nothing, blocked_nothing}
use Rattle.fsfs_jobs.proofs.SetLemmas.{as_found}
use Rattle.fsfs_jobs.proofs.StepLemmas.{moved}
use Rattle.fsfs_jobs.proofs.TellLemmas.{quiet_since}
use Rattle.fsfs_jobs.proofs.TextLemmas.{text_on, text_not_opened, no_file_lacking}
use Rattle.fsfs_jobs.proofs.job_edits.texts.put_in_made.Goals as goal

pub returns-in-Ok-Node-clause-disk : goal.returns-in-Ok-Node-clause-disk
returns-in-Ok-Node-clause-disk g c = quiet_since _ _ c.put_at.result c.open_path.ensures.cause.later (c.put_at.ensures.quiet _)

pub returns-in-Ok-Node-clause-puts : goal.returns-in-Ok-Node-clause-puts
returns-in-Ok-Node-clause-puts g c = λ told look trees top tree marks knows youngest shown revs within stands file.
    let put = c.args.put.now in
    let opened = c.in-Ok-Node.opened in
    let base = c.args.txn.now.base in
    let txn = g.N.Own.txn c.args.txn.now.own in
    let before = g.N.Own.settled c.args.txn.now.own in
    let own = stands.shows.0.shows.own in
    let met = as_found (λ (r : Result PathOpened TxnError). IsOpeningPath IsFailure look trees base own tree put.path r) c.open_path.result c.in-Ok-Node.field-0 (paths.Node opened) c.in-Ok-Node.is c.in-Ok-Node.field-0-is (c.open_path.ensures.meets c.requires.lasting look trees top tree marks knows shown revs within stands) in
    let known = as_found (λ (r : Result PathOpened TxnError). IfOpenedPath r (λ o. AreKnown look top o.way.known.items)) c.open_path.result c.in-Ok-Node.field-0 (paths.Node opened) c.in-Ok-Node.is c.in-Ok-Node.field-0-is (c.open_path.ensures.known look top knows) in
    let here : c.open_path.new.self.base ≤ top = subst (λ (b : ℕ). b ≤ top) (sym c.open_path.ensures.base) within in
    text_on look trees top base txn before tree marks stands put _ opened.counted c.put_at.result met.1
    (moved look trees top base txn before tree marks stands (λ b t. IsTextAt look trees top b t tree marks opened.counted put (g.N.Own.settled c.put_at.new.txn.own) c.put_at.result) _ _ _ c.open_path.ensures.base c.open_path.ensures.name c.open_path.ensures.settled
    (λ s. c.put_at.ensures.puts told look trees top tree marks known shown revs here s met.0))

pub returns-in-Ok-NotFound-clause-puts : goal.returns-in-Ok-NotFound-clause-puts
returns-in-Ok-NotFound-clause-puts g c = λ told look trees top tree marks knows youngest shown revs within stands file.
    let put = c.args.put.now in
    let base = c.args.txn.now.base in
    let txn = g.N.Own.txn c.args.txn.now.own in
    let before = g.N.Own.settled c.args.txn.now.own in
    let own = stands.shows.0.shows.own in
    let met = as_found (λ (r : Result PathOpened TxnError). IsOpeningPath IsFailure look trees base own tree put.path r) c.open_path.result c.in-Ok-NotFound.field-0 (paths.NotFound c.in-Ok-NotFound.names) c.in-Ok-NotFound.is c.in-Ok-NotFound.field-0-is (c.open_path.ensures.meets c.requires.lasting look trees top tree marks knows shown revs within stands) in
    absurd (no_file_lacking (tree put.path) file (lacks_nothing tree (is_tree look trees top base txn before tree marks revs stands) put.path c.in-Ok-NotFound.names met))

pub returns-in-Ok-NotDir-clause-puts : goal.returns-in-Ok-NotDir-clause-puts
returns-in-Ok-NotDir-clause-puts g c = λ told look trees top tree marks knows youngest shown revs within stands file.
    let put = c.args.put.now in
    let base = c.args.txn.now.base in
    let txn = g.N.Own.txn c.args.txn.now.own in
    let before = g.N.Own.settled c.args.txn.now.own in
    let own = stands.shows.0.shows.own in
    let met = as_found (λ (r : Result PathOpened TxnError). IsOpeningPath IsFailure look trees base own tree put.path r) c.open_path.result c.in-Ok-NotDir.field-0 (paths.NotDir c.in-Ok-NotDir.names) c.in-Ok-NotDir.is c.in-Ok-NotDir.field-0-is (c.open_path.ensures.meets c.requires.lasting look trees top tree marks knows shown revs within stands) in
    absurd (no_file_lacking (tree put.path) file (blocked_nothing tree (is_tree look trees top base txn before tree marks revs stands) put.path c.in-Ok-NotDir.names met))

pub returns-in-Err-clause-puts : goal.returns-in-Err-clause-puts
returns-in-Err-clause-puts g c = λ told look trees top tree marks knows youngest shown revs within stands file.
    let base = c.args.txn.now.base in
    let txn = g.N.Own.txn c.args.txn.now.own in
    let before = g.N.Own.settled c.args.txn.now.own in
    let own = stands.shows.0.shows.own in
    text_not_opened look trees top base txn tree marks c.args.put.now c.in-Err.error c.of_failure.result (c.in-Err.ensures.meets c.requires.lasting look trees top tree marks knows shown revs within stands) c.of_failure.ensures
