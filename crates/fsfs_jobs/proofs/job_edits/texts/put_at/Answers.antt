use Rattle.std.proofs.Common.{◌≡◌, ℕ, List, Option, Some, None, true, sym, subst, ◌∙◌}
use Rattle.fsfs_txn.specs.Edits.Texts.{IsPuttingText}
use Rattle.fsfs_base.specs.Paths.{Path}
use Rattle.fsfs_draft.specs.Walks.{HasKind}
use Rattle.fsfs_jobs.specs.JobEdits.Answers.{fault_of_left, text_fault}
use Rattle.fsfs_jobs.proofs.TellLemmas.{text_quiet, tells_lasts, left_disk, tells_bench_rise}
use Rattle.fsfs_jobs.proofs.TextLemmas.{put_at, bytes_like}
use Rattle.fsfs_jobs.proofs.job_edits.texts.put_at.Goals as goal

pub returns-clause-puts : goal.returns-clause-puts
returns-clause-puts g c = λ told look trees top tree marks known shown revs within stands kind.
    let put = c.args.put.now in
    let opened = c.args.opened.now in
    let base = c.args.txn.now.base in
    let txn = g.N.Own.txn c.args.txn.now.own in
    let before = g.N.Own.settled c.args.txn.now.own in
    let after = g.N.Own.settled c.put_text-outcome.new.self.own in
    let left : Option (List ℕ) = Some c.put_text-outcome.new.source.rest.now in
    let is : c.new-source.result.rest.now ≡ put.text = c.new-source.ensures ∙ c.as_slice.ensures in
    let there : HasKind (tree opened.way.path) opened.kind = subst (λ (p : Path). HasKind (tree p) opened.kind) (sym c.requires.path) kind in
    let met = c.put_text-outcome.ensures.meets c.requires.lasting look trees top tree marks known shown revs within stands there in
    put_at ((x : g.row.N.Denot) → g.N.OwnTexts.tells x ≡ true) told look trees top base txn before tree marks c.args.txn.now.moves opened put c.requires.path left (bytes_like _ opened.way.known put.text) after c.put_text-outcome.result c.tell_text.result
    (subst (λ (t : List ℕ). IsPuttingText ((x : g.row.N.Denot) → g.N.OwnTexts.tells x ≡ true) look trees top base txn tree marks c.args.txn.now.moves opened (Some t) left None before after c.put_text-outcome.result) is met) c.tell_text.ensures

pub returns-clause-lasts : goal.returns-clause-lasts
returns-clause-lasts g c = tells_lasts (text_fault c.args.put.now.path) (text_quiet c.args.put.now.path) fault_of_left _ _ c.put_text-outcome.result c.tell_text.result c.put_text-outcome.ensures.spent c.tell_text.ensures

pub returns-clause-quiet : goal.returns-clause-quiet
returns-clause-quiet g c = λ faults. left_disk (text_fault c.args.put.now.path) (text_quiet c.args.put.now.path) faults c.put_text-outcome.result c.tell_text.result c.tell_text.ensures

pub returns-clause-bench : goal.returns-clause-bench
returns-clause-bench g c = tells_bench_rise (text_fault c.args.put.now.path) (text_quiet c.args.put.now.path) _ _ _ _ c.put_text-outcome.result c.tell_text.result c.requires.lasting c.put_text-outcome.ensures.spent c.tell_text.ensures c.put_text-outcome.ensures.bench_cause
