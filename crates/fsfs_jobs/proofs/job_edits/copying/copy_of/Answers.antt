use Rattle.std.proofs.Common.{◌≡◌, ℕ, subst}
use Rattle.fsfs_noderev.specs.declared.node_rev.CopySource.{CopySource}
use Rattle.fsfs_txn.specs.Edits.Copying.{IsCopying}
use Rattle.fsfs_txn.specs.Spending.{IfStays}
use Rattle.fsfs_jobs.specs.JobEdits.Answers.{fault_of_failure, copied_fault}
use Rattle.fsfs_jobs.proofs.TellLemmas.{copied_quiet, tells_lasts, tells_disk, tells_bench}
use Rattle.fsfs_jobs.proofs.CopyLemmas.{copy_at}
use Rattle.fsfs_jobs.proofs.job_edits.copying.copy_of.Goals as goal

pub returns-clause-edits : goal.returns-clause-edits
returns-clause-edits g c = λ look trees top tree marks knows youngest shown revs within stands.
    let copy = c.args.copy.now in
    let source : CopySource = record { rev = copy.rev; path = copy.from } in
    let number : CopySource → ℕ → Type 0 = λ from rev. from ≡ record { rev = rev; path = copy.from } in
    let is : c.in-Ok.from ≡ source = subst (number c.in-Ok.from) c.requires.number c.in-Ok.ensures in
    let after = g.N.Own.settled c.copy-outcome.new.self.own in
    let met = c.copy-outcome.ensures.meets c.requires.lasting look trees top tree marks knows shown revs within youngest stands in
    copy_at look trees top c.args.txn.now.base _ _ tree marks revs stands copy after c.copy-outcome.result c.tell_copied.result
    (subst (λ (from : CopySource). IsCopying IfStays look trees top c.args.txn.now.base (g.N.Own.txn c.args.txn.now.own) stands.shows.0.shows.own tree marks copy.to from (g.N.Own.settled c.args.txn.now.own) after c.copy-outcome.result) is met) c.tell_copied.ensures

pub returns-clause-lasts : goal.returns-clause-lasts
returns-clause-lasts g c = tells_lasts (copied_fault _ _ _) (copied_quiet _ _ _) fault_of_failure _ _ c.copy-outcome.result c.tell_copied.result c.copy-outcome.ensures.spent c.tell_copied.ensures

pub returns-clause-disk : goal.returns-clause-disk
returns-clause-disk g c = tells_disk (copied_fault _ _ _) (copied_quiet _ _ _) _ _ c.copy-outcome.result c.tell_copied.result c.tell_copied.ensures c.copy-outcome.ensures.cause

pub returns-clause-bench : goal.returns-clause-bench
returns-clause-bench g c = tells_bench (copied_fault _ _ _) (copied_quiet _ _ _) _ _ _ _ c.copy-outcome.result c.tell_copied.result c.requires.lasting c.copy-outcome.ensures.spent c.tell_copied.ensures c.copy-outcome.ensures.bench
