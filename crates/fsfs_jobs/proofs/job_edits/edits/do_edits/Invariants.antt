use Rattle.std.proofs.Common.{◌≡◌, ◌≤◌, true, take}
use Rattle.std.specs.Prelude.{None}
use Rattle.fsfs_revision.specs.Told.{Keeps}
use Rattle.fsfs_jobs.specs.JobEdits.Editing.{OverHistories, IsEditedWhole}
use Rattle.fsfs_jobs.proofs.job_edits.edits.do_edits.Given as goal

-- so many edits were done
abbrev pub invariant-loop-step : goal.invariant-loop-step
invariant-loop-step g l = record {
  edits : ((x : g.row.N.Denot) → g.N.OwnTexts.tells x ≡ true) → OverHistories (g.B.Book.told l.fn.book).revs (g.B.Book.told l.fn.book).youngest l.fn.txn.base (g.N.Own.txn l.fn.txn.own) (g.N.Own.settled l.fn.txn.own)
      (IsEditedWhole (take l.step-index l.steps) (g.N.Own.txn l.fn.txn.own) l.fn.txn.base (g.N.Own.settled l.txn.own));
  lasting : l.txn.spent ≡ None;
  base : l.txn.base ≡ l.fn.txn.base;
  name : g.N.Own.txn l.txn.own ≡ g.N.Own.txn l.fn.txn.own;
  kept : Keeps (g.B.Book.told l.fn.book) (g.B.Book.told l.book);
  disk : g.B.Book.faults l.fn.book ≤ g.B.Book.faults l.book;
  bench : g.N.Own.faults l.fn.txn.own ≤ g.N.Own.faults l.txn.own;
}
