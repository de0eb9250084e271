use Rattle.std.proofs.Common.{sym, subst}
use Rattle.fsfs_draft.specs.Drafts.{Folder}
use Rattle.fsfs_edit.specs.Copying.{MeetsCopy}
use Rattle.fsfs_edit.proofs.copy.copy_at.Goals as goal

pub returns-clause-meets : goal.returns-clause-meets
returns-clause-meets g c = subst (λ (h : Folder). MeetsCopy (g.B.Book.told c.args.book.now).revs (g.B.Book.told c.args.book.now).youngest (g.N.Own.txn c.args.own.now) (g.N.Own.settled c.args.own.now) h c.args.parent.now c.args.name.now c.args.from.now c.copy_steps-copied.result) (sym c.forget.ensures.settled) c.copy_steps-copied.ensures.meets
