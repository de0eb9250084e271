use Rattle.std.proofs.Common.{sym, subst}
use Rattle.fsfs_draft.specs.Drafts.{Folder}
use Rattle.fsfs_edit.specs.Deleting.{MeetsDelete}
use Rattle.fsfs_edit.proofs.delete.delete_at.Goals as goal

pub returns-clause-meets : goal.returns-clause-meets
returns-clause-meets g c = subst (λ (h : Folder). MeetsDelete (g.B.Book.told c.args.book.now).revs (g.N.Own.txn c.args.own.now) (g.N.Own.settled c.args.own.now) h c.args.parent.now c.args.name.now c.delete_steps-gone.result) (sym c.forget.ensures.settled) c.delete_steps-gone.ensures.meets
