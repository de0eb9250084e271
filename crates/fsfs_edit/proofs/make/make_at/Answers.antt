use Rattle.std.proofs.Common.{sym, subst}
use Rattle.fsfs_draft.specs.Drafts.{Folder}
use Rattle.fsfs_edit.specs.Making.{MeetsMake}
use Rattle.fsfs_edit.proofs.make.make_at.Goals as goal

pub returns-clause-meets : goal.returns-clause-meets
returns-clause-meets g c = subst (λ (h : Folder). MeetsMake (g.B.Book.told c.args.book.now).revs (g.N.Own.txn c.args.own.now) (g.N.Own.settled c.args.own.now) h c.args.parent.now c.args.name.now c.args.kind c.make_steps-made.result) (sym c.forget.ensures.settled) c.make_steps-made.ensures.meets
