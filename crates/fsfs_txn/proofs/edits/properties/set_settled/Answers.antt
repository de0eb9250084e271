use Rattle.std.proofs.Common.{subst}
use Rattle.fsfs_base.specs.declared.fields.txn_name.TxnName.{TxnName}
use Rattle.fsfs_draft.specs.Drafts.{Folder}
use Rattle.fsfs_txn.specs.Opened.Properties.{MeetsPutProp}
use Rattle.fsfs_txn.proofs.Leading.{same_all, same_still}
use Rattle.fsfs_txn.proofs.edits.properties.set_settled.Goals as goal

pub returns-clause-meets : goal.returns-clause-meets
returns-clause-meets g c =
    subst (λ (f : Folder). MeetsPutProp (g.N.Own.txn c.args.own.now) f (g.N.Own.settled c.put_property.new.own) c.args.way.now c.args.name.now c.args.value c.put_property.result) c.forget.ensures.settled
    (subst (λ (t : TxnName). MeetsPutProp t (g.N.Own.settled c.forget.new.self) (g.N.Own.settled c.put_property.new.own) c.args.way.now c.args.name.now c.args.value c.put_property.result) c.forget.ensures.name c.put_property.ensures.meets)

pub returns-clause-all : goal.returns-clause-all
returns-clause-all g c = same_all (g.N.Own.txn c.forget.new.self) (g.N.Own.txn c.args.own.now) (g.N.Own.settled c.forget.new.self) (g.N.Own.settled c.args.own.now) c.args.way.now c.put_property.result c.forget.ensures.name c.forget.ensures.settled c.put_property.ensures.all

pub returns-clause-still : goal.returns-clause-still
returns-clause-still g c =
    same_still (g.N.Own.txn c.forget.new.self) (g.N.Own.txn c.args.own.now) (g.N.Own.settled c.forget.new.self) (g.N.Own.settled c.args.own.now) (g.N.Own.settled c.put_property.new.own) c.args.way.now c.put_property.result c.forget.ensures.name c.forget.ensures.settled c.put_property.ensures.still
