use Rattle.std.proofs.Common.{sym, subst}
use Rattle.fsfs_draft.specs.Drafts.{Folder}
use Rattle.fsfs_txn.specs.Opened.Properties.{MeetsPutProp}
use Rattle.fsfs_txn.specs.Opened.Leading.{LeadStill}
use Rattle.fsfs_txn.proofs.opened.properties.put_property.Goals as goal

pub returns-clause-meets : goal.returns-clause-meets
returns-clause-meets g c = subst (λ (h : Folder). MeetsPutProp (g.N.Own.txn c.args.own.now) (g.N.Own.settled c.args.own.now) h c.args.way.now c.args.name.now c.args.value c.property_steps-put.result) (sym c.forget.ensures.settled) c.property_steps-put.ensures.meets

pub returns-clause-still : goal.returns-clause-still
returns-clause-still g c = subst (λ (h : Folder). LeadStill (g.N.Own.txn c.args.own.now) (g.N.Own.settled c.args.own.now) h c.args.way.now c.property_steps-put.result) (sym c.forget.ensures.settled) c.property_steps-put.ensures.still
