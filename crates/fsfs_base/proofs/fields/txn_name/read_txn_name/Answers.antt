use Rattle.fsfs_base.proofs.TxnNameTexts.{name_found, name_only}
use Rattle.fsfs_base.proofs.fields.txn_name.read_txn_name.Goals as goal

pub returns-clause-found : goal.returns-clause-found
returns-clause-found c = name_found c.args.text.now c.plain_txn_name.result c.plain_txn_name.ensures

pub returns-clause-only : goal.returns-clause-only
returns-clause-only c = name_only c.args.text.now c.plain_txn_name.result c.plain_txn_name.ensures
