-- A purge by the name that a transaction has.
use Rattle.std.proofs.Common.{◌≡◌, subst}
use Rattle.std.specs.Prelude.{Result}
use Rattle.fsfs_base.specs.declared.fields.txn_name.TxnName.{TxnName}
use Rattle.fsfs_machine.specs.Kept.{IsIn}
use Rattle.fsfs_turn.specs.Views.{View}
use Rattle.fsfs_begin.specs.declared.purge_fault.PurgeFault.{PurgeFault}
use Rattle.fsfs_repo.specs.Txns.Purged.{PurgesAny}

pub purges_so : (knows : View → Type 0) (name other : TxnName) (result : Result (Unit {0}) PurgeFault) (v : View) → other ≡ name
    → (IsIn other.number.number v.given → PurgesAny knows other.number.number result v) → IsIn name.number.number v.given → PurgesAny knows name.number.number result v
purges_so knows name other result v same any = subst (λ (n : TxnName). IsIn n.number.number v.given → PurgesAny knows n.number.number result v) same any
