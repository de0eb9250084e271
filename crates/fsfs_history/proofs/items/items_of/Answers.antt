use Rattle.std.proofs.Common.{ℕ, List, Ok, Err, Option}
use Rattle.std.proofs.lemmas.Result.{err_from_is_err_and}
use Rattle.fsfs_revision.specs.declared.wrong.Wrong.{Wrong}
use Rattle.fsfs_revision.proofs.Answering.{stops, goes_on}
use Rattle.fsfs_noderev.specs.declared.changes.item.ChangeItem.{ChangeItem}
use Rattle.fsfs_stands.specs.Items.{DataOf, ItemsIn}
use Rattle.fsfs_history.specs.declared.data.ChangesData.{ChangesData}
use Rattle.fsfs_history.specs.declared.items.ReadItems.{ReadItems}
use Rattle.fsfs_history.proofs.items.items_of.Goals as goal

abbrev data_value : ChangesData → ℕ × List ℕ
data_value d = (d.begins, d.bytes.items)

abbrev items_value : ReadItems → List ChangeItem × Option Wrong
items_value r = (r.items.items, r.wrong)

pub returns-in_err-changes-clause-told : goal.returns-in_err-changes-clause-told
returns-in_err-changes-clause-told g c = λ look told.
    let p = err_from_is_err_and c.from_residual.result c.from_residual.ensures.1 in
    rw (p.1, p.2) (stops data_value items_value c.in_err-changes.field-0.0 (DataOf look c.args.rev) (ItemsIn c.args.rev) (c.in_err-changes.ensures.told look told))

pub returns-clause-told : goal.returns-clause-told
returns-clause-told g c = λ look told.
    goes_on items_value c.items_in.result (DataOf look c.args.rev) (ItemsIn c.args.rev) (data_value c.in_ok-changes.changes) (c.in_ok-changes.ensures.told look told) c.items_in.ensures.told
