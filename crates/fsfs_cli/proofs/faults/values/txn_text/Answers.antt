use Rattle.std.proofs.Common.{◌∙◌, codes, sym}
use Rattle.std.proofs.lemmas.List.{append_cancel_right}
use Rattle.fsfs_base.specs.Fields.TxnNames.{txn_text}
use Rattle.fsfs_cli.proofs.faults.values.txn_text.Goals as goal

pub returns : goal.returns
returns c =
    let cut = c.in-Some.ensures.cases in
    c.new.ensures ∙ cut.2 ∙ append_cancel_right _ (txn_text c.args.name.now.base c.args.name.now.number.number) (codes ".txn") (sym cut.1.1 ∙ c.as_str.ensures.text ∙ c.txn_entry-entry.ensures)

pub unreachable-requires : goal.unreachable-requires
unreachable-requires c = c.in-None.ensures.cases (txn_text c.args.name.now.base c.args.name.now.number.number) (c.as_str.ensures.text ∙ c.txn_entry-entry.ensures)
