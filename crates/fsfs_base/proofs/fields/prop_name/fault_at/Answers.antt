use Rattle.std.proofs.Common.{◌∙◌, sym, arith}
use Rattle.fsfs_base.proofs.PropNameTexts.{no_first, bad_first}
use Rattle.fsfs_base.proofs.fields.prop_name.fault_at.Goals as goal

pub returns-in-empty : goal.returns-in-empty
returns-in-empty c = no_first c.args.text.now (omega (arith, c.in-empty.len_below))

pub returns-else-begins_name : goal.returns-else-begins_name
returns-else-begins_name c = bad_first c.args.text.now _ (omega (arith, c.in-len1-up.len_at_least)) (sym c.begins_name.ensures ∙ c.if-begins_name.false)
