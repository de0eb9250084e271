use Rattle.std.proofs.Common.{◌∙◌, sym}
use Rattle.fsfs_merge.proofs.ListLemmas.{named_before}
use Rattle.fsfs_merge.proofs.clash.entries.sides_of.Goals as goal

pub returns-clause-listed : goal.returns-clause-listed
returns-clause-listed c = record { base = c.in_ok-base.ensures.listed; head = c.in_ok-head.ensures.listed; own = c.in_ok-own.ensures.listed }

pub returns-clause-before : goal.returns-clause-before
returns-clause-before c = λ home before name t h. named_before home name c.args.lists.base.items t before (sym (c.in_ok-base.ensures.listed name) ∙ h)
