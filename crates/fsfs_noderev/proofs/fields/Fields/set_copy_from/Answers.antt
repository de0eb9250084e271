use Rattle.std.proofs.Common.{refl, sym, ◌∙◌, inr}
use Rattle.fsfs_base.proofs.ResultLemmas.{none_of}
use Rattle.fsfs_noderev.proofs.fields.Fields.set_copy_from.Goals as goal

pub returns-in-None-clause-err : goal.returns-in-None-clause-err
returns-in-None-clause-err c = inr (none_of c.args.self.now.copy_from (sym c.is_some.ensures ∙ c.if-is_some.false), (λ x w. let e = sym c.in-None.is ∙ c.in_ok-source_of.ensures.only x w in absurd cc), refl)
