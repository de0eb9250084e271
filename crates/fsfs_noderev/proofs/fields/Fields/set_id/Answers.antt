use Rattle.std.proofs.Common.{not, refl, sym, ap, ◌∙◌, inr}
use Rattle.fsfs_base.proofs.ResultLemmas.{none_of}
use Rattle.fsfs_noderev.specs.Ids.{IsId, id_value}
use Rattle.fsfs_noderev.specs.Fields.{IsIdText}
use Rattle.fsfs_noderev.proofs.Filling.{filled, no_value}
use Rattle.fsfs_noderev.proofs.fields.Fields.set_id.Goals as goal

pub returns-then-is_none-clause-err : goal.returns-then-is_none-clause-err
returns-then-is_none-clause-err c = inr (none_of c.args.self.now.id (sym c.is_some.ensures ∙ c.if-is_some.false), no_value IsId id_value c.args.value.now c.read_id-self.result (c.is_none.ensures ∙ ap not c.if-is_none.true) c.read_id-self.ensures.only, refl)

pub returns-clause-ok : goal.returns-clause-ok
returns-clause-ok c = filled IsIdText c.args.value.now c.args.self.now.id c.read_id-self.result (λ o. record c.args.self.now { id = o }) (none_of c.args.self.now.id (sym c.is_some.ensures ∙ c.if-is_some.false)) (c.is_none.ensures ∙ ap not c.if-is_none.false) c.read_id-self.ensures.found
