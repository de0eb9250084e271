use Rattle.std.proofs.Common.{◌≡◌, true, false, sym, ◌∙◌}
use Rattle.fsfs_dag.proofs.IdLemmas.{id_true, id_false}
use Rattle.fsfs_verify.proofs.items.names_it.Goals as goal

pub returns-then-is_revision_id-clause-yes : goal.returns-then-is_revision_id-clause-yes
returns-then-is_revision_id-clause-yes c = λ same lasting. id_true c.args.told.now c.args.id.now (sym c.same_id.ensures ∙ same)

pub returns-then-is_revision_id-clause-other : goal.returns-then-is_revision_id-clause-other
returns-then-is_revision_id-clause-other c = λ no. (sym c.is_revision_id.ensures ∙ c.if-is_revision_id.true, id_false c.args.told.now c.args.id.now (sym c.same_id.ensures ∙ no))

pub returns-clause-yes : goal.returns-clause-yes
returns-clause-yes c = λ yes lasting. absurd (let e : true ≡ false = sym lasting ∙ sym c.is_revision_id.ensures ∙ c.if-is_revision_id.false in cc)
