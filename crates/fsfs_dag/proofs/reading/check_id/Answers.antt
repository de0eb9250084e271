use Rattle.std.proofs.Common.{refl, sym, ◌∙◌, Err, subst, ap, inl}
use Rattle.fsfs_revision.specs.declared.damage.RevOffset.{RevOffset}
use Rattle.fsfs_revision.specs.declared.damage.DamageKind.TheVariants.{OtherId}
use Rattle.fsfs_revision.specs.declared.wrong.ReadError.{ReadError}
use Rattle.fsfs_revision.specs.declared.wrong.ReadError.TheVariants.{Wrong}
use Rattle.fsfs_revision.specs.Damage.Damages.{damaged}
use Rattle.fsfs_revision.specs.Damage.Readings.{Answers}
use Rattle.fsfs_revision.specs.Shows.Reading.{HasId}
use Rattle.fsfs_dag.proofs.IdLemmas.{id_true, id_false}
use Rattle.fsfs_dag.proofs.reading.check_id.Goals as goal

pub returns-then-same_id-clause-told : goal.returns-then-same_id-clause-told
returns-then-same_id-clause-told c = (refl, id_true c.args.node.now.id c.args.id.now (sym c.same_id.ensures ∙ c.if-same_id.true))

pub returns-else-same_id-clause-told : goal.returns-else-same_id-clause-told
returns-else-same_id-clause-told c =
    let is = c.damaged.ensures ∙ ap (λ (a : RevOffset). Wrong (damaged a OtherId)) c.offset_of.ensures in
    subst (λ (e : ReadError). Answers (λ (u : Unit {0}). c.args.node.now) (HasId c.args.id.now c.args.node.now) (Err e)) (sym is) (inl (id_false c.args.node.now.id c.args.id.now (sym c.same_id.ensures ∙ c.if-same_id.false), refl))
