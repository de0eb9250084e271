use Rattle.std.proofs.Common.{Option, sym, subst}
use Rattle.fsfs_base.specs.declared.kind.Kind.{Kind}
use Rattle.fsfs_revision.specs.Damage.Readings.{Answers}
use Rattle.fsfs_stands.specs.ChangedTexts.{KindOf}
use Rattle.fsfs_history.proofs.KindLemmas.{same}
use Rattle.fsfs_history.proofs.kinds.kind_of.Goals as goal

pub returns-in-None-clause-told : goal.returns-in-None-clause-told
returns-in-None-clause-told g c = λ look knows.
    subst (λ (o : Option Kind). Answers same (KindOf look c.args.rev c.args.item.now o) c.kind_unsaid.result) (sym c.in-None.is) (c.kind_unsaid.ensures.told look knows)
