use Rattle.std.proofs.Common.{sym, arith}
use Rattle.fsfs_draft.specs.Views.{kept_value}
use Rattle.fsfs_merge.proofs.ReadingLemmas.{facts_kept, facts_lasting}
use Rattle.fsfs_merge.proofs.clash.readings.facts_in.Goals as goal

pub returns-in-Some-clause-told : goal.returns-in-Some-clause-told
returns-in-Some-clause-told g c = λ look top knows within.
    facts_kept look (g.N.Own.folder c.args.own.now) c.args.id.now (kept_value c.in-Some.kept.now) c.facts_of.result (sym c.in-Some.ensures) c.facts_of.ensures

pub returns-in-None-clause-told : goal.returns-in-None-clause-told
returns-in-None-clause-told g c = λ look top knows within.
    facts_lasting look (g.N.Own.folder c.args.own.now) c.args.id.now c.lasting_facts.result (sym c.in-None.ensures) (c.lasting_facts.ensures.told look (λ n le. knows n (omega (arith, le, within.rev))))
