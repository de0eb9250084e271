use Rattle.std.proofs.Common.{Option, sym, subst, arith}
use Rattle.fsfs_draft.specs.Drafts.{Kept}
use Rattle.fsfs_draft.specs.Entries.{IsWithin}
use Rattle.fsfs_draft.specs.Views.{kept_value}
use Rattle.fsfs_merge.specs.Clash.Readings.{IsKeptIn}
use Rattle.fsfs_merge.proofs.ReadingLemmas.{list_kept, list_lasting}
use Rattle.fsfs_merge.proofs.clash.readings.entries_of.Goals as goal

pub returns-in-Some-clause-told : goal.returns-in-Some-clause-told
returns-in-Some-clause-told g c = λ look top knows within.
    let k = kept_value c.in-Some.kept.now in
    let under : IsWithin top k.node.predecessor = subst (λ (o : Option Kept). IsKeptIn top o) (sym c.in-Some.ensures) within.kept in
    list_kept look (g.N.Own.folder c.args.own.now) c.args.id.now k c.entries_in.result (sym c.in-Some.ensures) (c.entries_in.ensures.told look top knows under)

pub returns-in-None-clause-told : goal.returns-in-None-clause-told
returns-in-None-clause-told g c = λ look top knows within.
    list_lasting look (g.N.Own.folder c.args.own.now) c.args.id.now c.lasting_entries.result (sym c.in-None.ensures) (c.lasting_entries.ensures.told look (λ n le. knows n (omega (arith, le, within.rev))))
