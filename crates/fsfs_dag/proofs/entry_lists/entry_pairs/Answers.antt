use Rattle.std.proofs.Common.{List, [], take, sym, subst}
use Rattle.std.proofs.lemmas.List.{take_all}
use Rattle.fsfs_revision.specs.Shows.Reading.{Pairs, DirEntry}
use Rattle.fsfs_dag.specs.declared.directory.DirEntry.{DirEntry as Listed}
use Rattle.fsfs_dag.specs.Entries.{LeadTo, HasFirsts}
use Rattle.fsfs_dag.specs.Views.{entry_values}
use Rattle.fsfs_dag.proofs.EntryLists.{taken_more}
use Rattle.fsfs_dag.proofs.EntryPairs.{lead_none}
use Rattle.fsfs_dag.proofs.FirstEntries.{firsts_none, firsts_list}
use Rattle.fsfs_dag.proofs.entry_lists.entry_pairs.Goals as goal

pub loop-entry-init : goal.loop-entry-init
loop-entry-init c = (subst (λ (ps : Pairs). LeadTo [] ps) (sym c.new-pairs.ensures) lead_none, subst (λ (ps : Pairs). HasFirsts [] ps) (sym c.new-pairs.ensures) firsts_none)

pub loop-entry-preserved : goal.loop-entry-preserved
loop-entry-preserved c =
    let earlier : List DirEntry = entry_values (take c.loop-entry.entry-index c.args.entries.now) in
    let more = sym (taken_more c.args.entries.now c.loop-entry.entry-index c.entry-item.result c.loop-entry-test.true c.entry-item.is) in (
      subst (λ (es : List DirEntry). LeadTo es c.put_first.new.pairs) more (c.in_ok-put_first.ensures.lead earlier c.loop-entry.invariant.0),
      subst (λ (es : List DirEntry). HasFirsts es c.put_first.new.pairs) more (c.in_ok-put_first.ensures.firsts earlier c.loop-entry.invariant.1),
    )

pub returns-clause-lead : goal.returns-clause-lead
returns-clause-lead c =
    let all = take_all c.loop-entry.entry-index c.args.entries.now c.loop-entry-test.false in
    subst (λ (es : List Listed). LeadTo (entry_values es) c.loop-entry.pairs) all c.loop-entry.invariant.0

pub returns-clause-lists : goal.returns-clause-lists
returns-clause-lists c =
    let all = take_all c.loop-entry.entry-index c.args.entries.now c.loop-entry-test.false in
    firsts_list (entry_values c.args.entries.now) c.loop-entry.pairs (subst (λ (es : List Listed). HasFirsts (entry_values es) c.loop-entry.pairs) all c.loop-entry.invariant.1)
