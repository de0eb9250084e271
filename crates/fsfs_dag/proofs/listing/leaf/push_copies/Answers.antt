use Rattle.std.proofs.Common.{List, ◌++◌, sym, ap, ◌∙◌, arith, append-nil}
use Rattle.std.proofs.lemmas.List.{take_all}
use Rattle.fsfs_dag.specs.declared.directory.DirEntry.{DirEntry}
use Rattle.fsfs_dag.specs.Views.{entry_values}
use Rattle.fsfs_dag.proofs.Values.{copies_more}
use Rattle.fsfs_dag.proofs.listing.leaf.push_copies.Goals as goal

pub loop-entry-init : goal.loop-entry-init
loop-entry-init c = sym (append-nil (entry_values c.args.all.now.items))

pub loop-entry-preserved : goal.loop-entry-preserved
loop-entry-preserved c =
    copies_more c.args.all.now.items c.loop-entry.all.items c.push.new.self.items c.args.entries.now c.loop-entry.entry-index c.in_ok-copy.copy c.entry-item.result c.loop-entry.invariant c.in_ok-push.ensures.items c.in_ok-copy.ensures c.loop-entry-test.true c.entry-item.is

pub returns : goal.returns
returns c = c.loop-entry.invariant ∙ ap (λ (l : List DirEntry). entry_values c.args.all.now.items ++ entry_values l) (take_all c.loop-entry.entry-index c.args.entries.now (omega (arith, c.loop-entry-test.false)))
