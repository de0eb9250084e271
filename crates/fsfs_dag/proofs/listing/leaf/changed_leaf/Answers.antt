use Rattle.std.proofs.Common.{Option, refl, sym, subst}
use Rattle.fsfs_base.specs.Paths.{PathName}
use Rattle.fsfs_dag.specs.Views.{entry_values}
use Rattle.fsfs_dag.specs.declared.listing.target.Target.{Target}
use Rattle.fsfs_dag.specs.Listing.Lists.{IsAmong, IsChangedList}
use Rattle.fsfs_dag.specs.Listing.Targets.{entry_of, target_entry}
use Rattle.fsfs_dag.proofs.Changing.{leaf_gone, leaf_put}
use Rattle.fsfs_dag.proofs.listing.leaf.changed_leaf.Goals as goal

pub returns-in-None : goal.returns-in-None
returns-in-None c =
    let name = c.args.name.now in
    let left = entry_values c.others-left.result.items in
    subst (λ (o : Option Target). IsChangedList (entry_values c.args.entries.now) left name (target_entry name o)) (sym c.in-None.is) (leaf_gone name (entry_values c.args.entries.now) (entry_values c.in_ok-all.all.items) left c.in_ok-all.ensures c.others-left.ensures)

pub returns-in_ok-put-in-Some : goal.returns-in_ok-put-in-Some
returns-in_ok-put-in-Some c =
    let target = c.in-Some.target in
    let name = c.args.name.now in
    let left = entry_values c.others-left.result.items in
    let new = entry_values c.in_ok-put-in-Some.put.items in
    let among : IsAmong left (entry_of name target) new = subst (λ (n : PathName). IsAmong left (entry_of n target) new) c.in_ok-name-in-Some.ensures.ok c.in_ok-put-in-Some.ensures in
    subst (λ (o : Option Target). IsChangedList (entry_values c.args.entries.now) new name (target_entry name o)) (sym c.in-Some.is)
    (leaf_put name (entry_values c.args.entries.now) (entry_values c.in_ok-all.all.items) left new (entry_of name target) c.in_ok-all.ensures c.others-left.ensures among refl)
