use Rattle.std.proofs.lemmas.Result.{err_from_is_err_and}
use Rattle.fsfs_dag.specs.TreeWalks.{left, total}
use Rattle.fsfs_dag.specs.Views.{home_of}
use Rattle.fsfs_dag.proofs.TreeWalkLemmas.{weighs}
use Rattle.fsfs_look.proofs.TextsLeft.{puts_file, puts_dir, puts_wrong}
use Rattle.fsfs_look.proofs.tree.put_node.Goals as goal

pub returns-in_err-enter-in-Dir-clause-told : goal.returns-in_err-enter-in-Dir-clause-told
returns-in_err-enter-in-Dir-clause-told g c = λ look knows.
    let k = c.in_ok-put_line.ensures in
    let p = err_from_is_err_and c.from_residual-in_err-enter-in-Dir.result c.from_residual-in_err-enter-in-Dir.ensures.1 in
    rw (p.1, p.2) (puts_wrong look c.args.walk.now.show_ids c.args.level c.args.name.now c.args.found.now.node (left c.args.walk.now.tree) (left c.enter.new.self) c.args.walk.now.lines.items c.put_line.new.lines.items k.0 k.1 k.2 c.in-Dir.is c.in_err-enter-in-Dir.field-0.0
    (c.in_err-enter-in-Dir.ensures.told look knows))

pub returns-in-File-clause-told : goal.returns-in-File-clause-told
returns-in-File-clause-told g c = λ look knows.
    let k = c.in_ok-put_line.ensures in
    puts_file look c.args.walk.now.show_ids c.args.level c.args.name.now c.args.found.now.node (left c.args.walk.now.tree) c.args.walk.now.lines.items c.put_line.new.lines.items k.0 k.1 k.2 c.in-File.is

pub returns-in-File-clause-total : goal.returns-in-File-clause-total
returns-in-File-clause-total g c = weighs (total (left c.args.walk.now.tree)) (home_of c.args.found.now.node)

pub returns-in_ok-enter-in-Dir-clause-told : goal.returns-in_ok-enter-in-Dir-clause-told
returns-in_ok-enter-in-Dir-clause-told g c = λ look knows.
    let k = c.in_ok-put_line.ensures in
    puts_dir look c.args.walk.now.show_ids c.args.level c.args.name.now c.args.found.now.node (left c.args.walk.now.tree) (left c.enter.new.self) c.args.walk.now.lines.items c.put_line.new.lines.items k.0 k.1 k.2 c.in-Dir.is
    (c.in_ok-enter-in-Dir.ensures.told look knows)
