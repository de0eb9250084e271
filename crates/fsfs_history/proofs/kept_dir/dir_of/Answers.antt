use Rattle.fsfs_dag.specs.Views.{entry_values}
use Rattle.fsfs_history.proofs.kept_dir.dir_of.Goals as goal

pub returns-in-Ok-clause-told : goal.returns-in-Ok-clause-told
returns-in-Ok-clause-told c = λ look v at is read. (v, at, is, entry_values c.args.all.items, read, c.in-Ok.ensures)
