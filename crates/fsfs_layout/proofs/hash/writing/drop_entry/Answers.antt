use Rattle.fsfs_layout.proofs.ManyLoops.{children_without}
use Rattle.fsfs_layout.proofs.hash.writing.drop_entry.Goals as goal

pub returns-clause-children : goal.returns-clause-children
returns-clause-children c = λ pairs w. children_without _ _ c.args.name.now pairs w c.in_ok-put_field.ensures
