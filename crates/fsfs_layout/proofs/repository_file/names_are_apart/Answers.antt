use Rattle.fsfs_layout.proofs.Apart.{names_apart}
use Rattle.fsfs_layout.proofs.repository_file.names_are_apart.Goals as goal

pub returns : goal.returns
returns c = names_apart c.args.layout
