use Rattle.std.proofs.Common.{arith}
use Rattle.fsfs_layout.proofs.Writing.{decimal_line}
use Rattle.fsfs_layout.proofs.small_files.rev_files.write_rev_line.Goals as goal

pub returns-clause-text : goal.returns-clause-text
returns-clause-text c = decimal_line _ _ c.args.rev c.new-out.ensures.items (omega arith) c.in_ok-put_ended.ensures
