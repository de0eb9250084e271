use Rattle.fsfs_script.proofs.LinesAgain.{line_again}
use Rattle.fsfs_script.proofs.job_lines.laws.commands_are_read.Goals as goal

pub returns : goal.returns
returns c = line_again
