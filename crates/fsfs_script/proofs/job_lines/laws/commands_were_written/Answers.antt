use Rattle.fsfs_script.proofs.LineTexts.{line_found}
use Rattle.fsfs_script.proofs.job_lines.laws.commands_were_written.Goals as goal

pub returns : goal.returns
returns c = line_found
