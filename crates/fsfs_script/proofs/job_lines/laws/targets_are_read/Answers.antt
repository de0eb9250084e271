use Rattle.fsfs_script.proofs.OpeningTexts.{to_again}
use Rattle.fsfs_script.proofs.job_lines.laws.targets_are_read.Goals as goal

pub returns : goal.returns
returns c = to_again
