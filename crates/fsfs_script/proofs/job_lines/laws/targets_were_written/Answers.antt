use Rattle.fsfs_script.proofs.OpeningTexts.{to_found}
use Rattle.fsfs_script.proofs.job_lines.laws.targets_were_written.Goals as goal

pub returns : goal.returns
returns c = to_found
