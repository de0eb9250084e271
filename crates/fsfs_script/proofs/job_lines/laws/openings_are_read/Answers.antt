use Rattle.fsfs_script.proofs.OpeningTexts.{opening_again}
use Rattle.fsfs_script.proofs.job_lines.laws.openings_are_read.Goals as goal

pub returns : goal.returns
returns c = opening_again
