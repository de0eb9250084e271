use Rattle.fsfs_script.proofs.OpeningTexts.{opening_found}
use Rattle.fsfs_script.proofs.job_lines.laws.openings_were_written.Goals as goal

pub returns : goal.returns
returns c = opening_found
