use Rattle.fsfs_script.proofs.Decided.{decided}
use Rattle.fsfs_script.proofs.laws.answers_are_decided.Goals as goal

pub returns : goal.returns
returns c = decided
