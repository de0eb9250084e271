use Rattle.fsfs_script.proofs.ScriptLemmas.{scripts_decided}
use Rattle.fsfs_script.proofs.laws.scripts_are_decided.Goals as goal

pub returns : goal.returns
returns c = scripts_decided
