use Rattle.fsfs_script.proofs.ScriptLemmas.{scripts_as_written}
use Rattle.fsfs_script.proofs.laws.scripts_are_as_written.Goals as goal

pub returns : goal.returns
returns c = scripts_as_written
