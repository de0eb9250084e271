use Rattle.fsfs_final.proofs.Turns.{puts_lay}
use Rattle.fsfs_final.proofs.write_final_laws.puts_lay.Goals as goal

pub returns : goal.returns
returns c = puts_lay
