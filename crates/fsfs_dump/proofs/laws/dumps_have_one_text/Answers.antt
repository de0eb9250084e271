use Rattle.fsfs_dump.proofs.OneText.{dumps_one}
use Rattle.fsfs_dump.proofs.laws.dumps_have_one_text.Goals as goal

pub returns : goal.returns
returns c = dumps_one
