use Rattle.fsfs_base.proofs.Spelling.{spelled_back}
use Rattle.fsfs_noderev.specs.Ids.{id_value}
use Rattle.fsfs_noderev.proofs.IdTexts.{id_spells}
use Rattle.fsfs_noderev.proofs.changes.lines.id_of.Goals as goal

pub returns : goal.returns
returns c = spelled_back id_value id_spells c.args.text.now c.read_id.result c.read_id.ensures.found c.read_id.ensures.only
