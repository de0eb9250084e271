use Rattle.fsfs_base.proofs.Spelling.{spelled, spelled_only}
use Rattle.fsfs_noderev.specs.Ids.{id_value}
use Rattle.fsfs_noderev.proofs.IdTexts.{id_spells}
use Rattle.fsfs_noderev.proofs.node_id.read_id.Goals as goal

pub returns-clause-found : goal.returns-clause-found
returns-clause-found c = spelled id_value id_spells c.args.text.now c.id_of.result c.id_of.ensures

pub returns-clause-only : goal.returns-clause-only
returns-clause-only c = spelled_only id_value id_spells c.args.text.now c.id_of.result c.id_of.ensures
