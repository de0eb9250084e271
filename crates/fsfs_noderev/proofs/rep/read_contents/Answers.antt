use Rattle.fsfs_base.proofs.Spelling.{spelled, spelled_only}
use Rattle.fsfs_noderev.specs.Reps.{contents_value}
use Rattle.fsfs_noderev.proofs.RepTexts.{contents_spells}
use Rattle.fsfs_noderev.proofs.rep.read_contents.Goals as goal

pub returns-clause-found : goal.returns-clause-found
returns-clause-found c = spelled contents_value contents_spells c.args.text.now c.contents_of.result c.contents_of.ensures

pub returns-clause-only : goal.returns-clause-only
returns-clause-only c = spelled_only contents_value contents_spells c.args.text.now c.contents_of.result c.contents_of.ensures
