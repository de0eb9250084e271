use Rattle.fsfs_base.proofs.Spelling.{spelled, spelled_only}
use Rattle.fsfs_noderev.specs.Reps.{rep_value}
use Rattle.fsfs_noderev.proofs.RepTexts.{rep_spells}
use Rattle.fsfs_noderev.proofs.rep.read_rep.Goals as goal

pub returns-clause-found : goal.returns-clause-found
returns-clause-found c = spelled rep_value rep_spells c.args.text.now c.rep_of.result c.rep_of.ensures

pub returns-clause-only : goal.returns-clause-only
returns-clause-only c = spelled_only rep_value rep_spells c.args.text.now c.rep_of.result c.rep_of.ensures
