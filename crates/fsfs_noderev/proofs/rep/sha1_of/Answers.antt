use Rattle.fsfs_base.proofs.Spelling.{spelled_back}
use Rattle.fsfs_noderev.proofs.RepTexts.{digest_spells}
use Rattle.fsfs_noderev.proofs.rep.sha1_of.Goals as goal

pub returns : goal.returns
returns c = spelled_back (λ d. d.bytes) (digest_spells 20) c.args.text.now c.read.result c.read.ensures.found c.read.ensures.only
