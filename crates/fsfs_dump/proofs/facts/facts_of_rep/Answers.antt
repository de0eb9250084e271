use Rattle.fsfs_dump.proofs.FactLemmas.{facts_named}
use Rattle.fsfs_dump.proofs.facts.facts_of_rep.Goals as goal

pub returns-clause-bytes : goal.returns-clause-bytes
returns-clause-bytes g c = λ bytes e.
    let read = c.in_ok-sha1.ensures.bytes bytes e in
    (read.0, facts_named c.args.rep.now bytes read.0 _ read.1)
