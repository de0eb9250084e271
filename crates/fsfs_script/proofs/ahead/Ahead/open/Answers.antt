use Rattle.fsfs_script.specs.Places.{place_of}
use Rattle.fsfs_script.proofs.JobLemmas.{opens, opens_badly}
use Rattle.fsfs_script.proofs.ahead.Ahead.open.Goals as goal

pub returns-in-Err-clause-given : goal.returns-in-Err-clause-given
returns-in-Err-clause-given g c = rw c.stopped_at.ensures (opens_badly (g.S.Source.remaining c.args.source.now) c.args.self.now (place_of (g.S.Source.remaining c.opening.new.source) c.opening.new.self) c.args.is_full c.line-line.result c.in-Err.stop c.line-line.ensures c.in-Err.ensures.given)

pub returns-in-Ok-clause-given : goal.returns-in-Ok-clause-given
returns-in-Ok-clause-given g c = opens (place_of (g.S.Source.remaining c.args.source.now) c.args.self.now) (place_of (g.S.Source.remaining c.opening.new.source) c.opening.new.self) c.args.is_full c.in-Ok.opening c.in-Ok.ensures.given
