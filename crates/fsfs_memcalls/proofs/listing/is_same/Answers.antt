use Rattle.std.proofs.Common.{sym}
use Rattle.fsfs_memcalls.proofs.StandingLemmas.{same_by}
use Rattle.fsfs_memcalls.proofs.listing.is_same.Goals as goal

pub returns : goal.returns
returns c = same_by c.is.result c.args.name.now c.args.other.now (λ e. sym (c.is.ensures.0 e)) (λ e. c.is.ensures.1 (sym e))
