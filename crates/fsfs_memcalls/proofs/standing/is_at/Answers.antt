use Rattle.std.proofs.Common.{◌≡◌}
use Rattle.fsfs_memcalls.proofs.StandingLemmas.{same_by}
use Rattle.fsfs_memcalls.proofs.standing.is_at.Goals as goal

pub returns : goal.returns
returns c = same_by c.are_same.result c.args.text.now c.args.path.now (λ e. let h = c.are_same.ensures.0 e in cc)
    (λ e. let h : c.as_bytes.result.now ≡ c.args.text.now = cc in c.are_same.ensures.1 h)
