use Rattle.std.proofs.Common.{sym, ◌∙◌}
use Rattle.fsfs_history.proofs.DirLemmas.{place_is}
use Rattle.fsfs_history.proofs.kept_dir.keep_dir.Goals as goal

pub returns-then-is_at-clause-place : goal.returns-then-is_at-clause-place
returns-then-is_at-clause-place g c = place_is c.args.kept.now c.args.rev c.args.path (sym c.is_at.ensures ∙ c.if-is_at.true)

pub returns-clause-dir : goal.returns-clause-dir
returns-clause-dir g c = λ look knows kept. c.in_ok-kept.ensures.told look knows
