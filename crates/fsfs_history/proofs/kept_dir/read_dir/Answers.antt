use Rattle.std.proofs.Common.{arith}
use Rattle.fsfs_look.proofs.BelowHome.{stands_within}
use Rattle.fsfs_history.proofs.kept_dir.read_dir.Goals as goal

pub returns-in-Ok-clause-told : goal.returns-in-Ok-clause-told
returns-in-Ok-clause-told g c = λ look knows at.
    let v = c.args.found.now.node in
    let within = stands_within look c.args.rev c.args.path v at in
    c.dir_of.ensures.told look v at c.requires (c.in-Ok.ensures.told look (λ r lower. knows r (omega (arith, lower, within))))
