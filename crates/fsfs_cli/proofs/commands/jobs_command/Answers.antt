use Rattle.std.proofs.Common.{codes}
use Rattle.std.proofs.lemmas.Result.{IfOk-weaker}
use Rattle.clap.specs.Words.{with_rule}
use Rattle.fsfs_cli.specs.Commands.{bare, repos_rule, workers_rule, pack_rule, check_rule}
use Rattle.fsfs_cli.proofs.CommandLemmas.{told_more, jobs_repos}
use Rattle.fsfs_cli.proofs.commands.jobs_command.Goals as goal

pub returns-clause-app : goal.returns-clause-app
returns-clause-app c =
    let look = with_rule (bare (codes "svnjobs")) repos_rule in
    let with_workers = told_more c.in_ok-look_command.field-0 c.in_ok-with_workers.with_workers c.workers.result look workers_rule c.in_ok-with_workers.ensures c.workers.ensures.fits.global c.in_ok-look_command.ensures.app c.workers.ensures.rule in
    let with_pack = told_more c.in_ok-with_workers.with_workers c.in_ok-with_pack.with_pack c.pack.result (with_rule look workers_rule) pack_rule c.in_ok-with_pack.ensures c.pack.ensures.fits.global with_workers c.pack.ensures.rule in
    IfOk-weaker c.arg-3.result _ _ (λ command added.
    told_more c.in_ok-with_pack.with_pack command c.check.result (with_rule (with_rule look workers_rule) pack_rule) check_rule added c.check.ensures.fits.global with_pack c.check.ensures.rule) c.arg-3.ensures

pub returns-clause-repos : goal.returns-clause-repos
returns-clause-repos c =
    let look = c.in_ok-look_command.ensures.chain in
    IfOk-weaker c.arg-3.result _ _ (λ command added.
    jobs_repos c.in_ok-look_command.field-0 c.in_ok-with_workers.with_workers c.in_ok-with_pack.with_pack command look.0 c.workers.result c.pack.result c.check.result look.1 c.workers.ensures.fits c.pack.ensures.fits c.check.ensures.fits look.2 c.in_ok-with_workers.ensures c.in_ok-with_pack.ensures added) c.arg-3.ensures
