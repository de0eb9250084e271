use Rattle.std.proofs.Common.{codes}
use Rattle.std.proofs.lemmas.Result.{IfOk-weaker}
use Rattle.clap.specs.Words.{with_rule}
use Rattle.fsfs_cli.specs.Commands.{bare, repos_rule, txns_rule}
use Rattle.fsfs_cli.proofs.CommandLemmas.{told_more, rmtxns_repos}
use Rattle.fsfs_cli.proofs.commands.rmtxns_command.Goals as goal

pub returns-clause-app : goal.returns-clause-app
returns-clause-app c =
    IfOk-weaker c.arg.result _ _ (λ command added.
    told_more c.in_ok-look_command.field-0 command c.txns.result (with_rule (bare (codes "rmtxns")) repos_rule) txns_rule added c.txns.ensures.fits.global c.in_ok-look_command.ensures.app c.txns.ensures.rule) c.arg.ensures

pub returns-clause-repos : goal.returns-clause-repos
returns-clause-repos c =
    let look = c.in_ok-look_command.ensures.chain in
    IfOk-weaker c.arg.result _ _ (λ command added. rmtxns_repos c.in_ok-look_command.field-0 command look.0 c.txns.result look.1 c.txns.ensures.fits look.2 added) c.arg.ensures
