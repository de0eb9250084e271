use Rattle.std.proofs.Common.{codes}
use Rattle.std.proofs.lemmas.Result.{IfOk-weaker}
use Rattle.clap.specs.Words.{with_rule}
use Rattle.fsfs_cli.specs.Commands.{bare, repos_rule, path_rule, revision_rule}
use Rattle.fsfs_cli.proofs.CommandLemmas.{told_more, history_repos}
use Rattle.fsfs_cli.proofs.commands.history_command.Goals as goal

pub returns-clause-app : goal.returns-clause-app
returns-clause-app c =
    let look = with_rule (bare (codes "history")) repos_rule in
    let with_path = told_more c.in_ok-look_command.field-0 c.in_ok-with_path.with_path c.path.result look path_rule c.in_ok-with_path.ensures c.path.ensures.fits.global c.in_ok-look_command.ensures.app c.path.ensures.rule in
    IfOk-weaker c.arg-2.result _ _ (λ command added.
    told_more c.in_ok-with_path.with_path command c.revision.result (with_rule look path_rule) revision_rule added c.revision.ensures.fits.global with_path c.revision.ensures.rule) c.arg-2.ensures

pub returns-clause-repos : goal.returns-clause-repos
returns-clause-repos c =
    let look = c.in_ok-look_command.ensures.chain in
    IfOk-weaker c.arg-2.result _ _ (λ command added.
    history_repos c.in_ok-look_command.field-0 c.in_ok-with_path.with_path command look.0 c.path.result c.revision.result
    look.1 c.path.ensures.fits c.revision.ensures.fits look.2 c.in_ok-with_path.ensures added) c.arg-2.ensures
