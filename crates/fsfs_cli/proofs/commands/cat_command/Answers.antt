use Rattle.std.proofs.Common.{codes}
use Rattle.std.proofs.lemmas.Result.{IfOk-weaker}
use Rattle.clap.specs.Words.{with_rule}
use Rattle.fsfs_cli.specs.Commands.{bare, repos_rule, needed_path_rule, revision_rule}
use Rattle.fsfs_cli.proofs.CommandLemmas.{told_more, cat_repos, cat_path}
use Rattle.fsfs_cli.proofs.commands.cat_command.Goals as goal

pub returns-clause-app : goal.returns-clause-app
returns-clause-app c =
    let look = with_rule (bare (codes "cat")) repos_rule in
    let with_path = told_more c.in_ok-look_command.field-0 c.in_ok-with_path.with_path c.needed_path.result look needed_path_rule c.in_ok-with_path.ensures c.needed_path.ensures.needs.fits.global c.in_ok-look_command.ensures.app c.needed_path.ensures.rule in
    IfOk-weaker c.arg-2.result _ _ (λ command added.
    told_more c.in_ok-with_path.with_path command c.revision.result (with_rule look needed_path_rule) revision_rule added c.revision.ensures.fits.global with_path c.revision.ensures.rule) c.arg-2.ensures

pub returns-clause-repos : goal.returns-clause-repos
returns-clause-repos c =
    let look = c.in_ok-look_command.ensures.chain in
    IfOk-weaker c.arg-2.result _ _ (λ command added.
    cat_repos c.in_ok-look_command.field-0 c.in_ok-with_path.with_path command look.0 c.needed_path.result c.revision.result
    look.1 c.needed_path.ensures.needs c.revision.ensures.fits look.2 c.in_ok-with_path.ensures added) c.arg-2.ensures

pub returns-clause-path : goal.returns-clause-path
returns-clause-path c =
    let look = c.in_ok-look_command.ensures.chain in
    IfOk-weaker c.arg-2.result _ _ (λ command added.
    cat_path c.in_ok-look_command.field-0 c.in_ok-with_path.with_path command look.0 c.needed_path.result c.revision.result
    look.1 c.needed_path.ensures.needs c.revision.ensures.fits look.2 c.in_ok-with_path.ensures added) c.arg-2.ensures
