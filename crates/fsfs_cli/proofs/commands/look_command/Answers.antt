use Rattle.std.proofs.Common.{[]}
use Rattle.std.proofs.lemmas.Result.{IfOk-weaker}
use Rattle.fsfs_cli.specs.Commands.{bare, repos_rule}
use Rattle.fsfs_cli.proofs.ChainLemmas.{chain_more}
use Rattle.fsfs_cli.proofs.CommandLemmas.{told_more, look_repos}
use Rattle.fsfs_cli.proofs.commands.look_command.Goals as goal

pub returns-clause-app : goal.returns-clause-app
returns-clause-app c = IfOk-weaker c.arg.result _ _ (λ command added. told_more c.bare.result command c.repos.result (bare c.args.word.now) repos_rule added c.repos.ensures.needs.fits.global c.bare.ensures.app c.repos.ensures.rule) c.arg.ensures

pub returns-clause-chain : goal.returns-clause-chain
returns-clause-chain c = IfOk-weaker c.arg.result _ _ (λ command added. (c.repos.result, c.repos.ensures.needs, chain_more c.bare.result command [] c.repos.result c.bare.ensures.chain added)) c.arg.ensures

pub returns-clause-repos : goal.returns-clause-repos
returns-clause-repos c = IfOk-weaker c.arg.result _ _ (λ command added. look_repos command c.repos.result c.repos.ensures.needs (chain_more c.bare.result command [] c.repos.result c.bare.ensures.chain added)) c.arg.ensures
