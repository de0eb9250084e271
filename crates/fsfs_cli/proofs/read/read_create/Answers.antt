use Rattle.std.proofs.Common.{◌∙◌, sym, ap, map, string_bytes, refl, []}
use Rattle.clap.specs.Words.{App, found_of, rows_of}
use Rattle.fsfs_cli.specs.Commands.{create_app}
use Rattle.fsfs_cli.specs.Words.{taken, create_in, shard_in}
use Rattle.fsfs_cli.proofs.ReadLemmas.{asked_with}
use Rattle.fsfs_cli.proofs.read.read_create.Goals as goal

pub returns : goal.returns
returns c =
    let words = map string_bytes c.args.words.now in
    let rows = rows_of (found_of c.in_ok-matches.matches) in
    let found = ap (λ (a : App). taken a words) (sym c.in_ok-create_command.ensures.app) ∙ c.in_ok-matches.ensures.found in
    (create_in rows c.in_ok-shard.shard, asked_with create_app words rows create_in shard_in c.in_ok-shard.shard found c.in_ok-shard.ensures, (c.required-repos.ensures, ([], refl, refl)))
