use Rattle.std.proofs.Common.{◌∙◌, sym, ap, map, string_bytes, refl, []}
use Rattle.clap.specs.Words.{App, found_of, rows_of}
use Rattle.fsfs_cli.specs.Commands.{rmtxns_app}
use Rattle.fsfs_cli.specs.Words.{taken, rmtxns_in, txns_in}
use Rattle.fsfs_cli.proofs.ReadLemmas.{asked_with}
use Rattle.fsfs_cli.proofs.read.read_rmtxns.Goals as goal

pub returns : goal.returns
returns c =
    let words = map string_bytes c.args.words.now in
    let rows = rows_of (found_of c.in_ok-matches.matches) in
    let found = ap (λ (a : App). taken a words) (sym c.in_ok-rmtxns_command.ensures.app) ∙ c.in_ok-matches.ensures.found in
    (rmtxns_in rows c.in_ok-names.names, asked_with rmtxns_app words rows rmtxns_in txns_in c.in_ok-names.names found c.in_ok-names.ensures, (c.required-repos.ensures, ([], refl, refl)))
