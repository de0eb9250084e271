use Rattle.std.proofs.Common.{◌∙◌, sym, ap, map, string_bytes, refl, []}
use Rattle.clap.specs.Words.{App, found_of, rows_of}
use Rattle.fsfs_cli.specs.Commands.{revision_app}
use Rattle.fsfs_cli.specs.Words.{taken, printed_in, revision_in}
use Rattle.fsfs_cli.proofs.ReadLemmas.{asked_with}
use Rattle.fsfs_cli.proofs.read.read_printed.Goals as goal

pub returns : goal.returns
returns c =
    let words = map string_bytes c.args.words.now in
    let rows = rows_of (found_of c.in_ok-matches.matches) in
    let app = revision_app c.args.word.now in
    let found = ap (λ (a : App). taken a words) (sym c.in_ok-revision_command.ensures.app) ∙ c.in_ok-matches.ensures.found in
    let says = asked_with app words rows (printed_in c.args.printed) revision_in c.in_ok-revision.revision found c.in_ok-revision.ensures in
    (printed_in c.args.printed rows c.in_ok-revision.revision, says, (c.required-repos.ensures, ([], refl, refl)))
