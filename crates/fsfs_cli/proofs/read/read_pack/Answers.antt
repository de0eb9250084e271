use Rattle.std.proofs.Common.{◌∙◌, sym, ap, map, string_bytes, refl, []}
use Rattle.std.specs.Prelude.{option_map}
use Rattle.clap.specs.Words.{App, found_of, rows_of}
use Rattle.fsfs_cli.specs.Words.{taken, pathless}
use Rattle.fsfs_cli.specs.declared.request.Task.TheVariants.{Pack}
use Rattle.fsfs_cli.proofs.read.read_pack.Goals as goal

pub returns : goal.returns
returns c =
    let words = map string_bytes c.args.words.now in
    let rows = rows_of (found_of c.in_ok-matches.matches) in
    let found = ap (λ (a : App). taken a words) (sym c.in_ok-look_command.ensures.app) ∙ c.in_ok-matches.ensures.found in
    (pathless rows Pack, ap (option_map (λ r. pathless r Pack)) found, (c.required-repos.ensures, ([], refl, refl)))
