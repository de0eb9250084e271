use Rattle.std.proofs.Common.{◌∙◌, sym, ap, map, string_bytes, refl, Bool}
use Rattle.std.proofs.lemmas.Result.{err_from_is_err_and}
use Rattle.clap.specs.Words.{App, found_of, rows_of}
use Rattle.fsfs_cli.specs.Commands.{tree_app}
use Rattle.fsfs_cli.specs.Words.{taken, tree_in, look_at, revision_in, path_in, asked_by}
use Rattle.fsfs_cli.specs.declared.request.Printed.TheVariants.{Tree}
use Rattle.fsfs_cli.specs.declared.verb.Verb.TheVariants as verb
use Rattle.fsfs_cli.proofs.ReadLemmas.{asked_with, bad_given, good_given, reads_fault}
use Rattle.fsfs_cli.proofs.read.read_tree.Goals as goal

pub returns-in_err-path : goal.returns-in_err-path
returns-in_err-path c =
    let words = map string_bytes c.args.words.now in
    let rows = rows_of (found_of c.in_ok-matches.matches) in
    let found = ap (λ (a : App). taken a words) (sym c.in_ok-tree_command.ensures.app) ∙ c.in_ok-matches.ensures.found in
    let says = asked_with tree_app words rows tree_in revision_in c.in_ok-revision.revision found c.in_ok-revision.ensures in
    let refused = bad_given (asked_by verb.Tree words) (tree_in rows c.in_ok-revision.revision) (path_in rows) c.in_err-path.field-0.0 says refl c.in_err-path.ensures in
    let p = err_from_is_err_and c.from_residual-in_err-path.result c.from_residual-in_err-path.ensures.1 in
    reads_fault (asked_by verb.Tree words) c.from_residual-in_err-path.result p.0 c.in_err-path.field-0.0 p.1 p.2 refused

pub returns : goal.returns
returns c =
    let words = map string_bytes c.args.words.now in
    let rows = rows_of (found_of c.in_ok-matches.matches) in
    let found = ap (λ (a : App). taken a words) (sym c.in_ok-tree_command.ensures.app) ∙ c.in_ok-matches.ensures.found in
    let says = asked_with tree_app words rows tree_in revision_in c.in_ok-revision.revision found c.in_ok-revision.ensures in (
      tree_in rows c.in_ok-revision.revision,
      says,
      (
        c.required-repos.ensures,
        (c.in_ok-path.path, good_given (path_in rows) c.in_ok-path.path c.in_ok-path.ensures, ap (λ (b : Bool). look_at c.in_ok-revision.revision (Tree b c.in_ok-path.path)) c.flag_given-show_ids.ensures),
      ),
    )
