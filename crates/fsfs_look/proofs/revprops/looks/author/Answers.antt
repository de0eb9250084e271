use Rattle.std.proofs.Common.{ℕ, List, ◌++◌, Ok, refl, ap, ◌≡◌}
use Rattle.std.specs.Prelude.{codes, Result}
use Rattle.std.proofs.lemmas.Result.{err_from_is_err_and}
use Rattle.fsfs_revision.specs.declared.wrong.Wrong.{Wrong}
use Rattle.fsfs_look.specs.Revprops.Files.{Pairs}
use Rattle.fsfs_look.specs.Revprops.Texts.{value_of, author_name, value_line}
use Rattle.fsfs_look.proofs.LookLemmas.{no_props, props_written}
use Rattle.fsfs_look.proofs.revprops.looks.author.Goals as goal

abbrev Line : Pairs → Result (List ℕ) Wrong → Type 0
Line pairs r = r ≡ Ok (value_line (value_of pairs author_name))

pub returns-in_err-pairs-clause-read : goal.returns-in_err-pairs-clause-read
returns-in_err-pairs-clause-read g c =
    let e = err_from_is_err_and c.from_residual.result c.from_residual.ensures.1 in
    rw (e.1, e.2) (no_props Line (g.B.RevProps.may_read c.args.book.now) c.args.rev (g.S.Sink.written c.args.sink.now) c.in_err-pairs.field-0.0 c.in_err-pairs.ensures.read)

pub returns-clause-read : goal.returns-clause-read
returns-clause-read g c =
    let pairs = c.in_ok-pairs.pairs in
    let whole : List ℕ = value_line (value_of pairs author_name) in
    props_written Line (g.B.RevProps.may_read c.args.book.now) c.args.rev pairs c.in_ok-pairs.ensures.read whole (c.value.result.now ++ codes "\n") (g.S.Sink.written c.args.sink.now) (g.S.Sink.written c.write_line.new.sink) c.write_line.result refl
    (ap (λ (t : List ℕ). t ++ codes "\n") c.value.ensures) c.write_line.ensures.added c.write_line.ensures.part c.write_line.ensures.failed
