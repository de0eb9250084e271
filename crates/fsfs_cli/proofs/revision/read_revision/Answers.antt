use Rattle.std.proofs.Common.{sym, ◌∙◌, ap}
use Rattle.std.specs.Result.{result_ok}
use Rattle.fsfs_cli.proofs.NumberLemmas.{revision_parsed, revision_is, revision_none}
use Rattle.fsfs_cli.proofs.revision.read_revision.Goals as goal

pub returns-then-is_revision : goal.returns-then-is_revision
returns-then-is_revision c =
    let is = sym c.is_revision.ensures ∙ c.if-is_revision.true in
    let parsed = revision_parsed c.args.text.now c.parse.result c.parse.ensures.value.0 is in
    c.ok.ensures.value ∙ ap result_ok parsed ∙ sym (revision_is c.args.text.now is)

pub returns-else-is_revision : goal.returns-else-is_revision
returns-else-is_revision c = sym (revision_none c.args.text.now (sym c.is_revision.ensures ∙ c.if-is_revision.false))
