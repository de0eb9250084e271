use Rattle.std.proofs.Common.{ap, ◌∙◌}
use Rattle.std.specs.String.{string_bytes}
use Rattle.fsfs_tree.specs.Answers.{last_name}
use Rattle.fsfs_look.proofs.LookAnswers.{last_of}
use Rattle.fsfs_verify.proofs.dirs.last_name.Goals as goal

pub returns-in-len1-up : goal.returns-in-len1-up
returns-in-len1-up c =
    c.deref.ensures ∙ ap string_bytes c.last-item.is ∙ last_of string_bytes c.names.result.now c.last-item.result c.in-len1-up.len_at_least ∙ ap last_name c.names.ensures
