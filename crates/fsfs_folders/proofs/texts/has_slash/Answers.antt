use Rattle.std.proofs.Common.{arith}
use Rattle.std.proofs.lemmas.Str.Pattern.{contains_char}
use Rattle.fsfs_folders.proofs.TextLemmas.{slash_tested}
use Rattle.fsfs_folders.proofs.texts.has_slash.Goals as goal

pub returns : goal.returns
returns c = slash_tested c.args.text.now c.contains.result (contains_char 47 c.args.text.now c.contains.result c.contains.ensures.cases (omega arith))
