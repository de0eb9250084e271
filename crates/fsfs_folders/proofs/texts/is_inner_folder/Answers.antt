use Rattle.std.proofs.Common.{rules}
use Rattle.fsfs_folders.proofs.TextLemmas.{inner_tested}
use Rattle.fsfs_folders.proofs.texts.is_inner_folder.Goals as goal

pub returns-then-not-is_empty : goal.returns-then-not-is_empty
returns-then-not-is_empty c = inner_tested c.args.name.now c.is_in_bench.result (search rules) (search rules)
