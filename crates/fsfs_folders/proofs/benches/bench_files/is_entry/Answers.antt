use Rattle.std.proofs.Common.{◌≡◌, rules, ap, sym, ◌∙◌}
use Rattle.fsfs_folders.proofs.TextLemmas.{entry_tested}
use Rattle.fsfs_folders.proofs.benches.bench_files.is_entry.Goals as goal

pub returns-then-not-is_empty : goal.returns-then-not-is_empty
returns-then-not-is_empty c = entry_tested c.args.name.now c.has_slash.result (search rules) (search rules) (search rules)
