use Rattle.std.proofs.Common.{◌≡◌, rules, sym, ap, ◌∙◌}
use Rattle.fsfs_folders.specs.Prototypes.{is_elsewhere}
use Rattle.fsfs_folders.proofs.TxnEntries.{same_tested}
use Rattle.fsfs_base.specs.Files.{same_text}
use Rattle.fsfs_folders.proofs.benches.bench.FolderBench.is_proto.Goals as goal

pub returns-in-Some : goal.returns-in-Some
returns-in-Some g c = same_tested c.is.result c.args.file.now c.new.result c.is.ensures ∙ ap (same_text c.args.file.now) c.new.ensures ∙ sym (ap (λ o. is_elsewhere o c.args.file.now) c.in-Some.is)
