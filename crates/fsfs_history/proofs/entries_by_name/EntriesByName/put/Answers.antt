use Rattle.std.proofs.Common.{List, ap, ◌∙◌}
use Rattle.std.specs.Prelude.{option_map}
use Rattle.std.specs.String.{string_bytes}
use Rattle.fsfs_dag.specs.Views.{entry_value}
use Rattle.fsfs_dag.specs.declared.directory.DirEntry.{DirEntry}
use Rattle.fsfs_history.proofs.TextKeys.{Key}
use Rattle.fsfs_history.specs.KeptDirs.{found_in}
use Rattle.fsfs_history.proofs.NameKeys.{put_value}
use Rattle.fsfs_history.proofs.entries_by_name.EntriesByName.put.Goals as goal

pub returns : goal.returns
returns c = λ name.
    ap (λ (es : List (Key × DirEntry)). option_map entry_value (found_in name es)) c.in_ok-insert.ensures.entries
    ∙ put_value name c.args.self.now.entries.entries c.in_ok-name.name c.args.entry (string_bytes c.args.entry.name) c.in_ok-name.ensures
