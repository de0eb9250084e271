use Rattle.std.proofs.Common.{◌≡◌, ℕ, List, ap, ◌∙◌, rules}
use Rattle.std.specs.Prelude.{option_map}
use Rattle.fsfs_dag.specs.Views.{entry_value}
use Rattle.fsfs_history.specs.KeptDirs.{found_in}
use Rattle.fsfs_history.proofs.NameKeys.{through_entry}
use Rattle.fsfs_history.proofs.entries_by_name.EntriesByName.get.Goals as goal

pub returns : goal.returns
returns c =
    let is : c.as_bytes.result.now ≡ c.args.name.now = search rules in
    through_entry c.get.result ∙ ap (option_map entry_value) (c.get.ensures.value ∙ ap (λ (t : List ℕ). found_in t c.args.self.now.entries.entries) is)
