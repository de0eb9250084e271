use Rattle.std.proofs.Common.{◌≡◌, ◌∷◌, ◌++◌, take, drop, List, ap, ◌∙◌, rules}
use Rattle.fsfs_dag.specs.declared.directory.DirEntry.{DirEntry}
use Rattle.fsfs_dag.specs.Views.{entry_values}
use Rattle.fsfs_dag.proofs.Values.{values_parts, values_insert}
use Rattle.fsfs_dag.proofs.listing.leaf.put_among.Goals as goal

pub returns-in-Ok : goal.returns-in-Ok
returns-in-Ok c =
    let all = c.args.entries.items in
    let at = c.place_of-at.result in
    let put : c.insert.new.self.items ≡ take at all ++ c.args.entry ∷ drop at all = search rules in
    record {
      front = entry_values (take at all);
      back = entry_values (drop at all);
      parts = values_parts at all;
      is = ap (λ (l : List DirEntry). entry_values l) put ∙ values_insert at all c.args.entry;
    }
