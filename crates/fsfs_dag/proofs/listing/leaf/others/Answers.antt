use Rattle.std.proofs.Common.{◌≡◌, not, List, ap, ◌∙◌, rules}
use Rattle.std.specs.List.{filter}
use Rattle.std.specs.String.{string_bytes}
use Rattle.std.proofs.lemmas.Fn.{filter_same}
use Rattle.fsfs_base.specs.Paths.{same_name}
use Rattle.fsfs_dag.specs.declared.directory.DirEntry.{DirEntry}
use Rattle.fsfs_dag.specs.Views.{entry_values}
use Rattle.fsfs_dag.specs.Listing.Lists.{is_other}
use Rattle.fsfs_dag.proofs.Values.{values_kept}
use Rattle.fsfs_dag.proofs.listing.leaf.others.Goals as goal

pub returns : goal.returns
returns c =
    let kept : c.retain.new.self.items ≡ filter (λ (e : DirEntry). not (same_name (string_bytes e.name) c.args.name.now)) c.args.entries.items =
    filter_same _ (λ (e : DirEntry). not (same_name (string_bytes e.name) c.args.name.now)) _ (λ x b f h. search rules) c.args.entries.items c.retain.new.self.items c.retain.ensures.filtered in
    ap (λ (l : List DirEntry). entry_values l) kept ∙ values_kept (is_other c.args.name.now) c.args.entries.items
