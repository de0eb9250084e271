use Rattle.std.proofs.Common.{◌≡◌, not, List, ap, ◌∙◌, rules}
use Rattle.std.specs.List.{filter}
use Rattle.std.specs.String.{string_bytes}
use Rattle.std.proofs.lemmas.Fn.{filter_same}
use Rattle.fsfs_dag.specs.declared.directory.DirEntry.{DirEntry}
use Rattle.fsfs_dag.specs.Views.{entry_values}
use Rattle.std.specs.Ordering.{is_lt, nat_cmp}
use Rattle.std.specs.Cmp.Lexicographic.{slice_cmp}
use Rattle.fsfs_dag.specs.Listing.Lists.{is_from}
use Rattle.fsfs_dag.proofs.Values.{values_kept}
use Rattle.fsfs_dag.proofs.listing.leaf.from_on.Goals as goal

pub returns : goal.returns
returns c =
    let kept : c.retain.new.self.items ≡ filter (λ (e : DirEntry). not (is_lt (slice_cmp nat_cmp (string_bytes e.name) c.args.middle.now))) c.args.entries.items =
    filter_same _ (λ (e : DirEntry). not (is_lt (slice_cmp nat_cmp (string_bytes e.name) c.args.middle.now))) _ (λ x b f h. search rules) c.args.entries.items c.retain.new.self.items c.retain.ensures.filtered in
    ap (λ (l : List DirEntry). entry_values l) kept ∙ values_kept (is_from c.args.middle.now) c.args.entries.items
