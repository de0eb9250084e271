use Rattle.std.proofs.Common.{◌≡◌, true, List, ap, ◌∙◌}
use Rattle.fsfs_revision.specs.Shows.Reading.{DirEntry as EntryValue}
use Rattle.fsfs_dag.specs.declared.directory.DirEntry.{DirEntry}
use Rattle.fsfs_base.specs.Paths.{PathName}
use Rattle.fsfs_dag.specs.Views.{entry_values}
use Rattle.fsfs_dag.specs.declared.listing.tree.Tree.{Tree}
use Rattle.fsfs_dag.specs.Listing.Lists.{kept_names, is_below, is_from}
use Rattle.fsfs_dag.specs.Listing.Trees.{values, is_sorted}
use Rattle.fsfs_dag.proofs.Branches.{sides_sorted, sides_split, same_split}
use Rattle.fsfs_dag.proofs.listing.tree.tree_of.Goals as goal

pub returns : goal.returns
returns c =
    let es = entry_values c.args.entries.items in
    let middle = c.in_ok-middle.middle.items in
    let low = c.in_ok-low.low.value in
    let high = c.in_ok-high.high.value in
    let lows : values low ≡ kept_names (is_below middle) es =
    ap (λ (t : Tree). values t) c.in_ok-low.ensures.ok ∙ c.below.ensures
    ∙ ap (λ (m : PathName). kept_names (is_below m) (entry_values c.in_ok-all.all.items)) c.deref-2.ensures.value
    ∙ ap (λ (l : List EntryValue). kept_names (is_below middle) l) (c.in_ok-all.ensures ∙ ap (λ (l : List DirEntry). entry_values l) c.deref.ensures.value) in
    let highs : values high ≡ kept_names (is_from middle) es = ap (λ (t : Tree). values t) c.in_ok-high.ensures.ok ∙ c.from_on.ensures ∙ ap (λ (m : PathName). kept_names (is_from m) es) c.deref-3.ensures.value in
    let low_sorted : is_sorted low ≡ true = ap (λ (t : Tree). is_sorted t) c.in_ok-low.ensures.ok in
    let high_sorted : is_sorted high ≡ true = ap (λ (t : Tree). is_sorted t) c.in_ok-high.ensures.ok in
    record {
      sorted = sides_sorted middle low high (sides_split middle es low high lows highs low_sorted high_sorted);
      same = same_split middle es low high lows highs;
    }
