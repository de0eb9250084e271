use Rattle.std.proofs.Common.{sym, subst, ◌∙◌, rules, arith}
use Rattle.fsfs_dag.specs.Views.{entry_values}
use Rattle.fsfs_dag.specs.declared.listing.tree.Tree.{Tree}
use Rattle.fsfs_dag.specs.Listing.Lists.{NamesRise}
use Rattle.fsfs_dag.specs.Listing.Trees.{IsTreeOf}
use Rattle.fsfs_dag.proofs.Halves.{low_rises, high_rises, halves}
use Rattle.fsfs_dag.proofs.listing.tree.+tree_over.Goals as goal

pub tree_over-requires : goal.tree_over-requires
tree_over-requires t c =
    let rise : NamesRise (entry_values c.args.entries.now) = search rules in
    (omega (arith, c.split_at.ensures.front_len, c.if-count-le-MOST_IN_LEAF.false), low_rises _ c.args.entries.now c.split_at.result.0.now c.split_at.ensures.front rise)

pub tree_over-requires-2 : goal.tree_over-requires-2
tree_over-requires-2 t c =
    let rise : NamesRise (entry_values c.args.entries.now) = search rules in
    (omega (arith, c.split_at.ensures.back_len, c.if-count-le-MOST_IN_LEAF.false), high_rises _ c.args.entries.now c.split_at.result.1.now c.split_at.ensures.back rise)

pub returns : goal.returns
returns t c =
    let rise : NamesRise (entry_values c.args.entries.now) = search rules in
    let lows = c.split_at.result.0.now in
    let highs = c.split_at.result.1.now in
    let low = c.in_ok-low.low.value in
    let high = c.in_ok-high.high.value in
    let l : IsTreeOf (entry_values lows) low = subst (λ (x : Tree). IsTreeOf (entry_values lows) x) (sym c.in_ok-low.ensures.ok) c.in_ok-below.ensures in
    let h : IsTreeOf (entry_values highs) high = subst (λ (x : Tree). IsTreeOf (entry_values highs) x) (sym c.in_ok-high.ensures.ok) c.in_ok-above.ensures in
    let made = halves _ c.args.entries.now lows highs c.first-item.result c.in_ok-middle.middle.items low high c.split_at.ensures.front c.split_at.ensures.back rise c.in-len1-up.len_at_least c.first-item.is
    (c.in_ok-middle.ensures.items ∙ c.as_bytes.ensures.value) l h in
    record { sorted = made.0; all = made.1 }
