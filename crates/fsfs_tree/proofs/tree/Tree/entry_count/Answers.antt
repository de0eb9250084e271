use Rattle.std.proofs.Common.{◌≡◌, ◌∙◌, sym, ap, length, arith, Bool}
use Rattle.std.specs.List.{filter}
use Rattle.std.specs.FinMap as map
use Rattle.std.specs.Map.{keys_of}
use Rattle.std.specs.Map.Iter.{deref}
use Rattle.std.proofs.lemmas.Map.Iter.{rest_more}
use Rattle.fsfs_base.specs.Paths.{Path}
use Rattle.fsfs_tree.specs.Entries.{is_entry, entry_count}
use Rattle.fsfs_tree.proofs.TreeLemmas.{entries_is}
use Rattle.fsfs_tree.proofs.tree.Tree.entry_count.Goals as goal

pub loop-path-init : goal.loop-path-init
loop-path-init c =
    let es = c.self.inside.nodes.entries in
    let test : Path → Bool = is_entry c.args.directory.now in
    let these : c.into_iter-path-iterator.result ≡ keys_of es = c.into_iter-path-iterator.ensures.into_iter_gives ∙ c.keys-path-items.ensures.rest in
    let same : length (filter test (keys_of es)) ≡ entry_count c.args.self.now c.args.directory.now =
    sym (ap (λ xs. length (filter test (keys_of xs))) (entries_is es c.keys-path-items.ensures.ordered)) ∙ ap (λ m. length (filter test (map.keys m))) c.self.view_is in
    let total : length (filter test c.into_iter-path-iterator.result) ≡ entry_count c.args.self.now c.args.directory.now = ap (λ xs. length (filter test xs)) these ∙ same in
    record {
      counts = omega (arith, total);
      fits = omega (arith, c.keys-path-items.ensures.len, c.keys-path-items.ensures.fits, ap length c.into_iter-path-iterator.ensures.into_iter_gives);
    }

pub overflow_add-count : goal.overflow_add-count
overflow_add-count c =
    let left = rest_more deref c.loop-path.path-iterator c.next.new.self c.next.result c.in-Some.path c.in-Some.is c.next.ensures.steps in
    let fits = c.loop-path.invariant.fits in
    omega (arith, ap length left, fits)
