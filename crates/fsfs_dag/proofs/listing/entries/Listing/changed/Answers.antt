use Rattle.std.proofs.Common.{◌≡◌, ◌≤◌, ◌+◌, Bool, cond, length, sym, ap, subst, ◌∙◌, rules}
use Rattle.std.specs.Prelude.{is_some}
use Rattle.fsfs_revision.specs.Shows.Reading.{named}
use Rattle.fsfs_dag.specs.declared.listing.tree.Tree.{Tree}
use Rattle.fsfs_dag.specs.Listing.Targets.{target_entry}
use Rattle.fsfs_dag.specs.Listing.Trees.{values, is_sorted, IsChangedTree}
use Rattle.fsfs_dag.proofs.Lists.{some_mapped, some_entry}
use Rattle.fsfs_dag.proofs.listing.entries.Listing.changed.Goals as goal

pub invariant_of-result : goal.invariant_of-result
invariant_of-result c =
    let name = c.args.name.now in
    let target = c.args.target in
    let old = c.args.self.now.root.value in
    let new = c.in_ok-root.root in
    let one = subst (λ (x : Tree). IsChangedTree x new name target) c.deref-2.ensures c.in_ok-root.ensures in
    let had_is : c.is_some-had.result ≡ is_some c.find.result = search rules in
    let has_is : c.is_some.result ≡ is_some target = search rules in
    let had : c.is_some-had.result ≡ is_some (named name (values old)) = had_is ∙ some_mapped _ c.find.result _ (c.find.ensures ∙ ap (λ (x : Tree). named name (values x)) c.deref.ensures) in
    let has : c.is_some.result ≡ is_some (target_entry name target) = has_is ∙ some_entry name target in
    let counts : length (values new) + cond c.is_some-had.result 1 0 ≤ length (values old) + cond c.is_some.result 1 0 =
    subst (λ (b : Bool). length (values new) + cond c.is_some-had.result 1 0 ≤ length (values old) + cond b 1 0) (sym has)
    (subst (λ (b : Bool). length (values new) + cond b 1 0 ≤ length (values old) + cond (is_some (target_entry name target)) 1 0) (sym had) one.changed.count) in
    record {
      sorted = ap (λ (x : Tree). is_sorted x) c.in_ok-root-2.ensures.ok ∙ one.sorted;
      counted = subst (λ (x : Tree). length (values x) ≤ c.in_ok-most.most) (sym c.in_ok-root-2.ensures.ok) (c.in_ok-most.ensures (length (values old)) (length (values new)) c.args.self.now.counted counts);
    }
