use Rattle.std.proofs.Common.{◌≡◌, ◌++◌, true, false, List, sym, ap, subst, ◌∙◌, rules}
use Rattle.fsfs_base.specs.Paths.{PathName}
use Rattle.fsfs_revision.specs.Shows.Reading.{DirEntry}
use Rattle.fsfs_dag.specs.declared.listing.tree.Tree.{Tree}
use Rattle.fsfs_dag.specs.Listing.Lists.{IsChangedList, is_below}
use Rattle.fsfs_dag.specs.Listing.Targets.{target_entry}
use Rattle.fsfs_dag.specs.Listing.Trees.{values, is_sorted, sorted_sides, IsChangedTree}
use Rattle.fsfs_dag.proofs.Branches.{sides_of, low_branch, high_branch}
use Rattle.fsfs_dag.proofs.listing.tree.Tree.+changed.Goals as goal

pub branch-alloc-requires : goal.branch-alloc-requires
branch-alloc-requires t c =
    let name = c.args.name.now in
    let middle = c.in-Branch.middle.items in
    let low = c.in-Branch.low.value in
    let high = c.in-Branch.high.value in
    let e = target_entry name c.args.target in
    let new = c.in_ok-low-in-Branch.low in
    let left = c.in_ok-low-in-Branch-2.low.value in
    let right = c.in_ok-high-in-Branch.high.value in
    let right_is : right ≡ high = search rules in
    let sorted : is_sorted c.args.self.now ≡ true = search rules in
    let s = sides_of middle low high (subst (λ (x : Tree). is_sorted x ≡ true) c.in-Branch.is sorted) in
    let this : is_below middle name ≡ true = ap (λ (m : PathName). is_below m name) (sym c.deref-in-Branch-2.ensures.value) ∙ sym c.is_below.ensures ∙ c.if-is_below.true in
    let one = subst (λ (x : Tree). IsChangedTree x new name c.args.target) c.deref-then-is_below.ensures c.in_ok-low-in-Branch.ensures in
    let made = low_branch middle low high s name e new one.sorted left right c.in_ok-low-in-Branch-2.ensures.ok right_is this one.changed in
    subst (λ (m : PathName). sorted_sides m left right ≡ true) (sym (c.in_ok-between-in-Branch.ensures.items ∙ c.deref-in-Branch.ensures.value)) made.0

pub returns-in_ok-made-in-Branch : goal.returns-in_ok-made-in-Branch
returns-in_ok-made-in-Branch t c =
    let name = c.args.name.now in
    let middle = c.in-Branch.middle.items in
    let low = c.in-Branch.low.value in
    let high = c.in-Branch.high.value in
    let e = target_entry name c.args.target in
    let new = c.in_ok-low-in-Branch.low in
    let left = c.in_ok-low-in-Branch-2.low.value in
    let right = c.in_ok-high-in-Branch.high.value in
    let right_is : right ≡ high = search rules in
    let sorted : is_sorted c.args.self.now ≡ true = search rules in
    let s = sides_of middle low high (subst (λ (x : Tree). is_sorted x ≡ true) c.in-Branch.is sorted) in
    let this : is_below middle name ≡ true = ap (λ (m : PathName). is_below m name) (sym c.deref-in-Branch-2.ensures.value) ∙ sym c.is_below.ensures ∙ c.if-is_below.true in
    let one = subst (λ (x : Tree). IsChangedTree x new name c.args.target) c.deref-then-is_below.ensures c.in_ok-low-in-Branch.ensures in
    let made = low_branch middle low high s name e new one.sorted left right c.in_ok-low-in-Branch-2.ensures.ok right_is this one.changed in
    let all = c.in_ok-made-in-Branch.ensures in
    record {
      sorted = all.sorted;
      changed = subst (λ (x : Tree). IsChangedList (values x) (values c.in_ok-made-in-Branch.made) name e) (sym c.in-Branch.is)
          (subst (λ (l : List DirEntry). IsChangedList (values low ++ values high) l name e) (sym all.all) made.1);
    }

pub returns-in_ok-made-in-Branch-2 : goal.returns-in_ok-made-in-Branch-2
returns-in_ok-made-in-Branch-2 t c =
    let name = c.args.name.now in
    let middle = c.in-Branch.middle.items in
    let low = c.in-Branch.low.value in
    let high = c.in-Branch.high.value in
    let e = target_entry name c.args.target in
    let new = c.in_ok-high-in-Branch-2.high in
    let left = c.in_ok-low-in-Branch-3.low.value in
    let right = c.in_ok-high-in-Branch-3.high.value in
    let left_is : left ≡ low = search rules in
    let sorted : is_sorted c.args.self.now ≡ true = search rules in
    let s = sides_of middle low high (subst (λ (x : Tree). is_sorted x ≡ true) c.in-Branch.is sorted) in
    let this : is_below middle name ≡ false = ap (λ (m : PathName). is_below m name) (sym c.deref-in-Branch-2.ensures.value) ∙ sym c.is_below.ensures ∙ c.if-is_below.false in
    let one = subst (λ (x : Tree). IsChangedTree x new name c.args.target) c.deref-else-is_below.ensures c.in_ok-high-in-Branch-2.ensures in
    let made = high_branch middle low high s name e new one.sorted left right left_is c.in_ok-high-in-Branch-3.ensures.ok this one.changed in
    let all = c.in_ok-made-in-Branch-2.ensures in
    record {
      sorted = all.sorted;
      changed = subst (λ (x : Tree). IsChangedList (values x) (values c.in_ok-made-in-Branch-2.made) name e) (sym c.in-Branch.is)
          (subst (λ (l : List DirEntry). IsChangedList (values low ++ values high) l name e) (sym all.all) made.1);
    }
