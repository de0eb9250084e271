use Rattle.std.proofs.Common.{◌≡◌, true, false, sym, ap, subst, ◌∙◌, rules}
use Rattle.fsfs_revision.specs.Shows.Reading.{named}
use Rattle.fsfs_dag.specs.declared.listing.tree.Tree.{Tree}
use Rattle.fsfs_base.specs.Paths.{PathName}
use Rattle.fsfs_dag.specs.Listing.Lists.{is_below}
use Rattle.fsfs_dag.specs.Listing.Trees.{values, is_sorted}
use Rattle.fsfs_dag.proofs.Branches.{sides_of, found_low, found_high}
use Rattle.fsfs_dag.proofs.listing.tree.Tree.+find.Goals as goal

pub returns-then-is_below : goal.returns-then-is_below
returns-then-is_below t c =
    let name = c.args.name.now in
    let middle = c.in-Branch.middle.items in
    let low = c.in-Branch.low.value in
    let high = c.in-Branch.high.value in
    let sorted : is_sorted c.args.self.now ≡ true = search rules in
    let s = sides_of middle low high (subst (λ (x : Tree). is_sorted x ≡ true) c.in-Branch.is sorted) in
    let this : is_below middle name ≡ true = ap (λ (m : PathName). is_below m name) (sym c.deref-in-Branch.ensures.value) ∙ sym c.is_below.ensures ∙ c.if-is_below.true in
    found_low middle low high s name _ this (c.find.ensures ∙ ap (λ (x : Tree). named name (values x)) c.deref-then-is_below.ensures) ∙ ap (λ (x : Tree). named name (values x)) (sym c.in-Branch.is)

pub returns-else-is_below : goal.returns-else-is_below
returns-else-is_below t c =
    let name = c.args.name.now in
    let middle = c.in-Branch.middle.items in
    let low = c.in-Branch.low.value in
    let high = c.in-Branch.high.value in
    let sorted : is_sorted c.args.self.now ≡ true = search rules in
    let s = sides_of middle low high (subst (λ (x : Tree). is_sorted x ≡ true) c.in-Branch.is sorted) in
    let this : is_below middle name ≡ false = ap (λ (m : PathName). is_below m name) (sym c.deref-in-Branch.ensures.value) ∙ sym c.is_below.ensures ∙ c.if-is_below.false in
    found_high middle low high s name _ this (c.find-else-is_below.ensures ∙ ap (λ (x : Tree). named name (values x)) c.deref-else-is_below.ensures) ∙ ap (λ (x : Tree). named name (values x)) (sym c.in-Branch.is)
