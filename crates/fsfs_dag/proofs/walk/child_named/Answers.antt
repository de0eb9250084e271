use Rattle.std.proofs.Common.{◌≡◌, ◌≤◌, List, Some, sym, ap, subst, ◌∙◌, arith}
use Rattle.std.specs.Prelude.{option_map}
use Rattle.std.proofs.lemmas.Result.{err_from_is_err_and}
use Rattle.fsfs_revision.specs.Told.{Knows}
use Rattle.fsfs_noderev.specs.declared.node_id.NodeId.{NodeId}
use Rattle.fsfs_revision.specs.Shows.Reading.{named, offset_of}
use Rattle.fsfs_dag.specs.declared.directory.DirEntry.{DirEntry}
use Rattle.fsfs_dag.specs.declared.node.PlacedNode.{PlacedNode}
use Rattle.fsfs_dag.specs.Views.{entry_value, entry_values, home_of}
use Rattle.fsfs_dag.proofs.PairLemmas.{place_le, named_before, child_found, child_wrong}
use Rattle.fsfs_dag.proofs.walk.child_named.Goals as goal

pub returns-in_err-child-in-Some-clause-told : goal.returns-in_err-child-in-Some-clause-told
returns-in_err-child-in-Some-clause-told g c = λ look knows.
    let p = err_from_is_err_and c.from_residual-in_err-child-in-Some.result c.from_residual-in_err-child-in-Some.ensures.1 in
    let v = c.args.dir.now.node in
    let items = c.in_ok-all.all.items in
    let x = entry_value c.in-Some.entry.now in
    let is : named c.args.name.now (entry_values items) ≡ Some x = sym (c.in-Some.ensures ∙ ap (λ (t : List DirEntry). named c.args.name.now (entry_values t)) c.deref.ensures.value) in
    let le : (offset_of x.id.place).rev ≤ (home_of v).rev = place_le (home_of v) x.id.place (named_before (home_of v) c.args.name.now items x c.in_ok-all.ensures.before is) in
    let later : Knows (g.B.Book.told c.entries.new.book).revs (offset_of x.id.place).rev look = λ r below. c.in_ok-all.ensures.kept.revs r (look r) (knows r (omega (arith, below, le))) in
    rw (p.1, p.2) (child_wrong look v c.args.name.now (entry_values items) x (c.in_ok-all.ensures.told look knows) is (λ (found : PlacedNode). found.node) (option_map (λ (found : PlacedNode). found.node)) c.in_err-child-in-Some.field-0.0
    (c.in_err-child-in-Some.ensures.told look later))

pub returns-clause-told : goal.returns-clause-told
returns-clause-told g c = λ look knows.
    let v = c.args.dir.now.node in
    let items = c.in_ok-all.all.items in
    let x = entry_value c.in-Some.entry.now in
    let is : named c.args.name.now (entry_values items) ≡ Some x = sym (c.in-Some.ensures ∙ ap (λ (t : List DirEntry). named c.args.name.now (entry_values t)) c.deref.ensures.value) in
    let le : (offset_of x.id.place).rev ≤ (home_of v).rev = place_le (home_of v) x.id.place (named_before (home_of v) c.args.name.now items x c.in_ok-all.ensures.before is) in
    let later : Knows (g.B.Book.told c.entries.new.book).revs (offset_of x.id.place).rev look = λ r below. c.in_ok-all.ensures.kept.revs r (look r) (knows r (omega (arith, below, le))) in
    child_found look v c.args.name.now (entry_values items) x (c.in_ok-all.ensures.told look knows) is c.in_ok-child-in-Some.child.node (c.in_ok-child-in-Some.ensures.told look later)

pub returns-clause-below : goal.returns-clause-below
returns-clause-below g c =
    let v = c.args.dir.now.node in
    let items = c.in_ok-all.all.items in
    let x = entry_value c.in-Some.entry.now in
    let is : named c.args.name.now (entry_values items) ≡ Some x = sym (c.in-Some.ensures ∙ ap (λ (t : List DirEntry). named c.args.name.now (entry_values t)) c.deref.ensures.value) in
    let le : (offset_of x.id.place).rev ≤ (home_of v).rev = place_le (home_of v) x.id.place (named_before (home_of v) c.args.name.now items x c.in_ok-all.ensures.before is) in
    subst (λ (id : NodeId). (offset_of id.place).rev ≤ (home_of v).rev) (sym c.in_ok-child-in-Some.ensures.id) le
