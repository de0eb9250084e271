use Rattle.std.proofs.Common.{◌≡◌, ◌++◌, ◌∷◌, [], List, ap, sym, refl, ◌∙◌, append_assoc, append-nil, not, rules}
use Rattle.std.specs.Prelude.{cond}
use Rattle.std.proofs.lemmas.List.{nil_from_length}
use Rattle.fsfs_dag.specs.declared.directory.DirEntry.{DirEntry}
use Rattle.fsfs_dag.specs.declared.tree_walk.Pending.{Pending}
use Rattle.fsfs_dag.specs.TreeWalks.{Left, in_order, at_level, pending_value}
use Rattle.fsfs_dag.specs.Views.{entry_values}
use Rattle.fsfs_dag.proofs.TreeWalkLemmas.{pushed_first}
use Rattle.fsfs_dag.proofs.tree_walk.put_entries.Goals as goal

pub loop-entry-init : goal.loop-entry-init
loop-entry-init c = ([], sym (append-nil c.args.below.items), refl)

pub loop-entry-preserved : goal.loop-entry-preserved
loop-entry-preserved c =
    let so = c.loop-entry.invariant in
    let p : Pending = record { level = c.args.level; entry = c.in-Some.entry } in
    let items = c.push.ensures.items ∙ ap (λ b. cond b (c.loop-entry.todo.items ++ p ∷ []) c.loop-entry.todo.items) (c.is_err.ensures.negation ∙ ap not c.if-is_err.false) in (
      c.in-Some.entry ∷ so.0,
      so.1 ∙ ap (λ t. t ++ so.0) c.in-Some.ensures.items ∙ append_assoc c.pop.new.self.items (c.in-Some.entry ∷ []) so.0,
      ap in_order items ∙ pushed_first c.loop-entry.todo.items p ∙ ap (λ (t : Left). pending_value p ∷ t) so.2,
    )

pub returns-clause-items : goal.returns-clause-items
returns-clause-items c =
    let so = c.loop-entry.invariant in
    let none : c.loop-entry.below.items ≡ [] = nil_from_length c.loop-entry.below.items (search rules) in
    so.2 ∙ ap (λ (t : List DirEntry). at_level c.args.level (entry_values t) ++ in_order c.args.todo.now.items) (sym (so.1 ∙ ap (λ t. t ++ so.0) none))
