use Rattle.std.proofs.Common.{◌≡◌, ◌∙◌, sym, ap, subst, refl, true, false, cond, Bool, Some, inl, inr}
use Rattle.std.specs.Prelude.{is_some}
use Rattle.std.specs.Ordering.{eq_by_cmp}
use Rattle.std.specs.BTreeSet as set
use Rattle.fsfs_base.specs.Paths.{path_cmp}
use Rattle.fsfs_model.specs.Flat.Edits.{applied}
use Rattle.fsfs_tree.specs.Nodes.{empty_node}
use Rattle.fsfs_base.specs.declared.kind.Kind.TheVariants.{File, Dir}
use Rattle.fsfs_tree.specs.Revisions.{tree_of}
use Rattle.fsfs_model.proofs.Copying.{puts, nothing_new, made_there}
use Rattle.fsfs_model.proofs.apply.add_made.Goals as goal

pub returns-in-Delete-2-clause-adds : goal.returns-in-Delete-2-clause-adds
returns-in-Delete-2-clause-adds c = λ t q h none. absurd (nothing_new c.args.edit.now (tree_of c.args.history.now) t q
    (elim c.in-Delete.is [ inl a ↦ ap puts a.1 | inr b ↦ elim b [ inl d ↦ ap puts d.2 | inr e ↦ ap puts e.3 ] ]) h none)

pub returns-in-Delete-3-clause-adds : goal.returns-in-Delete-3-clause-adds
returns-in-Delete-3-clause-adds c = λ t q h none. absurd (nothing_new c.args.edit.now (tree_of c.args.history.now) t q
    (elim c.in-Delete.is [ inl a ↦ ap puts a.1 | inr b ↦ elim b [ inl d ↦ ap puts d.2 | inr e ↦ ap puts e.3 ] ]) h none)

pub returns-in_ok-insert-in-MakeDir-clause-adds : goal.returns-in_ok-insert-in-MakeDir-clause-adds
returns-in_ok-insert-in-MakeDir-clause-adds c = λ t q h none.
    let now : set.contains path_cmp c.insert.new.self q ≡ cond (eq_by_cmp path_cmp c.in-MakeDir.path q) true (set.contains path_cmp c.args.all.now q) =
    c.in_ok-insert-in-MakeDir.ensures.updates.0 q ∙ ap (λ p. cond (eq_by_cmp path_cmp p q) true (set.contains path_cmp c.args.all.now q)) c.in_ok-clone-in-MakeDir.ensures.cases in
    elim c.in-MakeDir.is [
      | inl e ↦ made_there t c.in-MakeDir.path q (Some (empty_node Dir)) _ _ now (subst (λ v. is_some (applied v (tree_of c.args.history.now) t q) ≡ true) e h) none
      | inr e ↦ made_there t c.in-MakeDir.path q (Some (empty_node File)) _ _ now (subst (λ v. is_some (applied v (tree_of c.args.history.now) t q) ≡ true) e h) none
    ]
