use Rattle.std.proofs.Common.{rules, ◌≡◌, ◌+◌, ℕ, List, take, sym, subst}
use Rattle.fsfs_noderev.specs.Changes.Texts.{AreRevisionChanges}
use Rattle.fsfs_history.proofs.ItemLemmas.{before_it, refused_item}
use Rattle.fsfs_history.proofs.items.items_before.Goals as goal

pub returns-in-Ok-clause-told : goal.returns-in-Ok-clause-told
returns-in-Ok-clause-told c =
    let bytes = c.args.changes.now.bytes.items in
    let offset : c.in-Some.offset ≡ c.args.changes.now.begins + c.args.at = search rules in
    refused_item bytes c.args.at c.requires c.args.rev c.args.changes.now.begins c.in-Some.offset c.in-Ok.items.items (c.in-Ok.ensures.only c.requires.earlier
    (subst (λ (t : List ℕ). AreRevisionChanges (take c.args.at t) c.requires.earlier) (sym c.deref.ensures.value) (before_it bytes c.args.at c.requires))) offset
