use Rattle.std.proofs.Common.{◌≡◌, ◌&&◌, ◌||◌, List, ℕ, Bool, true, false, cond, refl, ap, sym, ◌∙◌}
use Rattle.std.specs.String.{string_bytes}
use Rattle.std.specs.Str.{bytes_eq}
use Rattle.std.proofs.lemmas.Map.Text.{hash_set_updates_text}
use Rattle.indexmap.specs.IndexSet.{contains_text}
use Rattle.fsfs_base.specs.declared.action.Action.{Action}
use Rattle.fsfs_base.specs.Paths.{names_text}
use Rattle.fsfs_model.specs.Flat.Folding.{deletes}
use Rattle.fsfs_edit.proofs.folds.lasting.note_deleted.Goals as goal

or_cond : (b x : Bool) → cond b true x ≡ (b || x)
or_cond true x = refl
or_cond false x = refl

pub returns-in_ok-insert-in-Delete : goal.returns-in_ok-insert-in-Delete
returns-in_ok-insert-in-Delete c = λ key.
    let text = string_bytes c.in_ok-key_of-in-Delete.field-0 in
    let was : Bool = contains_text c.args.deleted.now key in
    let path = c.args.item.now.path in
    hash_set_updates_text text c.args.deleted.now c.insert.new.self true c.in_ok-insert-in-Delete.ensures.updates key
    ∙ or_cond (bytes_eq text key) was
    ∙ ap (λ (t : List ℕ). bytes_eq t key || was) c.in_ok-key_of-in-Delete.ensures
    ∙ ap (λ (a : Action). (deletes a && bytes_eq (names_text path) key) || was) (sym c.in-Delete.is)
