use Rattle.std.proofs.Common.{◌≡◌, List, ℕ, Option, Some, ap, sym, ◌∙◌}
use Rattle.std.specs.Prelude.{option_map}
use Rattle.std.specs.String.{string_bytes}
use Rattle.std.proofs.lemmas.Map.Text.{hash_map_updates_text}
use Rattle.indexmap.specs.IndexMap.{get_by_text}
use Rattle.fsfs_edit.specs.Folds.FoldedItems.{FoldedItem, joined}
use Rattle.fsfs_edit.specs.Folds.Views.{said_value, told}
use Rattle.fsfs_edit.proofs.SaidLemmas.{told_value, say_step}
use Rattle.fsfs_edit.proofs.folds.folding.say.Goals as goal
use Rattle.fsfs_edit.proofs.folds.folding.say.Goals.{in-None, in-Some}

pub returns : goal.returns
returns c =
    let key = string_bytes c.in_ok-key.key in
    let asked : told (get_by_text c.args.said.now key) ≡ told (get_by_text c.args.said.now c.as_str.result.now) = ap (λ (t : List ℕ). told (get_by_text c.args.said.now t)) (sym c.as_str.ensures.value) in
    let was : told (get_by_text c.args.said.now key) ≡ option_map said_value c.match-get.before =
    elim c.match-get.branch [
      | in-None w ↦ asked ∙ ap told (sym w.in-None.ensures.value) ∙ ap (option_map said_value) (sym w.before-is)
      | in-Some w ↦ asked ∙ ap told (sym w.in-Some.ensures.value) ∙ told_value w.in-Some.before.now ∙ ap (option_map said_value) (sym w.before-is)
    ] in
    say_step (get_by_text c.args.said.now) (get_by_text c.insert.new.self) key c.joined.result c.args.item.now (sym c.in_ok-key.ensures)
    (λ q. hash_map_updates_text key c.args.said.now c.insert.new.self (Some c.joined.result) c.in_ok-insert.ensures.updates q)
    (told_value c.joined.result ∙ c.joined.ensures ∙ ap (λ (o : Option FoldedItem). joined o c.args.item.now) (sym was))
