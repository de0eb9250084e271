-- An item whose paths are within their limits, and that tells its kind and has no flag in a delete, has a text.
use Rattle.std.proofs.Common.{◌≡◌, ◌∙◌, true, Option, sym, ap}
use Rattle.std.specs.Prelude.{is_some}
use Rattle.std.proofs.lemmas.Bool.{and_parts, false≢true}
use Rattle.fsfs_base.specs.declared.kind.Kind.{Kind}
use Rattle.fsfs_noderev.specs.Changes.Items.{HasText}
use Rattle.fsfs_noderev.specs.Changes.Words.{flags_fit}
use Rattle.fsfs_noderev.specs.declared.changes.item.ChangeItem.{ChangeItem}
use Rattle.fsfs_noderev.specs.Limits.{HasPaths, is_told}

pub told_has_text : (item : ChangeItem) → HasPaths item → is_told item ≡ true → HasText item
told_has_text item paths told =
    let both = and_parts (is_some item.kind) (flags_fit item.action item.text_changed item.props_changed) told in
    record { kind = λ e. false≢true (sym (ap (λ (k : Option Kind). is_some k) e) ∙ both.0); flags = both.1; path = paths.path; source = paths.source }
