use Rattle.std.proofs.Common.{sym, ◌∙◌}
use Rattle.fsfs_noderev.specs.Changes.Items.{HasText}
use Rattle.fsfs_noderev.proofs.ChangesWrites.{has_text, all_one}
use Rattle.fsfs_format_examples.proofs.changed_paths.written.Goals as goal

pub write_changes-requires : goal.write_changes-requires
write_changes-requires c =
    let found = rw c.in-Some.is at c.in_ok-read_item.ensures.found in
    all_one HasText c.in-Some.item (has_text found.front c.in-Some.item found.text (λ e. let f = sym e ∙ c.in-Some-kind.is in absurd cc))
