use Rattle.std.proofs.Common.{ℕ, List, ap, ◌∙◌}
use Rattle.std.specs.Cmp.Lexicographic.{slice_cmp}
use Rattle.std.specs.Ordering.{nat_cmp}
use Rattle.std.specs.BTreeMap.{insert_entry}
use Rattle.fsfs_history.proofs.TextKeys.{plain, put_plain}
use Rattle.fsfs_history.proofs.by_text.ItemsByText.put.Goals as goal

pub returns : goal.returns
returns c =
    ap plain c.in_ok-insert.ensures.entries
    ∙ put_plain c.args.self.now.items.entries c.in_ok-text.text c.args.item
    ∙ ap (λ (t : List ℕ). insert_entry (slice_cmp nat_cmp) (plain c.args.self.now.items.entries) t c.args.item) c.in_ok-text.ensures
