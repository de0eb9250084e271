use Rattle.std.proofs.Common.{rules, ◌≡◌, ℕ, List, Some, None, ap, sym, ◌∙◌}
use Rattle.std.specs.Prelude.{option_map}
use Rattle.fsfs_base.specs.Paths.{Path, path_text}
use Rattle.fsfs_noderev.specs.declared.node_rev.CopySource.{CopySource}
use Rattle.fsfs_history.proofs.TextKeys.{source_of_found, through_source}
use Rattle.fsfs_history.proofs.by_text.ItemsByText.source_at.Goals as goal

pub returns-in-None : goal.returns-in-None
returns-in-None c =
    let is : c.as_slice.result.now ≡ path_text c.args.path.now = search rules in
    let none = rw c.in-None.is at c.get.ensures.value in
    source_of_found c.args.self.now.items.entries c.args.path.now c.as_slice.result.now is None none

pub returns : goal.returns
returns c =
    let is : c.as_slice.result.now ≡ path_text c.args.path.now = search rules in
    let found = rw c.in-Some.is at c.get.ensures.value in
    through_source c.as_ref.result ∙ ap (option_map {U = ℕ × Path} (λ (s : CopySource). (s.rev, s.path))) c.as_ref.ensures.value
    ∙ source_of_found c.args.self.now.items.entries c.args.path.now c.as_slice.result.now is (Some c.in-Some.item.now) found
