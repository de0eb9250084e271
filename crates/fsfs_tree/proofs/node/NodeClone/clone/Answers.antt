use Rattle.std.proofs.Common.{◌∙◌, ◌≡◌}
use Rattle.fsfs_tree.specs.NodeViews.{node_of}
use Rattle.fsfs_base.proofs.ClonedLists.{source_cloned}
use Rattle.fsfs_tree.proofs.node.NodeClone.clone.Goals as goal

pub returns : goal.returns
returns c =
    let source = source_cloned c.self.inside.source c.in_ok-clone-3.field-0 c.in_ok-clone-3.ensures.cases in
    let alike : node_of (record c.self.inside { text = c.in_ok-clone.field-0; properties = c.in_ok-clone-2.field-0; source = c.in_ok-clone-3.field-0 }) ≡ node_of c.self.inside =
    λ i. record { kind = c.self.inside.kind; text = c.in_ok-clone.ensures.cases i; properties = c.in_ok-clone-2.ensures.cases i; source = source i; added = c.self.inside.added; props_changed = c.self.inside.props_changed; last_changed = c.self.inside.last_changed } in
    record { cases = alike ∙ c.self.view_is }
