-- Two nodes that are the same but for their numbers.
use Rattle.std.proofs.Common.{◌≡◌, ap}
use Rattle.std.specs.Prelude.{Some}
use Rattle.std.proofs.lemmas.Option.{same_Some}
use Rattle.fsfs_tree.specs.Nodes.{Node}
use Rattle.fsfs_draft.specs.Drafts.{bare}

pub same_bare : (x y : Node) → bare (Some x) ≡ bare (Some y) → (x.kind ≡ y.kind) × (x.text ≡ y.text) × (x.properties ≡ y.properties)
same_bare x y e = let s = same_Some _ _ e in (ap (λ (z : Node). z.kind) s, ap (λ (z : Node). z.text) s, ap (λ (z : Node). z.properties) s)
