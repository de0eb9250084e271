use Rattle.std.proofs.Common.{ap}
use Rattle.std.specs.Prelude.{Option, option_map}
use Rattle.fsfs_draft.specs.Drafts.{Kept}
use Rattle.fsfs_txn.proofs.opened.reached.kind_of.Goals as goal

pub returns-in-None : goal.returns-in-None
returns-in-None g c = ap (λ (o : Option Kept). option_map (λ k. k.node.kind) o) c.in-None.ensures

pub returns-in-Some : goal.returns-in-Some
returns-in-Some g c = ap (λ (o : Option Kept). option_map (λ k. k.node.kind) o) c.in-Some.ensures
