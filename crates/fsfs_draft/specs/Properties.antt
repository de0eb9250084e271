-- What the properties of an own node-revision are.
use Rattle.std.specs.Prelude.{◌≡◌, [], Option, Some, None, Result, Ok}
use Rattle.fsfs_revision.specs.Told.{RevisionBytes}
use Rattle.fsfs_noderev.specs.declared.node_id.NodeId.{NodeId}
use Rattle.fsfs_revision.specs.declared.wrong.Wrong.{Wrong}
use Rattle.fsfs_revision.specs.Damage.Readings.{AndThen}
use Rattle.fsfs_revision.specs.Shows.Reading.{Pairs, OfId, PropsOf}
use Rattle.fsfs_draft.specs.Drafts.{Kept}

-- of the node-revision of an id
abbrev pub OfIdProps : RevisionBytes → NodeId → Result Pairs Wrong → Type 0
OfIdProps look id = AndThen (OfId look id) (λ u. PropsOf look u)

abbrev pub OfPredecessorProps : RevisionBytes → Option NodeId → Result Pairs Wrong → Type 0
OfPredecessorProps look None r = r ≡ Ok []
OfPredecessorProps look (Some id) r = OfIdProps look id r

abbrev pub OfSetProps : RevisionBytes → Option Pairs → Option NodeId → Result Pairs Wrong → Type 0
OfSetProps look (Some pairs) before r = r ≡ Ok pairs
OfSetProps look None before r = OfPredecessorProps look before r

-- those of its `props` file, or of what it goes on from
abbrev pub OfKeptProps : RevisionBytes → Kept → Result Pairs Wrong → Type 0
OfKeptProps look k r = OfSetProps look k.props k.node.predecessor r
