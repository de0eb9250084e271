-- What is wrong with the predecessor of a node-revision, and with its properties.
use Rattle.std.specs.Prelude.{◌≡◌, ◌≢◌, ◌<◌, ◌⊎◌, None, Err}
use Rattle.fsfs_revision.specs.Told.{RevisionBytes}
use Rattle.fsfs_revision.specs.declared.damage.DamageKind.TheVariants as what
use Rattle.fsfs_revision.specs.declared.wrong.Wrong.{Wrong}
use Rattle.fsfs_revision.specs.Damage.Damages.{damaged}
use Rattle.fsfs_noderev.specs.declared.node_rev.NodeRev.{NodeRev}
use Rattle.fsfs_revision.specs.Shows.Reading.{PropsOf, offset_of}
use Rattle.fsfs_revision.specs.Shows.Chains.{own_rev, Chain, IsPred, contents_rev}
use Rattle.fsfs_sound.specs.Damaged.{BreaksOff}

-- its chain of predecessors breaks, or it doesn't go on from its predecessor
abbrev pub IsWrongPred : RevisionBytes → NodeRev → Wrong → Type 0
IsWrongPred look v w = Chain look v (Err w) ⊎ (BreaksOff look v × (w ≡ damaged (offset_of v.id.place) what.PredId))

-- properties that were not set with it are not its predecessor's
abbrev pub LosesProps : RevisionBytes → NodeRev → Type 0
LosesProps look v = (u : NodeRev) × IsPred look v u × ((contents_rev v.props < own_rev v) ⊎ (v.props ≡ None)) × (v.props ≢ u.props)

abbrev pub IsWrongProps : RevisionBytes → NodeRev → Wrong → Type 0
IsWrongProps look v w = PropsOf look v (Err w) ⊎ (LosesProps look v × (w ≡ damaged (offset_of v.id.place) what.CopyId))
