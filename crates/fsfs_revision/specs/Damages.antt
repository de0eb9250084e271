-- What is read of a node-revision and of a root, and what is damaged there: the checks in their order. (The order is this
-- project's profile.)
use Rattle.std.specs.Prelude.{◌≡◌, ℕ, true, List, [], ◌∷◌, length, drop, Result}
use Rattle.fsfs_revision.specs.declared.damage.RevOffset.{RevOffset}
use Rattle.fsfs_revision.specs.declared.damage.DamageKind.TheVariants as what
use Rattle.fsfs_revision.specs.declared.wrong.Wrong.{Wrong}
use Rattle.fsfs_revision.specs.Damage.Checks.{Check, must, Judged}
use Rattle.fsfs_revision.specs.Damage.Damages.{place_of, damaged}
use Rattle.fsfs_revision.specs.Damage.Readings.{AndThen}
use Rattle.fsfs_noderev.specs.declared.node_rev.NodeRev.{NodeRev}
use Rattle.fsfs_revision.specs.declared.trailer.Trailer.{Trailer}
use Rattle.fsfs_revision.specs.Trailers.{EndsWith}
use Rattle.fsfs_revision.specs.Nodes.{Holds, IsNodeAt, is_own_place, is_directory, is_root}

-- ---- a node-revision, of the bytes from its place on

abbrev pub node_checks : RevOffset → List ℕ → List Check
node_checks at bytes =
    must ((v : NodeRev) × Holds bytes v) (damaged at what.NodeRev)
    ∷ must ((v : NodeRev) × IsNodeAt at bytes v) (damaged at what.PlaceOrder)
    ∷ []

abbrev pub NodeIn : RevOffset → List ℕ → Result NodeRev Wrong → Type 0
NodeIn at bytes = Judged (IsNodeAt at bytes) (node_checks at bytes)

-- ---- the root of a revision, at the place that its trailer names

abbrev pub trailer_checks : ℕ → List ℕ → List Check
trailer_checks rev bytes = must ((t : Trailer) × EndsWith 0 bytes t) (damaged (place_of rev (length bytes)) what.Trailer) ∷ []

abbrev pub TrailerIn : ℕ → List ℕ → Result Trailer Wrong → Type 0
TrailerIn rev bytes = Judged (EndsWith 0 bytes) (trailer_checks rev bytes)

-- what the node-revision at a place has to be as a root
abbrev pub root_checks : RevOffset → NodeRev → List Check
root_checks at v =
    must (is_own_place at v.id.place ≡ true) (damaged at what.OtherId)
    ∷ must (is_directory v.kind ≡ true) (damaged at what.EntryKind)
    ∷ []

abbrev pub AsRoot : RevOffset → NodeRev → Result NodeRev Wrong → Type 0
AsRoot at v = Judged (λ root. (root ≡ v) × (is_root at v ≡ true)) (root_checks at v)

abbrev pub RootAt : RevOffset → List ℕ → Result NodeRev Wrong → Type 0
RootAt at bytes = AndThen (NodeIn at bytes) (AsRoot at)

-- the root, of all bytes of a revision
abbrev pub RootIn : ℕ → List ℕ → Result NodeRev Wrong → Type 0
RootIn rev bytes = AndThen (TrailerIn rev bytes) (λ t. RootAt (place_of rev t.root) (drop t.root bytes))
