-- What is read can be written.
use Rattle.std.proofs.Common.{List, ℕ, Result, Ok, Err}
use Rattle.std.specs.Prelude.{IfOk, take}
use Rattle.fsfs_revision.specs.declared.damage.RevOffset.{RevOffset}
use Rattle.fsfs_revision.specs.declared.wrong.ReadError.{ReadError}
use Rattle.fsfs_revision.specs.Damage.Readings.{Answers}
use Rattle.fsfs_noderev.specs.NodeRevs.{IsRead}
use Rattle.fsfs_noderev.specs.Writing.{HasText}
use Rattle.fsfs_noderev.specs.declared.node_rev.NodeRev.{NodeRev}
use Rattle.fsfs_noderev.specs.declared.reading.NodeError.{NodeError}
use Rattle.fsfs_noderev.proofs.Fitting.{all_fit}
use Rattle.fsfs_revision.specs.Damages.{NodeIn}

read_fits : (bytes : List ℕ) (v : NodeRev) → IsRead bytes v → HasText v
read_fits bytes v w = let r : Result NodeRev NodeError = Ok v in all_fit bytes r w

pub node_fits : (at : RevOffset) (bytes : List ℕ) (r : Result NodeRev ReadError) → Answers (λ (v : NodeRev). v) (NodeIn at bytes) r → IfOk r HasText
node_fits at bytes (Ok v) h = read_fits (take 65536 bytes) v h.0.0
node_fits at bytes (Err e) h = tt
