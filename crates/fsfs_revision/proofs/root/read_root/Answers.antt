use Rattle.std.proofs.Common.{ℕ, List, length, drop, refl, subst, inl}
use Rattle.std.proofs.lemmas.Result.{err_from_is_err_and}
use Rattle.std.specs.Prelude.{Ok, Err, Result}
use Rattle.fsfs_revision.specs.declared.wrong.ReadError.{ReadError}
use Rattle.fsfs_revision.specs.Damage.Damages.{place_of}
use Rattle.fsfs_revision.specs.Damage.Readings.{Answers}
use Rattle.fsfs_revision.proofs.Answering.{stops, goes_on}
use Rattle.fsfs_noderev.specs.declared.node_rev.NodeRev.{NodeRev}
use Rattle.fsfs_revision.specs.declared.trailer.Trailer.{Trailer}
use Rattle.fsfs_revision.specs.Damages.{NodeIn, TrailerIn, AsRoot, RootAt, RootIn}
use Rattle.fsfs_revision.proofs.DamageLemmas.{wrong_is}
use Rattle.fsfs_revision.proofs.root.read_root.Goals as goal

abbrev itself : NodeRev → NodeRev
itself v = v

pub returns-in_default-clause-read : goal.returns-in_default-clause-read
returns-in_default-clause-read c = wrong_is itself (RootIn c.args.rev c.args.bytes.now) _ _ c.damaged.ensures (inl (inl ((λ w. let h = c.in_default.ensures.only w.0 w.1 in cc), refl)))

pub returns-in_err-node-clause-read : goal.returns-in_err-node-clause-read
returns-in_err-node-clause-read c =
    let t = c.in-Some.trailer in
    let at = place_of c.args.rev t.root in
    let rest = drop t.root c.args.bytes.now in
    let p = err_from_is_err_and c.from_residual.result c.from_residual.ensures.1 in
    let read : Answers itself (NodeIn at rest) (Err c.in_err-node.field-0.0) = subst (λ (b : List ℕ). Answers itself (NodeIn at b) (Err c.in_err-node.field-0.0)) c.bytes_from.ensures c.in_err-node.ensures.read in
    rw (p.1, p.2) (goes_on itself (Err c.in_err-node.field-0.0) (TrailerIn c.args.rev c.args.bytes.now) (λ (u : Trailer). RootAt (place_of c.args.rev u.root) (drop u.root c.args.bytes.now)) t c.in-Some.ensures.found (stops itself itself c.in_err-node.field-0.0 (NodeIn at rest) (AsRoot at) read))

pub returns-clause-read : goal.returns-clause-read
returns-clause-read c =
    let t = c.in-Some.trailer in
    let at = place_of c.args.rev t.root in
    let rest = drop t.root c.args.bytes.now in
    let found : NodeIn at rest (Ok c.in_ok-node.node) = subst (λ (b : List ℕ). NodeIn at b (Ok c.in_ok-node.node)) c.bytes_from.ensures c.in_ok-node.ensures.read in
    goes_on itself c.as_root.result (TrailerIn c.args.rev c.args.bytes.now) (λ (u : Trailer). RootAt (place_of c.args.rev u.root) (drop u.root c.args.bytes.now)) t c.in-Some.ensures.found
    (goes_on itself c.as_root.result (NodeIn at rest) (AsRoot at) c.in_ok-node.node found c.as_root.ensures.read)
