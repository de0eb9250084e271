use Rattle.std.proofs.Common.{take, Result, Ok}
use Rattle.fsfs_noderev.specs.declared.node_rev.NodeRev.{NodeRev}
use Rattle.fsfs_noderev.specs.declared.reading.NodeError.{NodeError}
use Rattle.fsfs_noderev.proofs.Fitting.{all_fit}
use Rattle.fsfs_noderev.proofs.Taking.{means_same, node_read}
use Rattle.fsfs_noderev.proofs.reading.read_noderev.Goals as goal

pub returns-clause-only : goal.returns-clause-only
returns-clause-only c = λ n w. means_same c.read_fields.new.fields c.take_node.result n c.take_node.ensures (c.in-Ok.ensures.only n w)

pub returns-clause-writable : goal.returns-clause-writable
returns-clause-writable c =
    let r : Result NodeRev NodeError = Ok c.take_node.result in
    all_fit (take 65536 c.args.bytes.now) r (node_read (take 65536 c.args.bytes.now) c.read_fields.new.fields c.take_node.result c.in-Ok.ensures.found c.take_node.ensures)
