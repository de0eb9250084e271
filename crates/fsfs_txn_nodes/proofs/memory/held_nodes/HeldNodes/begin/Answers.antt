use Rattle.std.specs.Prelude.{codes}
use Rattle.fsfs_disk.specs.Benches.{bytes_on}
use Rattle.fsfs_draft.specs.Views.{new_kept}
use Rattle.fsfs_txn_nodes.specs.Memory.Lists.{files_of, with_steps}
use Rattle.fsfs_txn_nodes.proofs.KeyLemmas.{first_files}
use Rattle.fsfs_txn_nodes.proofs.WrittenLemmas.{begun_told, begun_ready}
use Rattle.fsfs_txn_nodes.proofs.memory.held_nodes.HeldNodes.begin.Goals as goal

pub returns-clause-folder : goal.returns-clause-folder
returns-clause-folder g c =
    let key = c.key_of-key in
    let root = c.args.root in
    let files = first_files c.new-settled.result c.make_room.new.nodes c.put.new.nodes key.result c.new_node-kept.result root.id (new_kept root) c.new-settled.ensures.empty c.make_room.ensures.files c.put.ensures.files key.ensures.node key.ensures.copy c.new_node-kept.ensures.value in
    λ i. record { nodes = with_steps (c.new.ensures.items i) (files i); next_node = 0; next_copy = 0; items = c.new-3.ensures.items i; proto = bytes_on (g.D.Bench.contents c.args.bench) (c.new-proto.ensures i) }

pub returns-clause-settled : goal.returns-clause-settled
returns-clause-settled g c =
    let key = c.key_of-key in
    let root = c.args.root in
    let files = first_files c.new-settled.result c.make_room.new.nodes c.put.new.nodes key.result c.new_node-kept.result root.id (new_kept root) c.new-settled.ensures.empty c.make_room.ensures.files c.put.ensures.files key.ensures.node key.ensures.copy c.new_node-kept.ensures.value in
    λ i. record { nodes = files i; next_node = 0; next_copy = 0; items = c.new-3.ensures.items i; proto = bytes_on (g.D.Bench.contents c.args.bench) (c.new-proto.ensures i) }

pub invariant_of-result : goal.invariant_of-result
invariant_of-result g c =
    let key = c.key_of-key in
    let root = c.args.root in
    let files = first_files c.new-settled.result c.make_room.new.nodes c.put.new.nodes key.result c.new_node-kept.result root.id (new_kept root) c.new-settled.ensures.empty c.make_room.ensures.files c.put.ensures.files key.ensures.node key.ensures.copy c.new_node-kept.ensures.value in
    record {
      named = c.new-proto.ensures;
      told = begun_told (g.D.Bench.faults c.args.bench) (g.D.Bench.contents c.args.bench) root (codes "rev") (files_of c.put.new.nodes) c.new-3.result.items files c.new-3.ensures.items c.requires.told;
      ready = begun_ready c.new-2.result.items c.new.result.list.items (files_of c.put.new.nodes) c.new-3.result.items c.new-2.ensures.items c.new.ensures.items;
    }
