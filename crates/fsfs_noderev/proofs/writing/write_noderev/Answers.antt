use Rattle.std.proofs.Common.{◌≤◌, length}
use Rattle.fsfs_noderev.specs.Writing.{IsWritten}
use Rattle.fsfs_noderev.proofs.Writes.{written, is_node_rev}
use Rattle.fsfs_noderev.proofs.Lengths.{written_short, reads_back}
use Rattle.fsfs_noderev.proofs.writing.write_noderev.Goals as goal

whole : (c : goal.In_ok-push) → IsWritten c.push.new.self.items c.args.node.now
whole c = written c.args.node.now c.new-out.ensures.items c.in_ok-id_line.ensures c.in_ok-kind_line.ensures c.in_ok-optional_id.ensures c.in_ok-number_line.ensures c.in_ok-optional_contents.ensures c.in_ok-optional_contents-2.ensures
    c.in_ok-path_line.ensures c.in_ok-optional_source.ensures c.in_ok-optional_root.ensures c.in_ok-flag_line.ensures c.in_ok-optional_number.ensures c.in_ok-flag_line-2.ensures c.in_ok-push.ensures.items

pub returns-clause-grammar : goal.returns-clause-grammar
returns-clause-grammar c = is_node_rev c.push.new.self.items c.args.node.now (whole c)

pub returns-clause-lines : goal.returns-clause-lines
returns-clause-lines c = whole c

short : (c : goal.In_ok-push) → length c.push.new.self.items ≤ 65536
short c = written_short c.args.node.now c.new-out.ensures.items c.in_ok-id_line.ensures c.in_ok-kind_line.ensures c.in_ok-optional_id.ensures c.in_ok-number_line.ensures c.in_ok-optional_contents.ensures c.in_ok-optional_contents-2.ensures
    c.in_ok-path_line.ensures c.in_ok-optional_source.ensures c.in_ok-optional_root.ensures c.in_ok-flag_line.ensures c.in_ok-optional_number.ensures c.in_ok-flag_line-2.ensures c.in_ok-push.ensures.items

pub returns-clause-short : goal.returns-clause-short
returns-clause-short c = short c

pub returns-clause-reads_back : goal.returns-clause-reads_back
returns-clause-reads_back c = reads_back 65536 c.push.new.self.items c.args.node.now (is_node_rev c.push.new.self.items c.args.node.now (whole c)) (short c)
