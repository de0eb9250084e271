use Rattle.fsfs_txn_nodes.specs.Memory.Lists.{files_of, with_steps}
use Rattle.fsfs_txn_nodes.specs.Memory.Written.{filed}
use Rattle.fsfs_txn_nodes.proofs.WrittenLemmas.{append_told}
use Rattle.fsfs_txn_nodes.proofs.TextLemmas.{text_put, text_left}
use Rattle.fsfs_txn_nodes.proofs.memory.texts.HeldNodesOwnTexts.append_text.Goals as goal

pub returns-clause-put : goal.returns-clause-put
returns-clause-put g c =
    let s = c.args.self.now in
    text_put (with_steps s.steps.list.items (files_of s.settled)) (files_of s.settled) s.next s.settled_next s.items.items (g.D.Bench.contents s.bench) (g.D.Bench.contents c.append_text.new.bench) s.proto
    (g.I.Source.remaining c.args.source.now) (g.I.Source.remaining c.append_text.new.source) c.args.expect s.txn c.args.number.now c.append_text.result c.append_text.ensures.put

pub returns-clause-left : goal.returns-clause-left
returns-clause-left g c =
    let s = c.args.self.now in
    text_left (with_steps s.steps.list.items (files_of s.settled)) (files_of s.settled) s.next s.settled_next s.items.items (g.D.Bench.contents s.bench) (g.D.Bench.contents c.append_text.new.bench) s.proto c.append_text.result c.append_text.ensures.left

pub invariant_of-self : goal.invariant_of-self
invariant_of-self g c =
    let s = c.args.self.now in
    record {
      named = s.named;
      told = append_told (g.D.Bench.faults s.bench) (g.D.Bench.faults c.append_text.new.bench) (g.D.Bench.contents s.bench) (g.D.Bench.contents c.append_text.new.bench) s.proto (filed (files_of s.settled) s.settled_next s.items.items)
          (g.I.Source.remaining c.args.source.now) (g.I.Source.remaining c.append_text.new.source) c.args.expect s.txn c.args.number.now c.append_text.result c.append_text.ensures.bench_cause.later c.append_text.ensures.bench_cause.failed
          c.append_text.ensures.put c.append_text.ensures.left s.named s.told;
      ready = s.ready;
    }
