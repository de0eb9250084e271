use Rattle.std.proofs.lemmas.Result.{on_ok_weaker}
use Rattle.fsfs_begin.proofs.MakingLemmas.{all_written}
use Rattle.fsfs_begin.proofs.making.fill.Goals as goal

pub returns-clause-files : goal.returns-clause-files
returns-clause-files g c =
    on_ok_weaker c.write-5.result (λ last. all_written c.args.id.now c.args.root.now c.new.result c.new-2.result c.new-3.result c.new-4.result c.name.result
    (g.B.Bench.contents c.args.bench.now) (g.B.Bench.contents c.write.new.self) (g.B.Bench.contents c.write-2.new.self) (g.B.Bench.contents c.write-3.new.self) (g.B.Bench.contents c.write-4.new.self) (g.B.Bench.contents c.write-5.new.self)
    c.new.ensures c.new-2.ensures c.new-3.ensures c.new-4.ensures c.name.ensures c.in_ok-write.ensures.ok c.in_ok-write-2.ensures.ok c.in_ok-write-3.ensures.ok c.in_ok-write-4.ensures.ok last) c.write-5.ensures.ok
