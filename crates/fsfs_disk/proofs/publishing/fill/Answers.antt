use Rattle.std.proofs.Common.{◌∙◌}
use Rattle.std.proofs.lemmas.Result.{on_ok_weaker}
use Rattle.fsfs_disk.proofs.PublishLemmas.{two_pieces}
use Rattle.fsfs_disk.proofs.publishing.fill.Goals as goal

pub returns-clause-files : goal.returns-clause-files
returns-clause-files g c = on_ok_weaker c.firm.result (λ same. same ∙
    two_pieces (g.B.Bench.contents c.args.bench.now) (g.B.Bench.contents c.append.new.self) (g.B.Bench.contents c.append-2.new.self) c.args.file.now c.args.first.now c.args.second.now
    c.in_ok-append.ensures.ok c.in_ok-append-2.ensures.ok) c.firm.ensures.ok
