use Rattle.std.proofs.Common.{◌++◌, inr}
use Rattle.std.proofs.lemmas.Result.{on_ok_weaker}
use Rattle.fsfs_disk.specs.Labels.{label_of}
use Rattle.fsfs_disk.specs.Trace.{DropLabel}
use Rattle.fsfs_disk.proofs.TraceLemmas.{ended_if_there}
use Rattle.fsfs_disk.proofs.PublishLemmas.{ok_of, empty_lacks, publish_firm, publish_leaves, publish_labels, refused_labels, gone_if}
use Rattle.fsfs_disk.proofs.publishing.publish.Goals as goal

pub write_and_name-named-requires-clause-new : goal.write_and_name-named-requires-clause-new
write_and_name-named-requires-clause-new g c = empty_lacks (g.D.Disk.trace c.args.disk.now) (g.D.Bench.Bench.contents c.in-Ok.bench) c.args.file.now c.in-Ok.ensures.empty

pub returns-in-Ok-clause-firm : goal.returns-in-Ok-clause-firm
returns-in-Ok-clause-firm g c =
    let l = label_of c.args.label.now in
    let named = g.D.Disk.trace c.write_and_name-named.new.disk in
    let new = g.D.Disk.trace c.drop_bench-dropped.new.self in
    on_ok_weaker c.both.result (λ oks. publish_firm l c.args.to.now (c.args.first.now ++ c.args.second.now) (g.D.Disk.trace c.bench.new.self) named new
    (ok_of c.write_and_name-named.result oks.0 c.write_and_name-named.ensures.named)
    (ended_if_there (DropLabel l) named new c.drop_bench-dropped.result c.drop_bench-dropped.ensures.ok c.drop_bench-dropped.ensures.err)) c.both.ensures.ok

pub returns-in-Ok-clause-dropped : goal.returns-in-Ok-clause-dropped
returns-in-Ok-clause-dropped g c =
    on_ok_weaker c.both.result (λ oks. gone_if (label_of c.args.label.now) (g.D.Disk.trace c.write_and_name-named.new.disk) (g.D.Disk.trace c.drop_bench-dropped.new.self) c.drop_bench-dropped.result oks.1
    c.drop_bench-dropped.ensures.there c.drop_bench-dropped.ensures.ok) c.both.ensures.ok

pub returns-in-Ok-clause-any_moment : goal.returns-in-Ok-clause-any_moment
returns-in-Ok-clause-any_moment g c =
    let l = label_of c.args.label.now in
    let named = g.D.Disk.trace c.write_and_name-named.new.disk in
    let new = g.D.Disk.trace c.drop_bench-dropped.new.self in
    publish_leaves l c.args.to.now (c.args.first.now ++ c.args.second.now) (g.D.Disk.trace c.args.disk.now) (g.D.Disk.trace c.bench.new.self) named new
    (inr (inr c.in-Ok.ensures.ok)) c.write_and_name-named.ensures.ended
    (ended_if_there (DropLabel l) named new c.drop_bench-dropped.result c.drop_bench-dropped.ensures.ok c.drop_bench-dropped.ensures.err)

pub returns-in-Ok-clause-labels : goal.returns-in-Ok-clause-labels
returns-in-Ok-clause-labels g c =
    let l = label_of c.args.label.now in
    let named = g.D.Disk.trace c.write_and_name-named.new.disk in
    let new = g.D.Disk.trace c.drop_bench-dropped.new.self in
    publish_labels l c.args.to.now (c.args.first.now ++ c.args.second.now) (g.D.Disk.trace c.args.disk.now) (g.D.Disk.trace c.bench.new.self) named new
    (inr (inr c.in-Ok.ensures.ok)) c.write_and_name-named.ensures.ended
    (ended_if_there (DropLabel l) named new c.drop_bench-dropped.result c.drop_bench-dropped.ensures.ok c.drop_bench-dropped.ensures.err)

pub returns-in-Err-clause-labels : goal.returns-in-Err-clause-labels
returns-in-Err-clause-labels g c =
    let l = label_of c.args.label.now in
    refused_labels l (g.D.Disk.trace c.args.disk.now) (g.D.Disk.trace c.bench.new.self) (g.D.Disk.trace c.drop_bench.new.self) c.in-Err.ensures.err
    (ended_if_there (DropLabel l) (g.D.Disk.trace c.bench.new.self) (g.D.Disk.trace c.drop_bench.new.self) c.drop_bench.result c.drop_bench.ensures.ok c.drop_bench.ensures.err)
