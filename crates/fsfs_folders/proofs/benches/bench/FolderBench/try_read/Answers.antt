use Rattle.std.proofs.Common.{◌≡◌, rules, refl, sym, ap, subst, ◌∙◌}
use Rattle.std.specs.Prelude.{IfOk}
use Rattle.fsfs_disk.specs.Trace.{IsRead}
use Rattle.fsfs_folders.specs.BenchFiles.{bench_told}
use Rattle.fsfs_folders.specs.Prototypes.{whole_firm}
use Rattle.fsfs_folders.proofs.PutLemmas.{on_ok}
use Rattle.fsfs_folders.proofs.WritingLemmas.{on_err}
use Rattle.fsfs_folders.proofs.ProtoLemmas.{files_get, files_same, proto_get, proto_same, proto_firm_same}
use Rattle.fsfs_folders.proofs.benches.bench.FolderBench.try_read.Goals as goal

pub returns-then-not-is_proto-clause-bytes : goal.returns-then-not-is_proto-clause-bytes
returns-then-not-is_proto-clause-bytes g c = files_get c.args.self.now.proto (λ p. g.C.Calls.history p.part.calls) (λ p. p.name) c.args.file.now (g.C.Calls.history c.args.self.now.files.calls) (search rules) (λ f. IfOk c.read.result (IsRead f c.args.offset c.args.buffer.now c.read.new.buffer)) c.read.ensures.bytes

pub returns-then-not-is_proto-clause-same : goal.returns-then-not-is_proto-clause-same
returns-then-not-is_proto-clause-same g c = files_same c.args.self.now.proto (λ p. g.C.Calls.history p.part.calls) (λ p. p.name) c.args.file.now (g.C.Calls.history c.args.self.now.files.calls) (search rules) (g.C.Calls.history c.read.new.self.calls) (ap bench_told c.read.ensures.same)

pub returns-then-not-is_proto-clause-firm : goal.returns-then-not-is_proto-clause-firm
returns-then-not-is_proto-clause-firm g c = ap (λ o. whole_firm c.args.self.now.proto (λ p. g.C.Calls.history p.part.calls) (λ p. p.name) o) c.read.ensures.same

pub returns-in-Some-clause-bytes : goal.returns-in-Some-clause-bytes
returns-in-Some-clause-bytes g c = proto_get c.args.self.now.proto (λ p. g.C.Calls.history p.part.calls) (λ p. p.name) c.args.file.now (g.C.Calls.history c.args.self.now.files.calls) c.in-Some.proto c.in-Some.is (search rules) (λ f. IfOk c.read-in-Some.result (IsRead f c.args.offset c.args.buffer.now c.read-in-Some.new.buffer)) c.read-in-Some.ensures.bytes

pub returns-in-Some-clause-same : goal.returns-in-Some-clause-same
returns-in-Some-clause-same g c = proto_same c.args.self.now.proto (λ p. g.C.Calls.history p.part.calls) (λ p. p.name) c.args.file.now (g.C.Calls.history c.args.self.now.files.calls) c.in-Some.proto c.in-Some.is (search rules) (record { part = c.read-in-Some.new.self; name = c.in-Some.proto.name }) refl (ap bench_told c.read-in-Some.ensures.same)

pub returns-in-Some-clause-firm : goal.returns-in-Some-clause-firm
returns-in-Some-clause-firm g c = proto_firm_same c.args.self.now.proto (λ p. g.C.Calls.history p.part.calls) (λ p. p.name) c.args.file.now (g.C.Calls.history c.args.self.now.files.calls) c.in-Some.proto c.in-Some.is (search rules) (record { part = c.read-in-Some.new.self; name = c.in-Some.proto.name }) refl c.read-in-Some.ensures.same
