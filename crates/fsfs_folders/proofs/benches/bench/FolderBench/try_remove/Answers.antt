use Rattle.std.proofs.Common.{◌≡◌, rules, refl, sym, ap, subst, ◌∙◌}
use Rattle.std.specs.Prelude.{Some, None, IfOk, IfSome}
use Rattle.std.specs.FinMap.{get}
use Rattle.fsfs_folders.specs.BenchFiles.{bench_told}
use Rattle.fsfs_disk.specs.Trace.{IsThere}
use Rattle.fsfs_folders.proofs.PutLemmas.{on_ok}
use Rattle.fsfs_folders.proofs.WritingLemmas.{on_err}
use Rattle.fsfs_folders.proofs.ProtoLemmas.{files_with, files_spoil, files_firm, files_others, files_get, proto_with, proto_spoil, proto_firm, proto_others, proto_get, if_err, there_by}
use Rattle.fsfs_folders.proofs.benches.bench.FolderBench.try_remove.Goals as goal

pub returns-then-not-is_proto-clause-ok : goal.returns-then-not-is_proto-clause-ok
returns-then-not-is_proto-clause-ok g c = on_ok c.remove.result (files_with c.args.self.now.proto (λ p. g.C.Calls.history p.part.calls) (λ p. p.name) c.args.file.now (g.C.Calls.history c.args.self.now.files.calls) (search rules) (g.C.Calls.history c.remove.new.self.calls) None) c.remove.ensures.ok

pub returns-then-not-is_proto-clause-err : goal.returns-then-not-is_proto-clause-err
returns-then-not-is_proto-clause-err g c = if_err c.remove.result (files_spoil c.args.self.now.proto (λ p. g.C.Calls.history p.part.calls) (λ p. p.name) c.args.file.now (g.C.Calls.history c.args.self.now.files.calls) (search rules) (g.C.Calls.history c.remove.new.self.calls)) c.remove.ensures.err

pub returns-then-not-is_proto-clause-firm : goal.returns-then-not-is_proto-clause-firm
returns-then-not-is_proto-clause-firm g c = on_ok c.remove.result (λ e. files_firm c.args.self.now.proto (λ p. g.C.Calls.history p.part.calls) (λ p. p.name) c.args.file.now (g.C.Calls.history c.args.self.now.files.calls) (search rules) (g.C.Calls.history c.remove.new.self.calls) ∙ e) c.remove.ensures.firm

pub returns-then-not-is_proto-clause-others : goal.returns-then-not-is_proto-clause-others
returns-then-not-is_proto-clause-others g c = files_others c.args.self.now.proto (λ p. g.C.Calls.history p.part.calls) (λ p. p.name) c.args.file.now (g.C.Calls.history c.args.self.now.files.calls) (search rules) (g.C.Calls.history c.remove.new.self.calls) c.remove.ensures.others

pub returns-in-Some-clause-ok : goal.returns-in-Some-clause-ok
returns-in-Some-clause-ok g c = on_ok c.remove-in-Some.result (proto_with c.args.self.now.proto (λ p. g.C.Calls.history p.part.calls) (λ p. p.name) c.args.file.now (g.C.Calls.history c.args.self.now.files.calls) c.in-Some.proto c.in-Some.is (search rules) (record { part = c.remove-in-Some.new.self; name = c.in-Some.proto.name }) refl None) c.remove-in-Some.ensures.ok

pub returns-in-Some-clause-err : goal.returns-in-Some-clause-err
returns-in-Some-clause-err g c = if_err c.remove-in-Some.result (proto_spoil c.args.self.now.proto (λ p. g.C.Calls.history p.part.calls) (λ p. p.name) c.args.file.now (g.C.Calls.history c.args.self.now.files.calls) c.in-Some.proto c.in-Some.is (search rules) (record { part = c.remove-in-Some.new.self; name = c.in-Some.proto.name }) refl) c.remove-in-Some.ensures.err

pub returns-in-Some-clause-firm : goal.returns-in-Some-clause-firm
returns-in-Some-clause-firm g c = on_ok c.remove-in-Some.result (λ e. proto_firm c.args.self.now.proto (λ p. g.C.Calls.history p.part.calls) (λ p. p.name) c.args.file.now (g.C.Calls.history c.args.self.now.files.calls) c.in-Some.proto c.in-Some.is (search rules) (record { part = c.remove-in-Some.new.self; name = c.in-Some.proto.name }) refl ∙ e) c.remove-in-Some.ensures.firm

pub returns-in-Some-clause-others : goal.returns-in-Some-clause-others
returns-in-Some-clause-others g c = proto_others c.args.self.now.proto (λ p. g.C.Calls.history p.part.calls) (λ p. p.name) c.args.file.now (g.C.Calls.history c.args.self.now.files.calls) c.in-Some.proto c.in-Some.is (search rules) (record { part = c.remove-in-Some.new.self; name = c.in-Some.proto.name }) refl

pub returns-then-not-is_proto-clause-there : goal.returns-then-not-is_proto-clause-there
returns-then-not-is_proto-clause-there g c = there_by (λ there. IfSome (bench_told (g.C.Calls.history c.args.self.now.files.calls)) (λ m. IsThere (get m c.args.file.now) there)) _ c.remove.result (λ there h. files_get c.args.self.now.proto (λ p. g.C.Calls.history p.part.calls) (λ p. p.name) c.args.file.now (g.C.Calls.history c.args.self.now.files.calls) (search rules) (λ f. IsThere f there) h) c.remove.ensures.there

pub returns-in-Some-clause-there : goal.returns-in-Some-clause-there
returns-in-Some-clause-there g c = there_by (λ there. IfSome (bench_told (g.C.Calls.history c.in-Some.proto.part.calls)) (λ m. IsThere (get m c.in-Some.proto.name) there)) _ c.remove-in-Some.result (λ there h. proto_get c.args.self.now.proto (λ p. g.C.Calls.history p.part.calls) (λ p. p.name) c.args.file.now (g.C.Calls.history c.args.self.now.files.calls) c.in-Some.proto c.in-Some.is (search rules) (λ f. IsThere f there) h) c.remove-in-Some.ensures.there
