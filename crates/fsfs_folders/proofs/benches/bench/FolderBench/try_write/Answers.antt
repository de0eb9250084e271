use Rattle.std.proofs.Common.{◌≡◌, rules, refl, sym, ap, subst, ◌∙◌}
use Rattle.std.specs.Prelude.{Some, None}
use Rattle.fsfs_folders.proofs.PutLemmas.{on_ok}
use Rattle.fsfs_folders.proofs.WritingLemmas.{on_err}
use Rattle.fsfs_folders.proofs.ProtoLemmas.{files_with, files_spoil, files_firm, files_others, proto_with, proto_spoil, proto_firm, proto_others, if_err}
use Rattle.fsfs_folders.proofs.benches.bench.FolderBench.try_write.Goals as goal

pub returns-then-not-is_proto-clause-ok : goal.returns-then-not-is_proto-clause-ok
returns-then-not-is_proto-clause-ok g c = on_ok c.write.result (files_with c.args.self.now.proto (λ p. g.C.Calls.history p.part.calls) (λ p. p.name) c.args.file.now (g.C.Calls.history c.args.self.now.files.calls) (search rules) (g.C.Calls.history c.write.new.self.calls) (Some c.args.bytes.now)) c.write.ensures.ok

pub returns-then-not-is_proto-clause-err : goal.returns-then-not-is_proto-clause-err
returns-then-not-is_proto-clause-err g c = if_err c.write.result (files_spoil c.args.self.now.proto (λ p. g.C.Calls.history p.part.calls) (λ p. p.name) c.args.file.now (g.C.Calls.history c.args.self.now.files.calls) (search rules) (g.C.Calls.history c.write.new.self.calls)) c.write.ensures.err

pub returns-then-not-is_proto-clause-firm : goal.returns-then-not-is_proto-clause-firm
returns-then-not-is_proto-clause-firm g c = on_ok c.write.result (λ e. files_firm c.args.self.now.proto (λ p. g.C.Calls.history p.part.calls) (λ p. p.name) c.args.file.now (g.C.Calls.history c.args.self.now.files.calls) (search rules) (g.C.Calls.history c.write.new.self.calls) ∙ e) c.write.ensures.firm

pub returns-then-not-is_proto-clause-others : goal.returns-then-not-is_proto-clause-others
returns-then-not-is_proto-clause-others g c = files_others c.args.self.now.proto (λ p. g.C.Calls.history p.part.calls) (λ p. p.name) c.args.file.now (g.C.Calls.history c.args.self.now.files.calls) (search rules) (g.C.Calls.history c.write.new.self.calls) c.write.ensures.others

pub returns-in-Some-clause-ok : goal.returns-in-Some-clause-ok
returns-in-Some-clause-ok g c = on_ok c.write-in-Some.result (proto_with c.args.self.now.proto (λ p. g.C.Calls.history p.part.calls) (λ p. p.name) c.args.file.now (g.C.Calls.history c.args.self.now.files.calls) c.in-Some.proto c.in-Some.is (search rules) (record { part = c.write-in-Some.new.self; name = c.in-Some.proto.name }) refl (Some c.args.bytes.now)) c.write-in-Some.ensures.ok

pub returns-in-Some-clause-err : goal.returns-in-Some-clause-err
returns-in-Some-clause-err g c = if_err c.write-in-Some.result (proto_spoil c.args.self.now.proto (λ p. g.C.Calls.history p.part.calls) (λ p. p.name) c.args.file.now (g.C.Calls.history c.args.self.now.files.calls) c.in-Some.proto c.in-Some.is (search rules) (record { part = c.write-in-Some.new.self; name = c.in-Some.proto.name }) refl) c.write-in-Some.ensures.err

pub returns-in-Some-clause-firm : goal.returns-in-Some-clause-firm
returns-in-Some-clause-firm g c = on_ok c.write-in-Some.result (λ e. proto_firm c.args.self.now.proto (λ p. g.C.Calls.history p.part.calls) (λ p. p.name) c.args.file.now (g.C.Calls.history c.args.self.now.files.calls) c.in-Some.proto c.in-Some.is (search rules) (record { part = c.write-in-Some.new.self; name = c.in-Some.proto.name }) refl ∙ e) c.write-in-Some.ensures.firm

pub returns-in-Some-clause-others : goal.returns-in-Some-clause-others
returns-in-Some-clause-others g c = proto_others c.args.self.now.proto (λ p. g.C.Calls.history p.part.calls) (λ p. p.name) c.args.file.now (g.C.Calls.history c.args.self.now.files.calls) c.in-Some.proto c.in-Some.is (search rules) (record { part = c.write-in-Some.new.self; name = c.in-Some.proto.name }) refl
