use Rattle.std.proofs.Common.{◌≡◌, rules, refl, sym, ap, subst, ◌∙◌}
use Rattle.std.specs.Prelude.{Some, None}
use Rattle.fsfs_folders.proofs.PutLemmas.{on_ok}
use Rattle.fsfs_folders.proofs.WritingLemmas.{on_err}
use Rattle.fsfs_folders.proofs.ProtoLemmas.{files_appended, files_spoil, files_firm_was, files_others, proto_appended, proto_spoil, proto_firm_was, proto_others, if_err}
use Rattle.fsfs_folders.proofs.benches.bench.FolderBench.try_append.Goals as goal

pub returns-then-not-is_proto-clause-ok : goal.returns-then-not-is_proto-clause-ok
returns-then-not-is_proto-clause-ok g c = on_ok c.append.result (files_appended c.args.self.now.proto (λ p. g.C.Calls.history p.part.calls) (λ p. p.name) c.args.file.now (g.C.Calls.history c.args.self.now.files.calls) (search rules) (g.C.Calls.history c.append.new.self.calls) c.args.bytes.now) c.append.ensures.ok

pub returns-then-not-is_proto-clause-err : goal.returns-then-not-is_proto-clause-err
returns-then-not-is_proto-clause-err g c = if_err c.append.result (files_spoil c.args.self.now.proto (λ p. g.C.Calls.history p.part.calls) (λ p. p.name) c.args.file.now (g.C.Calls.history c.args.self.now.files.calls) (search rules) (g.C.Calls.history c.append.new.self.calls)) c.append.ensures.err

pub returns-then-not-is_proto-clause-firm : goal.returns-then-not-is_proto-clause-firm
returns-then-not-is_proto-clause-firm g c = on_ok c.append.result (files_firm_was c.args.self.now.proto (λ p. g.C.Calls.history p.part.calls) (λ p. p.name) c.args.file.now (g.C.Calls.history c.args.self.now.files.calls) (search rules) (g.C.Calls.history c.append.new.self.calls)) c.append.ensures.firm

pub returns-then-not-is_proto-clause-others : goal.returns-then-not-is_proto-clause-others
returns-then-not-is_proto-clause-others g c = files_others c.args.self.now.proto (λ p. g.C.Calls.history p.part.calls) (λ p. p.name) c.args.file.now (g.C.Calls.history c.args.self.now.files.calls) (search rules) (g.C.Calls.history c.append.new.self.calls) c.append.ensures.others

pub returns-in-Some-clause-ok : goal.returns-in-Some-clause-ok
returns-in-Some-clause-ok g c = on_ok c.append-in-Some.result (proto_appended c.args.self.now.proto (λ p. g.C.Calls.history p.part.calls) (λ p. p.name) c.args.file.now (g.C.Calls.history c.args.self.now.files.calls) c.in-Some.proto c.in-Some.is (search rules) (record { part = c.append-in-Some.new.self; name = c.in-Some.proto.name }) refl c.args.bytes.now) c.append-in-Some.ensures.ok

pub returns-in-Some-clause-err : goal.returns-in-Some-clause-err
returns-in-Some-clause-err g c = if_err c.append-in-Some.result (proto_spoil c.args.self.now.proto (λ p. g.C.Calls.history p.part.calls) (λ p. p.name) c.args.file.now (g.C.Calls.history c.args.self.now.files.calls) c.in-Some.proto c.in-Some.is (search rules) (record { part = c.append-in-Some.new.self; name = c.in-Some.proto.name }) refl) c.append-in-Some.ensures.err

pub returns-in-Some-clause-firm : goal.returns-in-Some-clause-firm
returns-in-Some-clause-firm g c = on_ok c.append-in-Some.result (proto_firm_was c.args.self.now.proto (λ p. g.C.Calls.history p.part.calls) (λ p. p.name) c.args.file.now (g.C.Calls.history c.args.self.now.files.calls) c.in-Some.proto c.in-Some.is (search rules) (record { part = c.append-in-Some.new.self; name = c.in-Some.proto.name }) refl) c.append-in-Some.ensures.firm

pub returns-in-Some-clause-others : goal.returns-in-Some-clause-others
returns-in-Some-clause-others g c = proto_others c.args.self.now.proto (λ p. g.C.Calls.history p.part.calls) (λ p. p.name) c.args.file.now (g.C.Calls.history c.args.self.now.files.calls) c.in-Some.proto c.in-Some.is (search rules) (record { part = c.append-in-Some.new.self; name = c.in-Some.proto.name }) refl
