use Rattle.std.proofs.Common.{◌≡◌, rules, refl, sym, ap, subst, ◌∙◌}
use Rattle.std.proofs.Common.{ℕ, List, length}
use Rattle.fsfs_folders.proofs.PutLemmas.{on_ok}
use Rattle.fsfs_folders.proofs.WritingLemmas.{on_err}
use Rattle.fsfs_folders.proofs.ProtoLemmas.{files_same, files_spoil, files_firm, files_others, files_bytes, proto_same, proto_spoil, proto_firm, proto_others, proto_bytes, tells_by, if_err}
use Rattle.fsfs_folders.proofs.benches.bench.FolderBench.try_firm.Goals as goal

pub returns-then-not-is_proto-clause-ok : goal.returns-then-not-is_proto-clause-ok
returns-then-not-is_proto-clause-ok g c = on_ok c.firm.result (files_same c.args.self.now.proto (λ p. g.C.Calls.history p.part.calls) (λ p. p.name) c.args.file.now (g.C.Calls.history c.args.self.now.files.calls) (search rules) (g.C.Calls.history c.firm.new.self.calls)) c.firm.ensures.ok

pub returns-then-not-is_proto-clause-err : goal.returns-then-not-is_proto-clause-err
returns-then-not-is_proto-clause-err g c = if_err c.firm.result (files_spoil c.args.self.now.proto (λ p. g.C.Calls.history p.part.calls) (λ p. p.name) c.args.file.now (g.C.Calls.history c.args.self.now.files.calls) (search rules) (g.C.Calls.history c.firm.new.self.calls)) c.firm.ensures.err

pub returns-then-not-is_proto-clause-firm : goal.returns-then-not-is_proto-clause-firm
returns-then-not-is_proto-clause-firm g c = on_ok c.firm.result (λ e. files_firm c.args.self.now.proto (λ p. g.C.Calls.history p.part.calls) (λ p. p.name) c.args.file.now (g.C.Calls.history c.args.self.now.files.calls) (search rules) (g.C.Calls.history c.firm.new.self.calls) ∙ e ∙ ap (λ (t : List ℕ). length t) (sym (files_bytes c.args.self.now.proto (λ p. g.C.Calls.history p.part.calls) (λ p. p.name) c.args.file.now (g.C.Calls.history c.args.self.now.files.calls) (search rules) (λ p. tells_by (g.C.Calls.history c.args.self.now.files.calls) (g.C.Calls.history p.part.calls) (g.met.C.Calls.all_tell c.args.self.now.files.calls p.part.calls))))) c.firm.ensures.firm

pub returns-then-not-is_proto-clause-others : goal.returns-then-not-is_proto-clause-others
returns-then-not-is_proto-clause-others g c = files_others c.args.self.now.proto (λ p. g.C.Calls.history p.part.calls) (λ p. p.name) c.args.file.now (g.C.Calls.history c.args.self.now.files.calls) (search rules) (g.C.Calls.history c.firm.new.self.calls) c.firm.ensures.others

pub returns-in-Some-clause-ok : goal.returns-in-Some-clause-ok
returns-in-Some-clause-ok g c = on_ok c.firm-in-Some.result (proto_same c.args.self.now.proto (λ p. g.C.Calls.history p.part.calls) (λ p. p.name) c.args.file.now (g.C.Calls.history c.args.self.now.files.calls) c.in-Some.proto c.in-Some.is (search rules) (record { part = c.firm-in-Some.new.self; name = c.in-Some.proto.name }) refl) c.firm-in-Some.ensures.ok

pub returns-in-Some-clause-err : goal.returns-in-Some-clause-err
returns-in-Some-clause-err g c = if_err c.firm-in-Some.result (proto_spoil c.args.self.now.proto (λ p. g.C.Calls.history p.part.calls) (λ p. p.name) c.args.file.now (g.C.Calls.history c.args.self.now.files.calls) c.in-Some.proto c.in-Some.is (search rules) (record { part = c.firm-in-Some.new.self; name = c.in-Some.proto.name }) refl) c.firm-in-Some.ensures.err

pub returns-in-Some-clause-firm : goal.returns-in-Some-clause-firm
returns-in-Some-clause-firm g c = on_ok c.firm-in-Some.result (λ e. proto_firm c.args.self.now.proto (λ p. g.C.Calls.history p.part.calls) (λ p. p.name) c.args.file.now (g.C.Calls.history c.args.self.now.files.calls) c.in-Some.proto c.in-Some.is (search rules) (record { part = c.firm-in-Some.new.self; name = c.in-Some.proto.name }) refl ∙ e ∙ ap (λ (t : List ℕ). length t) (sym (proto_bytes c.args.self.now.proto (λ p. g.C.Calls.history p.part.calls) (λ p. p.name) c.args.file.now (g.C.Calls.history c.args.self.now.files.calls) c.in-Some.proto c.in-Some.is (search rules) (tells_by (g.C.Calls.history c.args.self.now.files.calls) (g.C.Calls.history c.in-Some.proto.part.calls) (g.met.C.Calls.all_tell c.args.self.now.files.calls c.in-Some.proto.part.calls))))) c.firm-in-Some.ensures.firm

pub returns-in-Some-clause-others : goal.returns-in-Some-clause-others
returns-in-Some-clause-others g c = proto_others c.args.self.now.proto (λ p. g.C.Calls.history p.part.calls) (λ p. p.name) c.args.file.now (g.C.Calls.history c.args.self.now.files.calls) c.in-Some.proto c.in-Some.is (search rules) (record { part = c.firm-in-Some.new.self; name = c.in-Some.proto.name }) refl
