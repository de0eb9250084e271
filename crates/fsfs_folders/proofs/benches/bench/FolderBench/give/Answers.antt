use Rattle.std.proofs.Common.{◌≡◌, rules, refl, sym, ap, subst, ◌∙◌}
use Rattle.std.specs.Prelude.{None}
use Rattle.fsfs_disk.specs.Trace.{Adopt, Performs}
use Rattle.fsfs_folders.specs.Standing.{told}
use Rattle.fsfs_folders.proofs.PutLemmas.{on_ok}
use Rattle.fsfs_folders.proofs.WritingLemmas.{on_err}
use Rattle.fsfs_folders.proofs.ProtoLemmas.{files_with, files_fail, files_others, files_bytes, files_are_firm, proto_with, proto_fail, proto_others, proto_bytes, proto_is_firm, tells_by, if_err}
use Rattle.fsfs_folders.proofs.benches.bench.FolderBench.give.Goals as goal

pub returns-then-not-is_proto-clause-ok : goal.returns-then-not-is_proto-clause-ok
returns-then-not-is_proto-clause-ok g c = on_ok c.give.result (λ e. subst (λ t. Performs (Adopt c.args.to.now t) (told (g.C.Calls.history c.args.folders.now.calls)) (told (g.C.Calls.history c.give.new.folders.calls))) (sym (files_bytes c.args.self.now.proto (λ p. g.C.Calls.history p.part.calls) (λ p. p.name) c.args.file.now (g.C.Calls.history c.args.self.now.files.calls) (search rules) (λ p. tells_by (g.C.Calls.history c.args.self.now.files.calls) (g.C.Calls.history p.part.calls) (g.met.C.Calls.all_tell c.args.self.now.files.calls p.part.calls)))) e) c.give.ensures.ok

pub returns-then-not-is_proto-clause-gone : goal.returns-then-not-is_proto-clause-gone
returns-then-not-is_proto-clause-gone g c = on_ok c.give.result (files_with c.args.self.now.proto (λ p. g.C.Calls.history p.part.calls) (λ p. p.name) c.args.file.now (g.C.Calls.history c.args.self.now.files.calls) (search rules) (g.C.Calls.history c.give.new.self.calls) None) c.give.ensures.gone

pub returns-then-not-is_proto-clause-err : goal.returns-then-not-is_proto-clause-err
returns-then-not-is_proto-clause-err g c = if_err c.give.result (files_fail c.args.self.now.proto (λ p. g.C.Calls.history p.part.calls) (λ p. p.name) c.args.file.now (g.C.Calls.history c.args.self.now.files.calls) (search rules) (g.C.Calls.history c.give.new.self.calls) c.args.to.now (told (g.C.Calls.history c.args.folders.now.calls)) (told (g.C.Calls.history c.give.new.folders.calls)) (λ p. tells_by (g.C.Calls.history c.args.self.now.files.calls) (g.C.Calls.history p.part.calls) (g.met.C.Calls.all_tell c.args.self.now.files.calls p.part.calls))) c.give.ensures.err

pub returns-then-not-is_proto-clause-others : goal.returns-then-not-is_proto-clause-others
returns-then-not-is_proto-clause-others g c = files_others c.args.self.now.proto (λ p. g.C.Calls.history p.part.calls) (λ p. p.name) c.args.file.now (g.C.Calls.history c.args.self.now.files.calls) (search rules) (g.C.Calls.history c.give.new.self.calls) c.give.ensures.others

pub returns-in-Some-clause-ok : goal.returns-in-Some-clause-ok
returns-in-Some-clause-ok g c = on_ok c.give-in-Some.result (λ e. subst (λ t. Performs (Adopt c.args.to.now t) (told (g.C.Calls.history c.args.folders.now.calls)) (told (g.C.Calls.history c.give-in-Some.new.folders.calls))) (sym (proto_bytes c.args.self.now.proto (λ p. g.C.Calls.history p.part.calls) (λ p. p.name) c.args.file.now (g.C.Calls.history c.args.self.now.files.calls) c.in-Some.proto c.in-Some.is (search rules) (tells_by (g.C.Calls.history c.args.self.now.files.calls) (g.C.Calls.history c.in-Some.proto.part.calls) (g.met.C.Calls.all_tell c.args.self.now.files.calls c.in-Some.proto.part.calls)))) e) c.give-in-Some.ensures.ok

pub returns-in-Some-clause-gone : goal.returns-in-Some-clause-gone
returns-in-Some-clause-gone g c = on_ok c.give-in-Some.result (proto_with c.args.self.now.proto (λ p. g.C.Calls.history p.part.calls) (λ p. p.name) c.args.file.now (g.C.Calls.history c.args.self.now.files.calls) c.in-Some.proto c.in-Some.is (search rules) (record { part = c.give-in-Some.new.self; name = c.in-Some.proto.name }) refl None) c.give-in-Some.ensures.gone

pub returns-in-Some-clause-err : goal.returns-in-Some-clause-err
returns-in-Some-clause-err g c = if_err c.give-in-Some.result (proto_fail c.args.self.now.proto (λ p. g.C.Calls.history p.part.calls) (λ p. p.name) c.args.file.now (g.C.Calls.history c.args.self.now.files.calls) c.in-Some.proto c.in-Some.is (search rules) (record { part = c.give-in-Some.new.self; name = c.in-Some.proto.name }) refl c.args.to.now (told (g.C.Calls.history c.args.folders.now.calls)) (told (g.C.Calls.history c.give-in-Some.new.folders.calls)) (tells_by (g.C.Calls.history c.args.self.now.files.calls) (g.C.Calls.history c.in-Some.proto.part.calls) (g.met.C.Calls.all_tell c.args.self.now.files.calls c.in-Some.proto.part.calls))) c.give-in-Some.ensures.err

pub returns-in-Some-clause-others : goal.returns-in-Some-clause-others
returns-in-Some-clause-others g c = proto_others c.args.self.now.proto (λ p. g.C.Calls.history p.part.calls) (λ p. p.name) c.args.file.now (g.C.Calls.history c.args.self.now.files.calls) c.in-Some.proto c.in-Some.is (search rules) (record { part = c.give-in-Some.new.self; name = c.in-Some.proto.name }) refl

pub give-requires : goal.give-requires
give-requires g c = files_are_firm c.args.self.now.proto (λ p. g.C.Calls.history p.part.calls) (λ p. p.name) c.args.file.now (g.C.Calls.history c.args.self.now.files.calls) (search rules) (λ p. tells_by (g.C.Calls.history c.args.self.now.files.calls) (g.C.Calls.history p.part.calls) (g.met.C.Calls.all_tell c.args.self.now.files.calls p.part.calls)) c.requires

pub give-requires-in-Some : goal.give-requires-in-Some
give-requires-in-Some g c = proto_is_firm c.args.self.now.proto (λ p. g.C.Calls.history p.part.calls) (λ p. p.name) c.args.file.now (g.C.Calls.history c.args.self.now.files.calls) c.in-Some.proto c.in-Some.is (search rules) (tells_by (g.C.Calls.history c.args.self.now.files.calls) (g.C.Calls.history c.in-Some.proto.part.calls) (g.met.C.Calls.all_tell c.args.self.now.files.calls c.in-Some.proto.part.calls)) c.requires
