use Rattle.std.proofs.Common.{◌≡◌, rules, sym, ap, ◌∙◌}
use Rattle.fsfs_folders.proofs.Clearing.{bare_short, bare_kept, empty_told}
use Rattle.fsfs_folders.proofs.ProtoLemmas.{new_whole, whole_as}
use Rattle.fsfs_folders.proofs.folders.Folders.bench.Goals as goal

pub new-requires-clause-short : goal.new-requires-clause-short
new-requires-clause-short g c = bare_short (g.C.Calls.history c.in_ok-files.files) c.in_ok-files.ensures.none

pub new-requires-clause-kept : goal.new-requires-clause-kept
new-requires-clause-kept g c = bare_kept (g.C.Calls.history c.in_ok-files.files) c.in_ok-files.ensures.none

pub returns-clause-empty : goal.returns-clause-empty
returns-clause-empty g c =
    let old = g.C.Calls.history c.args.self.now.calls in
    let here = g.C.Calls.history c.in_ok-files.files in
    whole_as c.new-2.result.proto c.in_ok-proto.proto (λ p. g.C.Calls.history p.part.calls) (λ p. p.name) (g.C.Calls.history c.new-2.result.files.calls) here _ c.new-2.ensures.proto
    (ap (g.C.Calls.history) (c.new-2.ensures.calls ∙ c.new.ensures))
    (new_whole c.in_ok-proto.proto (λ p. g.C.Calls.history p.part.calls) (λ p. p.name) here old
    (empty_told here old c.in_ok-files.ensures.none (g.met.C.Calls.all_tell c.in_ok-files.files c.args.self.now.calls))
    c.in_ok-proto.ensures.gone (λ p. g.met.C.Calls.all_tell p.part.calls c.args.self.now.calls))
