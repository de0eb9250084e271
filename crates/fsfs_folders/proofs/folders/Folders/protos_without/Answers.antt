use Rattle.std.proofs.Common.{◌≡◌, rules, sym, ap, ◌∙◌}
use Rattle.fsfs_folders.proofs.Clearing.{begun_short, begun_kept, cleared_here, cleared_short, cleared_kept}
use Rattle.fsfs_folders.proofs.folders.Folders.protos_without.Goals as goal

pub returns-clause-gone : goal.returns-clause-gone
returns-clause-gone g c = λ name has. cleared_here c.args.names.now name (g.C.Calls.history c.in_ok-part.part) (g.C.Calls.history c.remove_all.new.calls) c.in_ok-remove_all.ensures has

pub returns-clause-short : goal.returns-clause-short
returns-clause-short g c =
    cleared_short c.args.names.now (g.C.Calls.history c.in_ok-part.part) (g.C.Calls.history c.remove_all.new.calls) c.in_ok-remove_all.ensures
    (begun_short (g.C.Calls.history c.args.self.now.calls) (g.C.Calls.history c.in_ok-part.part) c.in_ok-part.ensures.begins)

pub returns-clause-kept : goal.returns-clause-kept
returns-clause-kept g c =
    cleared_kept c.args.names.now (g.C.Calls.history c.in_ok-part.part) (g.C.Calls.history c.remove_all.new.calls) c.in_ok-remove_all.ensures
    (begun_kept (g.C.Calls.history c.args.self.now.calls) (g.C.Calls.history c.in_ok-part.part) c.in_ok-part.ensures.begins)
