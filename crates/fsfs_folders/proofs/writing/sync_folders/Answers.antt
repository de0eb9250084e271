use Rattle.std.proofs.Common.{◌≡◌, ◌++◌, ◌∷◌, [], List, ℕ, ◌+◌, take, length, sym, ap, subst, ◌∙◌, arith}
use Rattle.std.proofs.lemmas.List.{take_all, take_more}
use Rattle.fsfs_folders.specs.Quiet.{IsQuiet, IsSynced}
use Rattle.fsfs_folders.proofs.QuietLemmas.{quiet_none, synced_none, sync_more, sync_failed}
use Rattle.fsfs_folders.proofs.writing.sync_folders.Goals as goal

pub loop-folder-init : goal.loop-folder-init
loop-folder-init g c = (quiet_none (g.C.Calls.history c.args.calls.now), synced_none (g.C.Calls.history c.args.calls.now))

pub loop-folder-preserved : goal.loop-folder-preserved
loop-folder-preserved g c =
    let so = c.loop-folder.invariant in
    let folders = c.args.folders.now in
    let i = c.loop-folder.folder-index in
    let folder = c.folder-item.result in
    let more = sync_more (take i folders) folder (g.C.Calls.history c.args.calls.now) (g.C.Calls.history c.loop-folder.calls) (g.C.Calls.history c.sync_folder.new.self) so.0 so.1 c.in_ok-sync_folder.ensures.ok in
    let here : take i folders ++ folder ∷ [] ≡ take (i + 1) folders = ap (λ (f : List ℕ). take i folders ++ f ∷ []) c.folder-item.is ∙ sym (take_more folders i folder (omega arith)) in
    (more.0, subst (λ fs. IsSynced fs (g.C.Calls.history c.args.calls.now) (g.C.Calls.history c.sync_folder.new.self)) here more.1)

pub returns-in_err-sync_folder-clause-quiet : goal.returns-in_err-sync_folder-clause-quiet
returns-in_err-sync_folder-clause-quiet g c =
    sync_failed c.folder-item.result (g.C.Calls.history c.args.calls.now) (g.C.Calls.history c.loop-folder.calls) (g.C.Calls.history c.sync_folder.new.self) (c.loop-folder.invariant).0 c.in_err-sync_folder.ensures.err

pub returns-clause-quiet : goal.returns-clause-quiet
returns-clause-quiet g c = (c.loop-folder.invariant).0

pub returns-clause-ok : goal.returns-clause-ok
returns-clause-ok g c =
    subst (λ fs. IsSynced fs (g.C.Calls.history c.args.calls.now) (g.C.Calls.history c.loop-folder.calls)) (take_all c.loop-folder.folder-index c.args.folders.now (omega arith)) (c.loop-folder.invariant).1
