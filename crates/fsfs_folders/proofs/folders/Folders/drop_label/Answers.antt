use Rattle.std.proofs.Common.{◌≡◌, rules, true, false, inl, inr, refl, sym, ap, subst, ◌∙◌}
use Rattle.fsfs_disk.specs.Labels.{label_of}
use Rattle.fsfs_folders.specs.System.CallRecord.{DropFolder}
use Rattle.fsfs_folders.proofs.PutLemmas.{if_given}
use Rattle.fsfs_folders.proofs.WritingLemmas.{on_err}
use Rattle.fsfs_folders.proofs.FolderCalls.{made_or_not, sound_label_dropped, sound_label_synced, label_dropped, label_dropped_failed, label_not_dropped, label_was_there, label_was_absent}
use Rattle.fsfs_folders.proofs.LabelsLeft.{drops_firm, drops_same}
use Rattle.fsfs_folders.proofs.folders.Folders.drop_label.Goals as goal

pub invariant_of-self : goal.invariant_of-self
invariant_of-self g c = record {
  sound = sound_label_synced (label_of c.args.label.now) c.bench_path-path.result c.bench_path-path.ensures.path c.sync_folder.result c.folder.result (g.C.Calls.history c.args.self.now.calls) (g.C.Calls.history c.drop_tree.new.self) (g.C.Calls.history c.sync_folder.new.self)
      c.args.self.now.changed c.args.self.now.is_settled c.in-Ok.ensures.ok c.sync_folder.ensures.ok c.sync_folder.ensures.err c.args.self.now.sound;
}

pub returns-in_err-sync_folder-in-Ok-clause-err : goal.returns-in_err-sync_folder-in-Ok-clause-err
returns-in_err-sync_folder-in-Ok-clause-err g c =
    on_err c.from_residual.result (label_dropped_failed (label_of c.args.label.now) c.bench_path-path.result c.bench_path-path.ensures.path c.bench_path-path.ensures.fits c.folder.result (g.C.Calls.history c.args.self.now.calls) (g.C.Calls.history c.drop_tree.new.self) (g.C.Calls.history c.sync_folder.new.self)
    c.in-Ok.ensures.ok c.in_err-sync_folder-in-Ok.ensures.err)

pub returns-in_ok-sync_folder-in-Ok-clause-there : goal.returns-in_ok-sync_folder-in-Ok-clause-there
returns-in_ok-sync_folder-in-Ok-clause-there g c =
    label_was_there (label_of c.args.label.now) c.bench_path-path.result c.bench_path-path.ensures.path c.bench_path-path.ensures.fits (g.C.Calls.history c.args.self.now.calls) (g.C.Calls.history c.drop_tree.new.self) c.in-Ok.ensures.ok

pub returns-in_ok-sync_folder-in-Ok-clause-ok : goal.returns-in_ok-sync_folder-in-Ok-clause-ok
returns-in_ok-sync_folder-in-Ok-clause-ok g c =
    label_dropped (label_of c.args.label.now) c.bench_path-path.result c.bench_path-path.ensures.path c.bench_path-path.ensures.fits c.folder.result (g.C.Calls.history c.args.self.now.calls) (g.C.Calls.history c.drop_tree.new.self) (g.C.Calls.history c.sync_folder.new.self)
    c.in-Ok.ensures.ok c.in_ok-sync_folder-in-Ok.ensures.ok

pub returns-in-Err-NotFound-clause-there : goal.returns-in-Err-NotFound-clause-there
returns-in-Err-NotFound-clause-there g c =
    label_was_absent (label_of c.args.label.now) c.bench_path-path.result c.bench_path-path.ensures.path c.bench_path-path.ensures.fits (g.C.Calls.history c.args.self.now.calls)
    (if_given _ _ (g.C.Calls.history c.args.self.now.calls) c.in-Err-NotFound.ensures.absent (search rules))

pub invariant_of-self-in-Err-1 : goal.invariant_of-self-in-Err-1
invariant_of-self-in-Err-1 g c = record {
  sound = sound_label_dropped (label_of c.args.label.now) c.bench_path-path.result c.bench_path-path.ensures.path (g.C.Calls.history c.args.self.now.calls) (g.C.Calls.history c.drop_tree.new.self)
      c.args.self.now.changed c.args.self.now.is_settled (made_or_not c.drop_tree.result (DropFolder c.bench_path-path.result) (g.C.Calls.history c.args.self.now.calls) (g.C.Calls.history c.drop_tree.new.self) c.drop_tree.ensures.ok c.drop_tree.ensures.err) c.args.self.now.sound;
}

pub returns-in-Err-clause-err : goal.returns-in-Err-clause-err
returns-in-Err-clause-err g c =
    label_not_dropped (label_of c.args.label.now) c.bench_path-path.result c.bench_path-path.ensures.path c.bench_path-path.ensures.fits (g.C.Calls.history c.args.self.now.calls) (g.C.Calls.history c.drop_tree.new.self) c.in-Err.ensures.err

pub returns-in_ok-sync_folder-in-Ok-clause-firm : goal.returns-in_ok-sync_folder-in-Ok-clause-firm
returns-in_ok-sync_folder-in-Ok-clause-firm g c =
    drops_firm c.bench_path-path.result c.folder.result (g.C.Calls.history c.args.self.now.calls) (g.C.Calls.history c.drop_tree.new.self) (g.C.Calls.history c.sync_folder.new.self) c.folder.ensures c.in-Ok.ensures.ok c.in_ok-sync_folder-in-Ok.ensures.ok

pub returns-in-Err-NotFound-clause-firm : goal.returns-in-Err-NotFound-clause-firm
returns-in-Err-NotFound-clause-firm g c = drops_same (g.C.Calls.history c.args.self.now.calls) (g.C.Calls.history c.drop_tree.new.self) (c.in-Err-NotFound.ensures.same (search rules))
