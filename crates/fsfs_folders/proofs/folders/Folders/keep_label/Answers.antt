use Rattle.std.proofs.Common.{◌≡◌, rules, true, false, inl, inr, refl, sym, ap, subst, ◌∙◌}
use Rattle.fsfs_disk.specs.Labels.{label_of}
use Rattle.fsfs_folders.proofs.FolderCalls.{sound_label_made, label_made, label_not_made}
use Rattle.fsfs_folders.proofs.folders.Folders.keep_label.Goals as goal

pub invariant_of-self : goal.invariant_of-self
invariant_of-self g c = record {
  sound = sound_label_made (label_of c.args.label.now) c.bench_path.result c.bench_path.ensures.path c.make_folder.result (g.C.Calls.history c.args.self.now.calls) (g.C.Calls.history c.make_folder.new.self)
      c.args.self.now.changed c.args.self.now.is_settled c.make_folder.ensures.ok c.make_folder.ensures.err c.args.self.now.sound;
}

pub returns-clause-ok : goal.returns-clause-ok
returns-clause-ok g c =
    label_made (label_of c.args.label.now) c.bench_path.result c.bench_path.ensures.path c.make_folder.result c.bench_path.ensures.fits (g.C.Calls.history c.args.self.now.calls) (g.C.Calls.history c.make_folder.new.self) c.make_folder.ensures.ok

pub returns-clause-err : goal.returns-clause-err
returns-clause-err g c =
    label_not_made (label_of c.args.label.now) c.bench_path.result c.bench_path.ensures.path c.make_folder.result c.bench_path.ensures.fits (g.C.Calls.history c.args.self.now.calls) (g.C.Calls.history c.make_folder.new.self) c.make_folder.ensures.err
