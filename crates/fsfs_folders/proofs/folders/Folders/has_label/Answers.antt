use Rattle.std.proofs.Common.{◌≡◌}
use Rattle.fsfs_disk.specs.Labels.{label_of}
use Rattle.fsfs_folders.proofs.LabelCalls.{label_asked}
use Rattle.fsfs_folders.proofs.folders.Folders.has_label.Goals as goal

pub returns-clause-there : goal.returns-clause-there
returns-clause-there g c =
    label_asked (label_of c.args.label.now) c.bench_path.result c.bench_path.ensures.path c.bench_path.ensures.fits c.is_folder.result (g.C.Calls.history c.args.self.now.calls) c.is_folder.ensures.folder
