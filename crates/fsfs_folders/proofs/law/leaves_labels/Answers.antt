use Rattle.fsfs_folders.proofs.LabelsLeft.{leaves_labels}
use Rattle.fsfs_folders.proofs.law.leaves_labels.Goals as goal

pub returns : goal.returns
returns g c = leaves_labels (g.C.Calls.history c.args.calls.now) c.requires
