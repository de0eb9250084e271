use Rattle.fsfs_folders.proofs.CrashTheorem.{leaves_images}
use Rattle.fsfs_folders.proofs.law.leaves_images.Goals as goal

pub returns : goal.returns
returns g c = leaves_images (g.C.Calls.history c.args.calls.now) c.requires
