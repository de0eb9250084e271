use Rattle.fsfs_folders.proofs.SoundLemmas.{sound_keeps}
use Rattle.fsfs_folders.proofs.CrashTheorem.{leaves_images}
use Rattle.fsfs_folders.proofs.folders.Folders.leaves_images.Goals as goal

pub returns : goal.returns
returns g c =
    let calls = g.C.Calls.history c.args.self.now.calls in
    leaves_images calls (sound_keeps calls c.args.self.now.changed c.args.self.now.is_settled c.args.self.now.sound)
