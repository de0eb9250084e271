use Rattle.fsfs_folders.proofs.SoundLemmas.{sound_noted}
use Rattle.fsfs_folders.proofs.folders.Folders.note.Goals as goal

pub invariant_of-self : goal.invariant_of-self
invariant_of-self g c = record {
  sound = sound_noted (g.C.Calls.history c.args.self.now.calls) c.args.self.now.changed c.add.new.self c.args.self.now.is_settled c.add.ensures.more c.args.self.now.sound;
}
