use Rattle.std.proofs.Common.{false}
use Rattle.fsfs_folders.proofs.SoundLemmas.{sound_noted, sound_unsettled}
use Rattle.fsfs_folders.proofs.folders.Folders.doubt.Goals as goal

pub invariant_of-self : goal.invariant_of-self
invariant_of-self g c =
    let calls = g.C.Calls.history c.args.self.now.calls in
    record {
      sound = sound_noted calls c.args.self.now.changed c.add.new.self false c.add.ensures.more (sound_unsettled calls c.args.self.now.changed c.args.self.now.is_settled c.args.self.now.sound);
    }
