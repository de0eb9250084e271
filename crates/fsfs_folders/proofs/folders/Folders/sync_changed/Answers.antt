use Rattle.std.proofs.Common.{◌≡◌, true, sym, subst}
use Rattle.fsfs_folders.specs.Keeping.{is_sound}
use Rattle.fsfs_folders.specs.Quiet.{IsSynced}
use Rattle.fsfs_folders.proofs.SoundLemmas.{sound_synced}
use Rattle.fsfs_folders.proofs.folders.Folders.sync_changed.Goals as goal

pub invariant_of-self-2 : goal.invariant_of-self-2
invariant_of-self-2 g c =
    let old = g.C.Calls.history c.args.self.now.calls in
    let new = g.C.Calls.history c.sync_folders.new.calls in
    record {
      sound = subst (λ changed. is_sound new changed true ≡ true) (sym c.clear.ensures)
          (sound_synced old new c.args.self.now.changed c.args.self.now.is_settled c.sync_folders.ensures.quiet (subst (λ fs. IsSynced fs old new) c.paths.ensures c.in_ok-sync_folders.ensures.ok) c.args.self.now.sound);
    }
