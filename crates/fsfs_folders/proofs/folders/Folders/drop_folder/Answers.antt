use Rattle.std.proofs.Common.{◌≡◌, rules, [], refl, true, false, sym, ap, subst, ◌∙◌, arith}
use Rattle.std.specs.Prelude.{IfSome}
use Rattle.fsfs_folders.specs.System.CallRecord.{DropFolder}
use Rattle.fsfs_folders.specs.Told.{is_inner_folder}
use Rattle.fsfs_folders.specs.Keeping.{are_names_firm}
use Rattle.fsfs_folders.specs.Standing.{told}
use Rattle.fsfs_folders.proofs.TextLemmas.{inner_parts}
use Rattle.fsfs_folders.proofs.SoundLemmas.{told_quiet, sound_unsettled}
use Rattle.fsfs_folders.proofs.LabelCalls.{told_folder_dropped, sound_folder_dropped}
use Rattle.fsfs_folders.proofs.FolderCalls.{made_or_not}
use Rattle.fsfs_folders.proofs.folders.Folders.drop_folder.Goals as goal

pub invariant_of-self : goal.invariant_of-self
invariant_of-self g c =
    let old = g.C.Calls.history c.note.new.self.calls in
    let new = g.C.Calls.history c.drop_folder.new.self in
    let name_inner : is_inner_folder c.args.name.now ≡ true = search rules in
    let inner : is_inner_folder c.of-path.result ≡ true = ap is_inner_folder c.of-path.ensures ∙ name_inner in
    record {
      sound = sound_folder_dropped c.of-path.result old new c.note.new.self.changed (c.in_ok-note.ensures.noted).0 (inner_parts c.of-path.result inner).0
          (subst (λ k. IfSome (g.C.Calls.history k) (λ r. are_names_firm [] r.calls ≡ true)) (sym c.note.ensures.same) c.in_ok-sync_changed.ensures.firm)
          (made_or_not c.drop_folder.result (DropFolder c.of-path.result) old new c.drop_folder.ensures.ok c.drop_folder.ensures.err)
          (sound_unsettled old c.note.new.self.changed c.note.new.self.is_settled c.note.new.self.sound);
    }

pub returns : goal.returns
returns g c =
    let old = g.C.Calls.history c.note.new.self.calls in
    let new = g.C.Calls.history c.drop_folder.new.self in
    let name_inner : is_inner_folder c.args.name.now ≡ true = search rules in
    let inner : is_inner_folder c.of-path.result ≡ true = ap is_inner_folder c.of-path.ensures ∙ name_inner in
    told_folder_dropped c.of-path.result old new (inner_parts c.of-path.result inner).1
    (made_or_not c.drop_folder.result (DropFolder c.of-path.result) old new c.drop_folder.ensures.ok c.drop_folder.ensures.err)
    ∙ ap (λ k. told (g.C.Calls.history k)) c.note.ensures.same
    ∙ told_quiet (g.C.Calls.history c.args.self.now.calls) (g.C.Calls.history c.sync_changed.new.self.calls) c.sync_changed.ensures.quiet
