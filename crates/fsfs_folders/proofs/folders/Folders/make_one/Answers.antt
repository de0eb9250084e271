use Rattle.std.proofs.Common.{◌≡◌, rules, refl, true, false, sym, ap, subst, ◌∙◌, arith}
use Rattle.fsfs_folders.specs.System.CallRecord.{MakeFolder}
use Rattle.fsfs_folders.specs.Told.{is_in_bench}
use Rattle.fsfs_folders.specs.Standing.{told}
use Rattle.fsfs_folders.proofs.SoundLemmas.{told_folder}
use Rattle.fsfs_folders.proofs.FolderCalls.{made_or_not}
use Rattle.fsfs_folders.proofs.folders.Folders.make_one.Goals as goal

pub returns : goal.returns
returns g c =
    let old = g.C.Calls.history c.note.new.self.calls in
    let new = g.C.Calls.history c.make_folder.new.self in
    record {
      told = told_folder c.args.path.now old new (sym (c.is_in_bench.ensures ∙ ap is_in_bench c.as_str.ensures.text) ∙ c.if-is_in_bench.false)
          (made_or_not c.make_folder.result (MakeFolder c.args.path.now) old new c.make_folder.ensures.ok c.make_folder.ensures.err)
          ∙ ap (λ k. told (g.C.Calls.history k)) c.note.ensures.same;
    }
