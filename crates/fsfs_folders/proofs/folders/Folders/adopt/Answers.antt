use Rattle.std.proofs.Common.{◌≡◌, rules, true, false, inl, inr, refl, sym, ap, subst, ◌∙◌}
use Rattle.std.specs.Prelude.{is_some}
use Rattle.fsfs_folders.specs.Standing.{told}
use Rattle.fsfs_folders.proofs.Adopting.{sound_taken_by, adopted_by, adopt_failed_by}
use Rattle.fsfs_folders.proofs.folders.Folders.adopt.Goals as goal

pub invariant_of-self : goal.invariant_of-self
invariant_of-self g c = record {
  sound = sound_taken_by c.take.result c.args.file.now c.args.to.now c.requires.entry c.of.result c.of-path.result c.of.ensures c.of-path.ensures (g.C.Calls.history c.note.new.self.calls) (g.C.Calls.history c.args.part.now) (g.C.Calls.history c.take.new.self) (g.C.Calls.history c.take.new.part)
      c.note.new.self.changed c.note.new.self.is_settled (sym c.is_apart.ensures ∙ c.if-is_apart.false) (c.note.ensures.settled ∙ c.in_ok-settle.ensures.settled) (c.in_ok-note.ensures.noted).0 c.requires.firm c.requires.short c.take.ensures.ok c.take.ensures.err c.note.new.self.sound;
}

pub returns-clause-ok : goal.returns-clause-ok
returns-clause-ok g c =
    adopted_by c.take.result c.args.file.now c.args.to.now c.requires.entry c.of.result c.of-path.result c.of.ensures c.of-path.ensures (g.C.Calls.history c.args.self.now.calls) (g.C.Calls.history c.settle.new.self.calls) (g.C.Calls.history c.note.new.self.calls) (g.C.Calls.history c.args.part.now) (g.C.Calls.history c.take.new.self) (g.C.Calls.history c.take.new.part)
    (g.met.C.Calls.all_tell c.args.part.now c.note.new.self.calls) c.settle.ensures.quiet (ap (g.C.Calls.history) c.note.ensures.same) c.take.ensures.ok

pub returns-clause-err : goal.returns-clause-err
returns-clause-err g c =
    adopt_failed_by c.take.result c.args.file.now c.args.to.now c.requires.entry c.of.result c.of-path.result c.of.ensures c.of-path.ensures (g.C.Calls.history c.args.self.now.calls) (g.C.Calls.history c.settle.new.self.calls) (g.C.Calls.history c.note.new.self.calls) (g.C.Calls.history c.args.part.now) (g.C.Calls.history c.take.new.self) (g.C.Calls.history c.take.new.part)
    (g.met.C.Calls.all_tell c.args.part.now c.note.new.self.calls) c.settle.ensures.quiet (ap (g.C.Calls.history) c.note.ensures.same) c.take.ensures.err
