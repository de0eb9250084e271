use Rattle.fsfs_verify.proofs.PartLemmas.{brought_next}
use Rattle.fsfs_verify.proofs.parts.Parts.end_revision.Goals as goal

pub returns : goal.returns
returns c = λ rev begun copied drawn held.
    brought_next rev c.args.self.now (record { begun = c.forget_made.new.self; copied = c.forget_made-2.new.self; drawn = c.forget_made-3.new.self }) begun copied drawn held c.forget_made.ensures c.forget_made-2.ensures c.forget_made-3.ensures
