use Rattle.fsfs_dag.proofs.Reps.{rep_le}
use Rattle.fsfs_revision.specs.Rep.Frames.{rev_of}
use Rattle.fsfs_verify.proofs.NodeLemmas.{text_found}
use Rattle.fsfs_verify.proofs.contents.check_text.Goals as goal

pub returns-in-Some-clause-told : goal.returns-in-Some-clause-told
returns-in-Some-clause-told g c = λ look knows precedes.
    let rep = c.in-Some.rep.now in
    text_found look c.args.file.now.node rep c.in-Some.ensures.value ((g.B.Book.told c.args.book.now).revs (rev_of rep)) (knows _ (rep_le _ rep.rev rep.offset c.in-Some.ensures.before)) c.check_either.result c.check_either.ensures.bytes c.check_either.ensures.refused
