use Rattle.std.proofs.Common.{◌≤◌, arith}
use Rattle.fsfs_revision.specs.Rep.Frames.{rev_of}
use Rattle.fsfs_dag.specs.Views.{home_of}
use Rattle.fsfs_dag.proofs.Reps.{rep_le}
use Rattle.fsfs_look.proofs.BelowHome.{stands_within}
use Rattle.fsfs_job_run.proofs.TextLemmas.{read_whole, read_wrong}
use Rattle.fsfs_job_run.proofs.reads.text.text_at.Goals as goal

pub returns-in-Ok-clause-told : goal.returns-in-Ok-clause-told
returns-in-Ok-clause-told g c = λ look path knows met.
    let v = c.args.found.now.node in
    let rep = c.in-Some.rep.now in
    let home : rev_of rep ≤ (home_of v).rev = rep_le (home_of v) rep.rev rep.offset c.in-Some.ensures.before in
    let upto : rev_of rep ≤ c.args.rev = omega (arith, home, stands_within look c.args.rev path v met) in
    read_whole look c.args.rev path v met c.requires.file rep c.in-Some.ensures.value (g.B.Book.told c.args.book.now).revs (knows (rev_of rep) upto) c.in-Ok.ensures.bytes c.in-Ok.ensures.refused

pub returns-in-Err-clause-told : goal.returns-in-Err-clause-told
returns-in-Err-clause-told g c = λ look path knows met.
    let v = c.args.found.now.node in
    let rep = c.in-Some.rep.now in
    let home : rev_of rep ≤ (home_of v).rev = rep_le (home_of v) rep.rev rep.offset c.in-Some.ensures.before in
    let upto : rev_of rep ≤ c.args.rev = omega (arith, home, stands_within look c.args.rev path v met) in
    rw c.from.ensures (read_wrong look c.args.rev path v met c.requires.file rep c.in-Some.ensures.value (g.B.Book.told c.args.book.now).revs (knows (rev_of rep) upto) c.in-Err.error c.in-Err.ensures.bytes c.in-Err.ensures.refused)
