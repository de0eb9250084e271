use Rattle.std.proofs.Common.{◌≡◌, ◌≤◌, Some, Ok, Err, refl, sym, subst, arith}
use Rattle.std.proofs.lemmas.Result.{err_from_is_err_and}
use Rattle.fsfs_revision.specs.Rep.Frames.{rev_of}
use Rattle.fsfs_revision.proofs.Keeping.{keeps_trans}
use Rattle.fsfs_dag.specs.Views.{home_of}
use Rattle.fsfs_dag.proofs.Reps.{rep_le}
use Rattle.fsfs_stands.specs.FileTexts.{MetFileText, FileText}
use Rattle.fsfs_look.specs.Written.{Writes}
use Rattle.fsfs_look.specs.declared.look_error.LookError.{LookError}
use Rattle.fsfs_look.proofs.NodeTexts.{none_met}
use Rattle.fsfs_look.proofs.FileLemmas.{dir_refused, file_empty, file_wrong, file_written}
use Rattle.fsfs_look.proofs.BelowHome.{stands_within}
use Rattle.fsfs_look.proofs.file.cat.Goals as goal

pub returns-in_err-found-clause-told : goal.returns-in_err-found-clause-told
returns-in_err-found-clause-told g c = λ look knows.
    let e = err_from_is_err_and c.from_residual.result c.from_residual.ensures.1 in
    rw (e.1, e.2) (none_met look c.args.rev c.args.path.now (MetFileText look) (g.S.Sink.written c.args.sink.now) c.in_err-found.field-0.0 (λ names. (refl, refl)) (λ names. (refl, refl)) (c.in_err-found.ensures.told look knows))

pub returns-in_err-found-clause-sink : goal.returns-in_err-found-clause-sink
returns-in_err-found-clause-sink g c =
    let e = err_from_is_err_and c.from_residual.result c.from_residual.ensures.1 in
    let q = c.in_err-found.ensures.quiet (g.S.Sink.faults c.args.sink.now) in
    rw (e.1, e.2) (record { later = q.later; failed = q.failed })

pub returns-in-Dir-clause-told : goal.returns-in-Dir-clause-told
returns-in-Dir-clause-told g c = λ look knows.
    dir_refused look c.args.rev c.args.path.now c.in_ok-found.found.node (c.in_ok-found.ensures.told look knows) (g.S.Sink.written c.args.sink.now) c.in-Dir.is

pub returns-in-None-clause-told : goal.returns-in-None-clause-told
returns-in-None-clause-told g c = λ look knows.
    file_empty look c.args.rev c.args.path.now c.in_ok-found.found.node (c.in_ok-found.ensures.told look knows) c.in-File.is (g.S.Sink.written c.args.sink.now) c.in-None.ensures.value

pub returns-in-Ok-clause-told : goal.returns-in-Ok-clause-told
returns-in-Ok-clause-told g c = λ look knows.
    let v = c.in_ok-found.found.node in
    let met = c.in_ok-found.ensures.told look knows in
    let rep = c.in-Some.rep.now in
    let told = (g.B.Book.told c.found_at.new.book).revs in
    let home : rev_of rep ≤ (home_of v).rev = rep_le (home_of v) rep.rev rep.offset c.in-Some.ensures.before in
    let upto : rev_of rep ≤ c.args.rev = omega (arith, home, stands_within look c.args.rev c.args.path.now v met) in
    let known : told (rev_of rep) ≡ Some (look (rev_of rep)) = c.in_ok-found.ensures.kept.revs (rev_of rep) (look (rev_of rep)) (knows (rev_of rep) upto) in
    file_written look c.args.rev c.args.path.now v met c.in-File.is rep c.in-Some.ensures.value told known c.in-Ok.ensures.bytes c.in-Ok.ensures.refused (g.S.Sink.written c.args.sink.now) (g.S.Sink.written c.write_rep.new.sink) c.write_rep.result
    (λ bytes e whole. c.write_rep.ensures.told bytes (c.in-Ok.ensures.kept.revs (rev_of rep) (Ok bytes) e) whole)

pub returns-in-Ok-clause-kept : goal.returns-in-Ok-clause-kept
returns-in-Ok-clause-kept g c = keeps_trans _ _ _ c.in_ok-found.ensures.kept (keeps_trans _ _ _ c.in-Ok.ensures.kept c.write_rep.ensures.kept)

pub returns-clause-told : goal.returns-clause-told
returns-clause-told g c = λ look knows.
    let v = c.in_ok-found.found.node in
    let met = c.in_ok-found.ensures.told look knows in
    let rep = c.in-Some.rep.now in
    let told = (g.B.Book.told c.found_at.new.book).revs in
    let home : rev_of rep ≤ (home_of v).rev = rep_le (home_of v) rep.rev rep.offset c.in-Some.ensures.before in
    let upto : rev_of rep ≤ c.args.rev = omega (arith, home, stands_within look c.args.rev c.args.path.now v met) in
    let known : told (rev_of rep) ≡ Some (look (rev_of rep)) = c.in_ok-found.ensures.kept.revs (rev_of rep) (look (rev_of rep)) (knows (rev_of rep) upto) in
    subst (λ (e : LookError). Writes (FileText look c.args.rev c.args.path.now) (g.S.Sink.written c.args.sink.now) (g.S.Sink.written c.args.sink.now) (Err e)) (sym c.from.ensures)
    (file_wrong look c.args.rev c.args.path.now v met c.in-File.is rep c.in-Some.ensures.value told known (g.S.Sink.written c.args.sink.now) c.in-Err.error c.in-Err.ensures.bytes c.in-Err.ensures.refused)

pub returns-clause-kept : goal.returns-clause-kept
returns-clause-kept g c = keeps_trans _ _ _ c.in_ok-found.ensures.kept c.in-Err.ensures.kept
