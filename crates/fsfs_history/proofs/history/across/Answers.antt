use Rattle.std.proofs.Common.{arith}
use Rattle.std.proofs.lemmas.Result.{err_from_is_err_and}
use Rattle.fsfs_revision.proofs.Keeping.{keeps_trans}
use Rattle.fsfs_history.proofs.HistoryLemmas.{across_wrong, across_absent, across_file, across_point, point_within}
use Rattle.fsfs_history.proofs.history.across.Goals as goal

pub returns-in_err-way-clause-told : goal.returns-in_err-way-clause-told
returns-in_err-way-clause-told g c = λ top look knows le.
    let e = err_from_is_err_and c.from_residual.result c.from_residual.ensures.1 in
    rw (e.1, e.2) (across_wrong look c.args.at.now c.in_err-way.field-0.0 (c.in_err-way.ensures.told look (λ r lower. knows r (omega (arith, lower, le)))))

pub returns-in-Point-clause-told : goal.returns-in-Point-clause-told
returns-in-Point-clause-told g c = λ top look knows le.
    let within = (point_within c.args.at.now.root.rev c.in_ok-way.way c.in-Point.copy c.in-Point.is c.in_ok-way.ensures.within).own in
    across_point look c.args.at.now c.in_ok-way.way c.in-Point.copy c.from_copy.result c.in-Point.is (c.in_ok-way.ensures.told look (λ r lower. knows r (omega (arith, lower, le))))
    (c.from_copy.ensures.told top look (λ r lower. c.in_ok-way.ensures.kept.revs r (look r) (knows r lower)) (omega (arith, within, le)))

pub returns-in-Point-clause-kept : goal.returns-in-Point-clause-kept
returns-in-Point-clause-kept g c = keeps_trans _ _ _ c.in_ok-way.ensures.kept c.from_copy.ensures.kept

pub returns-in-Absent-clause-told : goal.returns-in-Absent-clause-told
returns-in-Absent-clause-told g c = λ top look knows le. across_absent look c.args.at.now c.in_ok-way.way c.in-Absent.field-0 c.in-Absent.is (c.in_ok-way.ensures.told look (λ r lower. knows r (omega (arith, lower, le))))

pub returns-in-File-clause-told : goal.returns-in-File-clause-told
returns-in-File-clause-told g c = λ top look knows le. across_file look c.args.at.now c.in_ok-way.way c.in-File.field-0 c.in-File.is (c.in_ok-way.ensures.told look (λ r lower. knows r (omega (arith, lower, le))))
