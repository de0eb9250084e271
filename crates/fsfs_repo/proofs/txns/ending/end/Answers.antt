use Rattle.std.proofs.Common.{sym, subst, arith}
use Rattle.fsfs_base.specs.Failures.{Rose}
use Rattle.fsfs_base.proofs.ResultLemmas.{if_ok, if_err}
use Rattle.fsfs_turn.specs.Alone.{BringsNoDoubt}
use Rattle.fsfs_repo.specs.Txns.Fates.{Fated, FateLeft, IfStopped, UnlessDoubtful}
use Rattle.fsfs_repo.proofs.BenchFaults.{fate_left}
use Rattle.fsfs_repo.proofs.Commits.{dropped_as, given_still, fated, certain_so, left_by_fate, stopped, rose_before}
use Rattle.fsfs_repo.proofs.Limits.{fate_past}
use Rattle.fsfs_repo.proofs.txns.ending.end.Goals as goal

-- ---- the calls are due

pub drop_bench-purged-requires : goal.drop_bench-purged-requires
drop_bench-purged-requires g c = record { due = λ bound. c.requires.due bound }

pub fall-requires : goal.fall-requires
fall-requires g c = record { due = λ bound. c.requires.due bound }

-- ---- what they come to

pub returns-in-Ok-clause-ends : goal.returns-in-Ok-clause-ends
returns-in-Ok-clause-ends g c = λ p v x none given named added refused.
    let n = c.args.name.now.number.number in
    let w = if_ok c.args.done c.in-Ok.rev _ c.in-Ok.is added in
    (w.0, w.1, w.3, dropped_as _ c.drop_bench-purged.result x.name n w.0 named (c.drop_bench-purged.ensures.dropped w.0 w.2 w.3.outside (given_still v w.0 x.name n w.3.given given named)))

pub returns-in-Err-clause-ends : goal.returns-in-Err-clause-ends
returns-in-Err-clause-ends g c = λ p v x none given named added refused.
    let w = if_err c.args.done c.in-Err.fault _ c.in-Err.is refused in
    c.fall.ensures.ends p v w.0 x w.1 w.2 w.3.moved none given named w.3.landings (subst (λ f. Fated f v w.0 w.1) (sym c.fate_of.ensures) (fated c.in-Err.fault v w.0 w.1 w.3.cause))
    (subst (λ f. UnlessDoubtful f (BringsNoDoubt v w.0)) (sym c.fate_of.ensures) (certain_so c.in-Err.fault (BringsNoDoubt v w.0) w.3.doubtless)) (subst (λ f. FateLeft f p v x w.0) (sym c.fate_of.ensures) (left_by_fate c.in-Err.fault p v x w.0 w.3.left)) w.4

pub returns-in-Ok-clause-cause : goal.returns-in-Ok-clause-cause
returns-in-Ok-clause-cause g c = λ n low rose fails. rose_before n _ _ low (c.drop_bench-purged.ensures.cause fails)

pub returns-in-Err-clause-cause : goal.returns-in-Err-clause-cause
returns-in-Err-clause-cause g c = λ n low rose.
    let P = Rose n (g.T.Turns.faults c.args.turns.now) in
    c.fall.ensures.cause n (subst (λ f. IfStopped f P) (sym c.fate_of.ensures) (stopped c.in-Err.fault P (if_err c.args.done c.in-Err.fault _ c.in-Err.is rose)))

pub returns-in-Err-clause-past : goal.returns-in-Err-clause-past
returns-in-Err-clause-past g c = λ past. c.fall.ensures.past (fate_past c.in-Err.fault c.fate_of.result _ c.fate_of.ensures (if_err c.args.done c.in-Err.fault _ c.in-Err.is past))

pub returns-in-Ok-clause-benches : goal.returns-in-Ok-clause-benches
returns-in-Ok-clause-benches g c = λ left. omega (arith, c.drop_bench-purged.ensures.benches)

pub returns-in-Err-clause-benches : goal.returns-in-Err-clause-benches
returns-in-Err-clause-benches g c = λ left. c.fall.ensures.benches (fate_left c.fate_of.result c.in-Err.fault _ _ c.fate_of.ensures (if_err c.args.done c.in-Err.fault _ c.in-Err.is left))
