use Rattle.std.proofs.Common.{ap, subst, arith}
use Rattle.fsfs_base.specs.Failures.{Rose}
use Rattle.fsfs_turn.specs.Alone.{BringsNoDoubt}
use Rattle.fsfs_repo.specs.Txns.Fates.{Fated, FateLeft, IfStopped, UnlessDoubtful}
use Rattle.fsfs_repo.proofs.BenchFaults.{barred_left, failed_left}
use Rattle.fsfs_repo.proofs.Commits.{no_more, rose_later}
use Rattle.fsfs_repo.proofs.Limits.{barred_past}
use Rattle.fsfs_repo.proofs.txns.ending.fall.Goals as goal

-- ---- the calls are due

pub hand_back-requires : goal.hand_back-requires
hand_back-requires g c = record { due = λ bound. c.requires.due bound }

pub drop_bench-requires : goal.drop_bench-requires
drop_bench-requires g c = record { due = λ bound. c.requires.due bound }

pub drop_bench-requires-in-BenchFault : goal.drop_bench-requires-in-BenchFault
drop_bench-requires-in-BenchFault g c = record { due = λ bound. c.requires.due bound }

-- ---- what they come to

pub returns-in-Barred-clause-ends : goal.returns-in-Barred-clause-ends
returns-in-Barred-clause-ends g c = λ p v u x y known moved none given named landings is certain kept means.
    c.hand_back.ensures.ends p v u x y known moved none given named landings (subst (λ f. Fated f v u y) c.in-Barred.is is) (subst (λ f. UnlessDoubtful f (BringsNoDoubt v u)) c.in-Barred.is certain) (subst (λ f. FateLeft f p v x u) c.in-Barred.is kept) means

pub returns-in-DiskFault-clause-ends : goal.returns-in-DiskFault-clause-ends
returns-in-DiskFault-clause-ends g c = λ p v u x y known moved none given named landings is certain kept means.
    (u, subst (λ f. Fated f v u y) c.in-DiskFault.is is, subst (λ f. UnlessDoubtful f (BringsNoDoubt v u)) c.in-DiskFault.is certain, subst (λ f. FateLeft f p v x u) c.in-DiskFault.is kept, no_more _ v u x c.args.name.now.number.number c.drop_bench.result moved none given named (λ out there. c.drop_bench.ensures.dropped u known out there))

pub returns-in-BenchFault-clause-ends : goal.returns-in-BenchFault-clause-ends
returns-in-BenchFault-clause-ends g c = λ p v u x y known moved none given named landings is certain kept means.
    (u, subst (λ f. UnlessDoubtful f (BringsNoDoubt v u)) c.in-BenchFault.is certain, subst (λ f. FateLeft f p v x u) c.in-BenchFault.is kept, no_more _ v u x c.args.name.now.number.number c.drop_bench-in-BenchFault.result moved none given named (λ out there. c.drop_bench-in-BenchFault.ensures.dropped u known out there))

pub returns-in-DiskFault-clause-cause : goal.returns-in-DiskFault-clause-cause
returns-in-DiskFault-clause-cause g c = λ n rose.
    rose_later n _ _ c.drop_bench.ensures.later (subst (λ f. IfStopped f (Rose n (g.T.Turns.faults c.args.turns.now))) c.in-DiskFault.is rose)

pub returns-in-Barred-clause-past : goal.returns-in-Barred-clause-past
returns-in-Barred-clause-past g c = λ past. c.hand_back.ensures.past (barred_past c.args.fate c.in-Barred.bar _ c.in-Barred.is past)

pub returns-in-DiskFault-clause-listed : goal.returns-in-DiskFault-clause-listed
returns-in-DiskFault-clause-listed g c = (c.drop_bench.result, c.drop_bench.ensures.listed)

pub returns-in-BenchFault-clause-listed : goal.returns-in-BenchFault-clause-listed
returns-in-BenchFault-clause-listed g c = (c.drop_bench-in-BenchFault.result, c.drop_bench-in-BenchFault.ensures.listed)

pub returns-in-Barred-clause-benches : goal.returns-in-Barred-clause-benches
returns-in-Barred-clause-benches g c = λ left. c.hand_back.ensures.benches (barred_left c.args.fate c.in-Barred.bar _ _ c.in-Barred.is left)

pub returns-in-DiskFault-clause-benches : goal.returns-in-DiskFault-clause-benches
returns-in-DiskFault-clause-benches g c = λ left. omega (arith, c.drop_bench.ensures.benches)

pub returns-in-BenchFault-clause-benches : goal.returns-in-BenchFault-clause-benches
returns-in-BenchFault-clause-benches g c = λ left.
    let failed = failed_left c.args.fate _ _ c.in-BenchFault.is left in
    let same = ap g.T.Bench.Bench.faults c.into_bench-in-BenchFault.ensures in
    omega (arith, c.drop_bench-in-BenchFault.ensures.benches, failed, same)
