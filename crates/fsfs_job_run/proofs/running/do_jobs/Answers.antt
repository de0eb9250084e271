use Rattle.std.proofs.Common.{◌≡◌, ◌∙◌, sym, ap, subst, length, arith}
use Rattle.std.specs.Prelude.{option_map, IsTrue}
use Rattle.fsfs_disk.specs.Trace.{labels_now}
use Rattle.fsfs_turn.specs.Telling.{state_of}
use Rattle.fsfs_turn.specs.OwnedLemmas.{known_still}
use Rattle.fsfs_base.specs.Failures.{Rose}
use Rattle.fsfs_base.proofs.ResultLemmas.{if_ok}
use Rattle.fsfs_job_run.proofs.Full.{left_in}
use Rattle.fsfs_job_run.proofs.Listing.{lists_then}
use Rattle.fsfs_job_run.proofs.RunLemmas.{ran_in}
use Rattle.fsfs_job_run.proofs.running.do_jobs.Goals as goal

pub returns-in-Ok-clause-does : goal.returns-in-Ok-clause-does
returns-in-Ok-clause-does g c = λ v known none opened had clear few.
    let told = g.D.Disk.trace in
    let path = g.D.Disk.mount_path in
    let benches = g.D.Disk.bench_faults in
    let at = c.run_jobs-repo.result.0.turns in
    let then = c.youngest-youngest.new.self.turns in
    let same = c.youngest-youngest.ensures.same in
    let a = state_of at.layout at.floor at.young at.stuck (told at.disk) (path at.disk) (benches at.disk) in
    let b = state_of then.layout then.floor then.young then.stuck (told then.disk) (path then.disk) (benches then.disk) in
    ran_in at.layout at.floor at.young at.stuck (told at.disk) (told c.close-disk.result) c.args.micros c.args.jobs.now c.in-Ok.answers.items c.youngest-youngest.result v (ap told c.close-disk.ensures ∙ ap (λ s. s.trace) same) opened had clear few (λ full. left_in a (if_ok c.run_jobs-repo.result.1 c.in-Ok.answers _ c.in-Ok.is (c.run_jobs-repo.ensures.full v known none) full))
    (λ u k. c.youngest-youngest.ensures.all u (known_still a b u same k)) c.run_jobs-repo.ensures.crashes
    (if_ok c.run_jobs-repo.result.1 c.in-Ok.answers _ c.in-Ok.is (c.run_jobs-repo.ensures.does v known none))

pub returns-in-Ok-clause-cause : goal.returns-in-Ok-clause-cause
returns-in-Ok-clause-cause g c =
    let count = g.D.Disk.faults in
    let back : count c.close-disk.result ≡ count c.youngest-youngest.new.self.turns.disk = ap count c.close-disk.ensures in
    let rose = if_ok c.run_jobs-repo.result.1 c.in-Ok.answers _ c.in-Ok.is c.run_jobs-repo.ensures.cause in
    omega (arith, rose, c.youngest-youngest.ensures.faults, back)

pub returns-in-Ok-clause-benches : goal.returns-in-Ok-clause-benches
returns-in-Ok-clause-benches g c =
    let count = g.D.Disk.bench_faults in
    let back : count c.close-disk.result ≡ count c.youngest-youngest.new.self.turns.disk = ap count c.close-disk.ensures in
    let rose = if_ok c.run_jobs-repo.result.1 c.in-Ok.answers _ c.in-Ok.is c.run_jobs-repo.ensures.benches in
    omega (arith, rose, c.youngest-youngest.ensures.benches, back)

pub returns-in-Ok-clause-listed : goal.returns-in-Ok-clause-listed
returns-in-Ok-clause-listed g c = λ least has.
    let count = g.D.Disk.faults in
    let told = g.D.Disk.trace in
    let start = count c.args.repo.turns.disk in
    let mid = count c.run_jobs-repo.result.0.turns.disk in
    let now = count c.close-disk.result in
    let back : now ≡ count c.youngest-youngest.new.self.turns.disk = ap count c.close-disk.ensures in
    lists_then (Rose start mid) (Rose start now) least (length c.args.jobs.now) _ _ _ (λ r. omega (arith, r, c.youngest-youngest.ensures.faults, back)) (ap (λ d. option_map labels_now (told d)) c.close-disk.ensures ∙ c.youngest-youngest.ensures.listed) (c.run_jobs-repo.ensures.listed least has)

pub returns-in-Err-clause-listed : goal.returns-in-Err-clause-listed
returns-in-Err-clause-listed g c = λ least has.
    let count = g.D.Disk.faults in
    let told = g.D.Disk.trace in
    let start = count c.args.repo.turns.disk in
    let mid = count c.run_jobs-repo.result.0.turns.disk in
    let now = count c.close-disk.result in
    let back : now ≡ count c.youngest-youngest.new.self.turns.disk = ap count c.close-disk.ensures in
    lists_then (Rose start mid) (Rose start now) least (length c.args.jobs.now) _ _ _ (λ r. omega (arith, r, c.youngest-youngest.ensures.faults, back)) (ap (λ d. option_map labels_now (told d)) c.close-disk.ensures ∙ c.youngest-youngest.ensures.listed) (c.run_jobs-repo.ensures.listed least has)

pub returns-in-Ok-clause-right : goal.returns-in-Ok-clause-right
returns-in-Ok-clause-right g c = subst (λ d. IsTrue (g.D.Disk.may_write d)) (sym c.close-disk.ensures) c.youngest-youngest.new.self.turns.writes

pub returns-in-Err-clause-right : goal.returns-in-Err-clause-right
returns-in-Err-clause-right g c = subst (λ d. IsTrue (g.D.Disk.may_write d)) (sym c.close-disk.ensures) c.youngest-youngest.new.self.turns.writes
