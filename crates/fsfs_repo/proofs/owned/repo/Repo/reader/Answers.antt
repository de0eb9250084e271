use Rattle.std.proofs.Common.{ap}
use Rattle.std.specs.Prelude.{option_map}
use Rattle.fsfs_disk.specs.Trace.{labels_now}
use Rattle.fsfs_turn.specs.Telling.{OwnedState, state_of}
use Rattle.fsfs_repo.proofs.Readers.{tells_all}
use Rattle.fsfs_repo.proofs.owned.repo.Repo.reader.Goals as goal

pub returns-clause-told : goal.returns-clause-told
returns-clause-told g c = λ v known.
    let turns = c.args.self.turns in
    let at = c.over_turns.result.reads.turns in
    tells_all (state_of turns.layout turns.floor turns.young turns.stuck (g.D.Disk.trace turns.disk) (g.D.Disk.mount_path turns.disk) (g.D.Disk.bench_faults turns.disk)) (state_of at.layout at.floor at.young at.stuck (g.D.Disk.trace at.disk) (g.D.Disk.mount_path at.disk) (g.D.Disk.bench_faults at.disk)) c.over_turns.result.floor c.over_turns.result.kept v known c.over_turns.ensures.below
    (c.over_turns.ensures.told v known)

pub returns-clause-mounted : goal.returns-clause-mounted
returns-clause-mounted g c = ap {A = OwnedState} (λ s. s.mount_path) c.over_turns.ensures.below

pub returns-clause-listed : goal.returns-clause-listed
returns-clause-listed g c = ap {A = OwnedState} (λ s. option_map labels_now s.trace) c.over_turns.ensures.below

pub returns-clause-benches : goal.returns-clause-benches
returns-clause-benches g c = ap {A = OwnedState} (λ s. s.bench_faults) c.over_turns.ensures.below

pub returns-clause-props : goal.returns-clause-props
returns-clause-props g c = λ v known. c.over_turns.ensures.props v known
