use Rattle.std.proofs.Common.{sym, subst, ap}
use Rattle.std.specs.Prelude.{option_map}
use Rattle.fsfs_disk.specs.Trace.{labels_now}
use Rattle.fsfs_turn.specs.Telling.{OwnedState}
use Rattle.fsfs_repo.specs.Owned.Alone.{KnowsIn}
use Rattle.fsfs_repo.proofs.owned.repo.Repo.of_reader.Goals as goal

pub returns-clause-known : goal.returns-clause-known
returns-clause-known g c = λ v known. subst (λ s. KnowsIn s v) (sym c.turns_of.ensures.below) known

pub returns-clause-mounted : goal.returns-clause-mounted
returns-clause-mounted g c = ap {A = OwnedState} (λ s. s.mount_path) c.turns_of.ensures.below

pub returns-clause-listed : goal.returns-clause-listed
returns-clause-listed g c = ap {A = OwnedState} (λ s. option_map labels_now s.trace) c.turns_of.ensures.below

pub returns-clause-benches : goal.returns-clause-benches
returns-clause-benches g c = ap {A = OwnedState} (λ s. s.bench_faults) c.turns_of.ensures.below
