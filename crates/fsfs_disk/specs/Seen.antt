-- What is seen of the disk that goes from pass to pass.
use Rattle.std.specs.Prelude.{◌≡◌, ◌≤◌, ◌+◌, ◌-◌, ◌^◌, ℕ, Bool, List, Option, min}
use Rattle.fsfs_disk.specs.Trace.{Trace}

-- the path that it was mounted for; the trace, where the disk tells it; how often it has failed, and how often the benches that it took back;
-- and whether its last call did
pub record DiskSeen : Type 0 where
  pub mount_path : List ℕ
  pub trace : Option Trace
  pub faults : ℕ
  pub bench_faults : ℕ
  pub failed : Bool

-- The same disk later, when n of its calls have failed, and m of those of benches that it took back: it is still mounted for that path, its
-- count of faults didn't fall, and its counts rose by as many, as far as they go.
pub record IsLater (n m : ℕ) (old new : DiskSeen) : Type 0 where
  pub mounted : new.mount_path ≡ old.mount_path
  pub later : old.faults ≤ new.faults
  pub rose : min (old.faults + n) (2 ^ 64 - 1) ≤ new.faults
  pub benches : min (old.bench_faults + m) (2 ^ 64 - 1) ≤ new.bench_faults
