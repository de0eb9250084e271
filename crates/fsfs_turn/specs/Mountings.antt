-- Where the turns of a pass are, and how often benches failed that they dropped.
use Rattle.std.specs.Prelude.{◌+◌, ◌-◌, ◌^◌, ◌≤◌, ℕ, min}

pub record Mounting (Mount : Type 0) : Type 0 where
  -- where they are
  pub mount : Mount
  -- how often the benches failed that they dropped
  pub bench_faults : ℕ

-- a count rose by so many, or stands at its last value
abbrev pub RoseBy : ℕ → ℕ → ℕ → Type 0
RoseBy n before now = min (before + n) (2 ^ 64 - 1) ≤ now
