-- Which calls fail.
use Rattle.std.specs.Prelude.{ℕ, ◌+◌, ◌-◌, ◌^◌, min, Bool, ◌||◌, nat_eq, nat_lt}
use Rattle.std.specs.List.{list_any}
use Rattle.fsfs_base.specs.declared.faults.Faults.{Faults}

-- the number of the next call; the first is 1, and the count stops at the last number of a u64
abbrev pub next_call : Faults → ℕ
next_call faults = min (faults.calls + 1) (2 ^ 64 - 1)

-- the next call is one of those that are to fail, or behind the last that may pass
abbrev pub fails_next : Faults → Bool
fails_next faults = list_any (λ number. nat_eq number (next_call faults)) faults.failing.items || nat_lt faults.last (next_call faults)
