use Rattle.std.proofs.Common.{◌≡◌, ◌≤◌, ◌-◌, ◌++◌, length, take, drop}
use Rattle.std.specs.Prelude.{IfSome}
use Rattle.fsfs_folders.specs.System.CallRecord.{contents_now}
use Rattle.fsfs_folders.proofs.reading.fill.Given as goal

-- so many bytes of the file stand in the buffer, and what was there behind them
abbrev pub invariant-loop-filled : goal.invariant-loop-filled
invariant-loop-filled g l =
    (g.C.Calls.history l.calls ≡ g.C.Calls.history l.fn.calls) × (l.filled ≤ length l.buffer) × (length l.buffer ≡ length l.fn.buffer)
    × IfSome (g.C.Calls.history l.fn.calls) (λ r. (l.filled ≤ length (contents_now r (g.C.File.OpenFile.number l.file)).bytes - l.offset)
    × (l.buffer ≡ take l.filled (drop l.offset (contents_now r (g.C.File.OpenFile.number l.file)).bytes) ++ drop l.filled l.fn.buffer))

abbrev pub decreases-loop-filled : goal.decreases-loop-filled
decreases-loop-filled g l = length l.initial.buffer - l.filled
