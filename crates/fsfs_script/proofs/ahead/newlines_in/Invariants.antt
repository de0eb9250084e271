use Rattle.std.proofs.Common.{◌≡◌, take}
use Rattle.fsfs_script.specs.Places.{newlines}
use Rattle.fsfs_script.proofs.ahead.newlines_in.Given as goal

-- the newlines so far
abbrev pub invariant-loop-byte : goal.invariant-loop-byte
invariant-loop-byte l = l.count ≡ newlines (take l.byte-index l.bytes)
