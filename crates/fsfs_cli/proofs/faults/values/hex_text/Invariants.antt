use Rattle.std.proofs.Common.{◌≡◌, ◌∷◌, take}
use Rattle.hex.specs.Hex.{encode_lower}
use Rattle.fsfs_cli.proofs.faults.values.hex_text.Given as goal

-- the bytes so far were put behind the space
abbrev pub invariant-loop-byte : goal.invariant-loop-byte
invariant-loop-byte l = l.text.bytes ≡ 32 ∷ encode_lower (take l.byte-index l.bytes)
