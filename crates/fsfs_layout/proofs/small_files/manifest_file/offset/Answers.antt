use Rattle.std.proofs.Common.{arith}
use Rattle.fsfs_layout.proofs.Offsets.{offset_plain}
use Rattle.fsfs_layout.proofs.small_files.manifest_file.offset.Goals as goal

pub returns-then-low-number : goal.returns-then-low-number
returns-then-low-number c = offset_plain 18446744073709551615 20 c.args.low (omega arith) (omega arith) (omega arith) c.args.bytes.now c.in-Ok.number c.in-Ok.rest.now c.in-Ok.ensures c.if-low-number.true
