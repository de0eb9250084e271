use Rattle.std.proofs.Common.{sym, arith}
use Rattle.fsfs_base.proofs.CutPlaces.{byte_passed, byte_ends, text_ends}
use Rattle.fsfs_base.proofs.grammar.cuts.before_in_short.Goals as goal

pub bytes-preserved : goal.bytes-preserved
bytes-preserved c = byte_passed c.args.byte c.bytes.at c.args.text.now c.bytes.invariant (omega arith) c.if-text-at.true

pub returns-else-text-at : goal.returns-else-text-at
returns-else-text-at c = sym (byte_ends c.args.byte c.bytes.at c.args.text.now c.bytes.invariant (omega arith) c.if-text-at.false)

pub returns-after-bytes : goal.returns-after-bytes
returns-after-bytes c = sym (text_ends c.args.byte c.bytes.at c.args.text.now c.bytes.invariant (omega arith))
