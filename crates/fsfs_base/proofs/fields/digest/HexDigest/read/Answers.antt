use Rattle.std.proofs.Common.{◌*◌, ◌+◌, sym, ◌∙◌, slice_index, arith}
use Rattle.std.proofs.lemmas.List.{length-set}
use Rattle.hex.specs.Hex.{decode_sized}
use Rattle.hex.proofs.Pairs.{decode_step, decode_done, decode_sized-pairs}
use Rattle.fsfs_base.proofs.DigestTexts.{digits_found, digits_again, digest_again, pair_read, ok_same, not_both}
use Rattle.fsfs_base.proofs.fields.digest.HexDigest.read.Goals as goal
use Rattle.fsfs_base.proofs.fields.digest.HexDigest.read.Goals.{then-text-ne0-via-then-text-ne0, then-text-ne0-via-else-text-ne0+then-text, then-text-ne0-via-else-text-ne0+else-text+then-not-has_digits}

pub returns-then-text-ne0-clause-only : goal.returns-then-text-ne0-clause-only
returns-then-text-ne0-clause-only g c = λ bytes w.
    let again = digits_again g.row.N c.args.text.now bytes w in
    elim c.then-text-ne0.branch [
      | then-text-ne0-via-then-text-ne0 b ↦ b.if-text-ne0.true (omega (arith, again.0))
      | then-text-ne0-via-else-text-ne0+then-text b ↦ b.if-text.true (omega (arith, again.0))
      | then-text-ne0-via-else-text-ne0+else-text+then-not-has_digits b ↦ not_both _ (sym b.has_digits.ensures ∙ b.if-not-has_digits.true) again.1
    ]

pub bytes-preserved : goal.bytes-preserved
bytes-preserved g c =
    let at = 2 * c.bytes.i in
    let text = c.args.text.now in
    let pair = pair_read (slice_index text at) (slice_index text (at + 1)) at c.value_of.result c.value_of-in-bytes.result (c.value_of.ensures.value at) (c.value_of-in-bytes.ensures.value (at + 1)) in (
      length-set _ _ _ ∙ c.bytes.invariant.0,
      decode_step text c.bytes.bytes c.bytes.i _ (omega arith) (omega (arith, c.bytes.invariant.0)) pair c.bytes.invariant.1,
    )

pub returns-clause-found : goal.returns-clause-found
returns-clause-found g c =
    let d = decode_done c.args.text.now c.bytes.bytes c.bytes.i (omega (arith, c.bytes.invariant.0)) (omega arith) c.bytes.invariant.1 in
    digits_found g.row.N c.args.text.now c.bytes.bytes c.if-text-ne0.false c.if-text.false (sym c.has_digits.ensures ∙ c.if-not-has_digits.false) d

pub returns-clause-only : goal.returns-clause-only
returns-clause-only g c = λ bytes w.
    let d = decode_done c.args.text.now c.bytes.bytes c.bytes.i (omega (arith, c.bytes.invariant.0)) (omega arith) c.bytes.invariant.1 in
    let read = decode_sized-pairs c.args.text.now g.row.N c.if-text-ne0.false c.if-text.false ∙ d in
    ok_same c.bytes.bytes bytes (decode_sized c.args.text.now g.row.N) read (digest_again g.row.N c.args.text.now bytes w).1
