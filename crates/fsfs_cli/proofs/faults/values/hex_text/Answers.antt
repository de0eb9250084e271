use Rattle.std.proofs.Common.{lit<, length-append, ◌∷◌, ◌++◌, [], ℕ, List, length, sym, ap, ◌∙◌, arith}
use Rattle.std.proofs.lemmas.Str.{encode_ascii}
use Rattle.fsfs_cli.proofs.HexLemmas.{hex_none, hex_size, digits_more}
use Rattle.fsfs_cli.proofs.faults.values.hex_text.Goals as goal

pub loop-byte-init : goal.loop-byte-init
loop-byte-init c = c.push_str.ensures.bytes ∙ ap (λ (t : List ℕ). t ++ 32 ∷ []) c.new-text.ensures ∙ ap (λ (t : List ℕ). 32 ∷ t) (sym hex_none)

pub push-requires : goal.push-requires
push-requires c =
    let so_far = hex_size c.args.bytes.now c.loop-byte.byte-index c.loop-byte.text.bytes (omega arith) c.loop-byte.invariant in
    let one = ap length (encode_ascii c.digit.result c.digit.ensures.ascii) in
    (lit< tt, omega (arith, so_far, one, c.requires))

pub push-requires-in-loop-byte : goal.push-requires-in-loop-byte
push-requires-in-loop-byte c =
    let so_far = hex_size c.args.bytes.now c.loop-byte.byte-index c.loop-byte.text.bytes (omega arith) c.loop-byte.invariant in
    let first = ap length (c.push.ensures.ascii c.digit.ensures.ascii) in
    let one = ap length (encode_ascii c.digit-in-loop-byte.result c.digit-in-loop-byte.ensures.ascii) in
    (lit< tt, omega (arith, so_far, first, one, length-append c.loop-byte.text.bytes (c.digit.result ∷ []), c.requires))

pub loop-byte-preserved : goal.loop-byte-preserved
loop-byte-preserved c =
    digits_more c.args.bytes.now c.loop-byte.byte-index c.digit.result c.digit-in-loop-byte.result c.loop-byte.text.bytes c.push.new.self.bytes c.push-in-loop-byte.new.self.bytes (omega arith) c.loop-byte.invariant
    (c.push.ensures.ascii c.digit.ensures.ascii) (c.push-in-loop-byte.ensures.ascii c.digit-in-loop-byte.ensures.ascii) c.digit.ensures.digit c.digit-in-loop-byte.ensures.digit
