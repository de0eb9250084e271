use Rattle.std.proofs.Common.{◌≡◌, ℕ, ◌<◌, ◌^◌, arith, sym, ◌∙◌, subst}
use Rattle.std.proofs.lemmas.Option.{same_Some, none-some}
use Rattle.std.specs.Prelude.{Some}
use Rattle.fsfs_base.specs.Grammar.Numeral.{IsPlain}
use Rattle.fsfs_base.proofs.Unique.{numeral_decimal}
use Rattle.fsfs_cli.proofs.NumberLemmas.{shard_is, shard_read, no_shard}
use Rattle.fsfs_cli.proofs.shard.read_shard.Goals as goal

pub returns-in-Some : goal.returns-in-Some
returns-in-Some c =
    let small : c.in-Some.number < 2 ^ 64 = omega arith in
    let text = sym c.as_bytes.ensures.value ∙ numeral_decimal c.as_bytes.result.now c.in-Some.number small c.in-Some.ensures.found.0 in
    sym (shard_is c.args.text.now c.in-Some.number (text, c.if-number-ge1.true, c.if-number-le100000.true))

pub returns-in_default : goal.returns-in_default
returns-in_default c = sym (no_shard c.args.text.now (λ n is.
    let only = subst (λ b. (m : ℕ) → IsPlain 10 18446744073709551615 b m → c.read_dec.result ≡ Some m) c.as_bytes.ensures.value c.read_dec.ensures.only in
    let same = same_Some c.in-Some.number n (sym c.in-Some.is ∙ shard_read c.read_dec.result c.args.text.now only n is) in
    omega (arith, same, is.2, c.if-number-le100000.false)))

pub returns-in_default-2 : goal.returns-in_default-2
returns-in_default-2 c = sym (no_shard c.args.text.now (λ n is.
    let only = subst (λ b. (m : ℕ) → IsPlain 10 18446744073709551615 b m → c.read_dec.result ≡ Some m) c.as_bytes.ensures.value c.read_dec.ensures.only in
    let same = same_Some c.in-Some.number n (sym c.in-Some.is ∙ shard_read c.read_dec.result c.args.text.now only n is) in
    omega (arith, same, is.1, c.if-number-ge1.false)))

pub returns-in_default-3 : goal.returns-in_default-3
returns-in_default-3 c = sym (no_shard c.args.text.now (λ n is.
    let only = subst (λ b. (m : ℕ) → IsPlain 10 18446744073709551615 b m → c.read_dec.result ≡ Some m) c.as_bytes.ensures.value c.read_dec.ensures.only in
    let some = shard_read c.read_dec.result c.args.text.now only n is in
    none-some n (sym c.in_default.is ∙ some)))
