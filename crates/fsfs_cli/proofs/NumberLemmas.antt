-- Numbers among the words.
use Rattle.std.proofs.Common.{◌≡◌, ℕ, ◌<◌, ◌≤◌, ◌^◌, List, length, Bool, true, false, cond, decimal, ◌&&◌, ap, subst, refl, sym, ◌∙◌, arith, rules, nat_lt, nat_le}
use Rattle.std.specs.Prelude.{Option, Some, None, Result, Ok}
use Rattle.std.specs.Char.{is_ascii_digit}
use Rattle.std.specs.List.{list_all}
use Rattle.std.specs.Str.Parse.{ParsesUnsigned, digits_value}
use Rattle.std.proofs.lemmas.Str.Parse.{IsNumeralModel, numerals_by_value, parse_gives, digits_value_short}
use Rattle.std.specs.Str.{bytes_eq}
use Rattle.std.proofs.lemmas.Fmt.{digits_value-decimal}
use Rattle.std.proofs.lemmas.Slice.Eq.{bytes_eq-Decides}
use Rattle.fsfs_base.specs.Grammar.Numeral.{IsPlain}
use Rattle.fsfs_base.proofs.Unique.{decimal_plain}
use Rattle.fsfs_cli.specs.Grammars.{is_revision, revision_of, IsShard, is_shard, shard_of}

digits : IsNumeralModel (λ ds. list_all is_ascii_digit ds ≡ true) (digits_value 10)
digits = numerals_by_value (λ ds. list_all is_ascii_digit ds ≡ true) (search rules)

both_true : (a b c : Bool) → (a && b && c) ≡ true → (a ≡ true) × (b ≡ true) × (c ≡ true)
both_true true true true h = (refl, refl, refl)
both_true true true false h = absurd cc
both_true true false c h = absurd cc
both_true false b c h = absurd cc

pub revision_parsed : {E : Type 0} (text : List ℕ) (r : Result ℕ E) → ParsesUnsigned 64 10 text r → is_revision text ≡ true → r ≡ Ok (digits_value 10 text)
revision_parsed text r parsed is =
    let parts = both_true (nat_lt 0 (length text)) (nat_le (length text) 10) (list_all is_ascii_digit text) is in
    let some : 0 < length text = grind (arith, parts.0) in
    let few : length text ≤ 10 = grind (arith, parts.1) in
    let small : digits_value 10 text < 10 ^ 10 = digits_value_short digits text 10 parts.2 few in
    parse_gives digits 64 text r parsed parts.2 some (omega (arith, small))

pub revision_is : (text : List ℕ) → is_revision text ≡ true → revision_of text ≡ Some (digits_value 10 text)
unfolding revision_of
revision_is text is = rw is refl

pub revision_none : (text : List ℕ) → is_revision text ≡ false → revision_of text ≡ None
unfolding revision_of
revision_none text is = rw is refl

-- ---- the size of a shard

parts_true : (a b c : Bool) → a ≡ true → b ≡ true → c ≡ true → (a && b && c) ≡ true
parts_true a b c x y z = rw (x, y, z) refl

pub shard_is : (text : List ℕ) (n : ℕ) → IsShard text n → shard_of text ≡ Some n
unfolding shard_of
shard_is text n is =
    let small : n < 2 ^ 64 = omega (arith, is.2) in
    let value : digits_value 10 text ≡ n = ap (digits_value 10) is.0 ∙ digits_value-decimal digits n small in
    let same : bytes_eq text (decimal n) ≡ true = (bytes_eq-Decides text (decimal n)).1 is.0 in
    rw (value, parts_true (bytes_eq text (decimal n)) (nat_le 1 n) (nat_le n 100_000) same (grind (arith, is.1)) (grind (arith, is.2))) refl

shard_by : (text : List ℕ) (n m : ℕ) (b : Bool) → is_shard text n ≡ b → cond b (Some n) None ≡ Some m → IsShard text m
shard_by text n m true is e =
    let parts = both_true (bytes_eq text (decimal n)) (nat_le 1 n) (nat_le n 100_000) is in
    let same : n ≡ m = cc in
    let P : ℕ → Type 0 = IsShard text in
    subst P same ((bytes_eq-Decides text (decimal n)).0 parts.0, grind (arith, parts.1), grind (arith, parts.2))
shard_by text n m false is e = absurd cc

pub shard_found : (text : List ℕ) (n : ℕ) → shard_of text ≡ Some n → IsShard text n
unfolding shard_of
shard_found text n e = shard_by text (digits_value 10 text) n (is_shard text (digits_value 10 text)) refl e

-- what is read is the size, where read_dec says so
pub shard_read : (read : Option ℕ) (text : List ℕ) → ((n : ℕ) → IsPlain 10 18446744073709551615 text n → read ≡ Some n) → (shard : ℕ) → IsShard text shard → read ≡ Some shard
shard_read read text only shard is =
    let fits : shard ≤ 18446744073709551615 = omega (arith, is.2) in
    let small : shard < 2 ^ 64 = omega (arith, is.2) in
    only shard (subst (λ b. IsPlain 10 18446744073709551615 b shard) (sym is.0) (decimal_plain 18446744073709551615 shard fits small))

-- none is, where nothing that is read is in the range
pub no_shard : (text : List ℕ) → ((n : ℕ) → IsShard text n → ⊥) → shard_of text ≡ None
no_shard text not = by_value (shard_of text) refl where
  by_value : (o : Option ℕ) → shard_of text ≡ o → shard_of text ≡ None
  by_value None e = e
  by_value (Some n) e = absurd (not n (shard_found text n e))
