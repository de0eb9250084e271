use Rattle.std.proofs.Common.{◌≡◌, drop}
use Rattle.fsfs_base.specs.Grammar.Numeral.{plain_at}
use Rattle.fsfs_base.proofs.grammar.decimals.plain_decimal_rest.Given as goal

abbrev pub invariant-digits : goal.invariant-digits
invariant-digits l = plain_at 10 l.limit l.number (drop l.c-index l.text) ≡ plain_at 10 l.limit l.first l.text
