use Rattle.std.proofs.Common.{◌≡◌, drop}
use Rattle.fsfs_base.specs.Grammar.Numeral.{plain_at}
use Rattle.fsfs_base.proofs.grammar.base36.plain_b36_rest.Given as goal

abbrev pub invariant-digits : goal.invariant-digits
invariant-digits l = plain_at 36 170581728179578208255 l.number (drop l.c-index l.text) ≡ plain_at 36 170581728179578208255 l.first l.text
