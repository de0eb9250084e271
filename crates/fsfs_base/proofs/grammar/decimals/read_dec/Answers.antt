use Rattle.std.proofs.Common.{◌∙◌, arith}
use Rattle.fsfs_base.proofs.Numerals.{read_found, numeral_again}
use Rattle.fsfs_base.proofs.grammar.decimals.read_dec.Goals as goal

pub returns-clause-found : goal.returns-clause-found
returns-clause-found c = read_found 10 18446744073709551615 c.args.text.now c.plain_decimal.result c.plain_decimal.ensures

pub returns-clause-only : goal.returns-clause-only
returns-clause-only c = λ n w. c.plain_decimal.ensures ∙ numeral_again 10 18446744073709551615 c.args.text.now n (omega arith) w
