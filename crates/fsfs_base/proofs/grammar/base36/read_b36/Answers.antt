use Rattle.std.proofs.Common.{sym, ◌∙◌, arith}
use Rattle.std.proofs.lemmas.Option.{same_Some}
use Rattle.fsfs_base.proofs.Numerals.{numeral_found, numeral_again}
use Rattle.fsfs_base.proofs.grammar.base36.read_b36.Goals as goal

pub invariant_of-result : goal.invariant_of-result
invariant_of-result c =
    let w = numeral_found 36 170581728179578208255 c.args.text.now c.in-Some.number (sym c.in-Some.ensures) in
    record { small = omega (arith, w.1) }

pub returns-in-None-clause-only : goal.returns-in-None-clause-only
returns-in-None-clause-only c = λ n w. let e = numeral_again 36 170581728179578208255 c.args.text.now n (omega arith) w in let f = c.in-None.ensures in absurd cc

pub returns-in-Some-clause-found : goal.returns-in-Some-clause-found
returns-in-Some-clause-found c = numeral_found 36 170581728179578208255 c.args.text.now c.in-Some.number (sym c.in-Some.ensures)

pub returns-in-Some-clause-only : goal.returns-in-Some-clause-only
returns-in-Some-clause-only c = λ n w. same_Some c.in-Some.number n (c.in-Some.ensures ∙ numeral_again 36 170581728179578208255 c.args.text.now n (omega arith) w)
