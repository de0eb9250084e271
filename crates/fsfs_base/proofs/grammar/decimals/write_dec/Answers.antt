use Rattle.std.proofs.Common.{List, ℕ, ◌++◌, ◌∙◌, ap, arith}
use Rattle.std.specs.Fmt.{decimal}
use Rattle.fsfs_base.proofs.Unique.{appended_decimal}
use Rattle.fsfs_base.proofs.grammar.decimals.write_dec.Goals as goal

pub returns-clause-printed : goal.returns-clause-printed
returns-clause-printed c = appended_decimal _ _ c.args.n (omega arith) c.in_ok-put_dec.ensures ∙ ap (λ (old : List ℕ). old ++ decimal c.args.n) c.new-out.ensures.items
