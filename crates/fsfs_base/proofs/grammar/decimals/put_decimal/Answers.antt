use Rattle.std.proofs.Common.{◌++◌, ◌∷◌, [], ◌∙◌, ap, append_assoc, refl, arith, List, ℕ}
use Rattle.fsfs_base.proofs.grammar.decimals.put_decimal.Goals as goal

pub returns : goal.returns
returns c =
    let w = c.in_ok-put_dec.ensures in
    record {
      text = w.digits ++ c.args.end ∷ [];
      text_is = record { digits = w.digits; numeral = w.numeral; fits = omega arith; parts = refl };
      parts = c.in_ok-push.ensures.items ∙ ap (λ (t : List ℕ). t ++ c.args.end ∷ []) w.parts ∙ append_assoc c.args.out.now.items w.digits (c.args.end ∷ []);
    }
