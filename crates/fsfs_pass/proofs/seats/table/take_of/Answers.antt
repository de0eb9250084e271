use Rattle.std.proofs.Common.{rules, ◌∷◌, sym, ap, ◌∙◌, Some}
use Rattle.atomic_table.specs.Table.{rest}
use Rattle.fsfs_pass.proofs.Rules.{takes_of}
use Rattle.fsfs_pass.proofs.seats.table.take_of.Goals as goal

pub compare_exchange-requires : goal.compare_exchange-requires
compare_exchange-requires g c = (search rules, search rules, takes_of _ _ _ _ _ c.requires.began.0 c.requires.began.1 c.requires.began.2 _ _ _ (search rules))

pub exchange-requires : goal.exchange-requires
exchange-requires g c = let got = c.compare_exchange.ensures.2.0 (search rules) in let e = ap (λ m. m.1) got.1 in
    (search rules, (Some got.0, e ∙ ap (λ cs. (0, Some got.0) ∷ rest cs) (sym e)))
