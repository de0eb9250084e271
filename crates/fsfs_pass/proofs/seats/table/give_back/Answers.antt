use Rattle.std.proofs.Common.{rules, ◌∷◌, sym, ap, ◌∙◌, Some, None, arith}
use Rattle.atomic_table.specs.Table.{rest}
use Rattle.fsfs_pass.proofs.Rules.{gives_back}
use Rattle.fsfs_pass.proofs.seats.table.give_back.Goals as goal

pub exchange-requires : goal.exchange-requires
exchange-requires g c = let e = c.requires.out.0 in (search rules, (None, e ∙ ap (λ cs. (0, None) ∷ rest cs) (sym e)))

pub store-requires : goal.store-requires
store-requires g c = let now = c.exchange.ensures.3 in let e = c.requires.out.0 in (
  search rules,
  search rules,
  gives_back _ _ _ _ _ c.args.disk c.requires.out.1 (ap (λ m. m.0.kin.stage) now ∙ c.requires.sits) (let one = c.requires.table.2 in omega (arith, one)) (ap (λ m. m.1) now ∙ ap (λ cs. (0, Some c.args.disk) ∷ rest cs) e) (ap (λ m. m.0.hand) now ∙ c.requires.out.2) c.requires.out.3 c.requires.out.4,
)
