use Rattle.std.proofs.Common.{◌≡◌, rules, true, ◌∷◌, sym, ap, subst, ◌∙◌, Some, None, arith}
use Rattle.atomic_table.specs.Table.{rest}
use Rattle.fsfs_pass.specs.declared.seats.seat_view.SeatView.{SeatView}
use Rattle.fsfs_pass.specs.Seats.{view_of}
use Rattle.fsfs_pass.specs.SeatCalls.Made.{carried, failed_of}
use Rattle.fsfs_pass.specs.SeatCalls.Tells.{GivenBack, MayDrop, PurgedBy, counting}
use Rattle.fsfs_pass.proofs.Going.{told_so}
use Rattle.fsfs_pass.proofs.LabelCalls.{gives_purged}
use Rattle.fsfs_pass.proofs.seat_calls.gives.give_purged.Goals as goal

pub exchange-requires : goal.exchange-requires
exchange-requires g c = let e = c.requires.table.3 in (search rules, (None, e ∙ ap (λ cs. (0, None) ∷ rest cs) (sym e)))

pub store-requires : goal.store-requires
store-requires g c = let now = c.exchange.ensures.3 in let me = ap (λ m. m.0) now in let hand = ap (λ m. m.0.hand) now in (
  search rules,
  search rules,
  gives_purged g.K.Dropping.faults _ _ _ _ _ c.args.disk (ap (λ m. m.0.kin.stage) now ∙ c.requires.sits) c.files_are_short.ensures c.requires.made.0 c.requires.made.1 (let one = c.requires.table.2 in omega (arith, one)) (ap (λ m. m.1) now ∙ ap (λ cs. (0, Some c.args.disk) ∷ rest cs) c.requires.table.3) (hand ∙ c.requires.made.2) c.requires.made.3 c.requires.made.4 (subst (λ (v : SeatView). v.told ≡ true → MayDrop (view_of v) c.requires.made.1) (sym me) c.requires.made.5),
)

pub returns-clause-same : goal.returns-clause-same
returns-clause-same g c = (search rules, search rules, (told_so (λ m u. PurgedBy (failed_of (carried m.1)) (view_of m.0) u) c.args.board.now.shared.table_id.slots (counting g.K.Dropping.faults c.args.seat.now.me.0, c.args.seat.now.me.1) (counting g.K.Dropping.faults c.exchange.new.seat.me.0, c.exchange.new.seat.me.1) c.store.new.seat.me c.args.disk c.requires.table.3 (ap (λ m. (counting g.K.Dropping.faults m.0, m.1)) c.exchange.ensures.3) c.store.ensures.2).0)

pub returns-clause-given : goal.returns-clause-given
returns-clause-given g c = subst (λ n. GivenBack (λ u. PurgedBy c.args.disk.failed (view_of c.args.seat.now.me.0) u) c.args.disk.failed c.args.disk.trace (counting n c.args.seat.now.me.0) c.store.new.seat.me.0) (sym c.requires.faults)
    (told_so (λ m u. PurgedBy (failed_of (carried m.1)) (view_of m.0) u) c.args.board.now.shared.table_id.slots (counting g.K.Dropping.faults c.args.seat.now.me.0, c.args.seat.now.me.1) (counting g.K.Dropping.faults c.exchange.new.seat.me.0, c.exchange.new.seat.me.1) c.store.new.seat.me c.args.disk c.requires.table.3 (ap (λ m. (counting g.K.Dropping.faults m.0, m.1)) c.exchange.ensures.3) c.store.ensures.2).1
