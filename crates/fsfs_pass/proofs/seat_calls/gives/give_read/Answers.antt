use Rattle.std.proofs.Common.{rules, ◌∷◌, sym, ap, subst, ◌∙◌, Some, None, arith}
use Rattle.atomic_table.specs.Table.{rest}
use Rattle.fsfs_pass.specs.Seats.{view_of}
use Rattle.fsfs_pass.specs.SeatCalls.Made.{carried, failed_of, trace_of, went_of}
use Rattle.fsfs_pass.specs.SeatCalls.Tells.{GivenBack, ReadBy}
use Rattle.fsfs_pass.proofs.Going.{told_so}
use Rattle.fsfs_pass.proofs.ReadCalls.{gives_read}
use Rattle.fsfs_pass.proofs.seat_calls.gives.give_read.Goals as goal

pub exchange-requires : goal.exchange-requires
exchange-requires g c = let e = c.requires.table.3 in (search rules, (None, e ∙ ap (λ cs. (0, None) ∷ rest cs) (sym e)))

pub store-requires : goal.store-requires
store-requires g c = let now = c.exchange.ensures.3 in let me = ap (λ m. m.0) now in let hand = ap (λ m. m.0.hand) now in (
  search rules,
  search rules,
  gives_read g.K.Naming.name _ _ _ _ _ c.args.disk c.requires.out.0 (ap (λ m. m.0.kin.stage) now ∙ c.requires.sits) c.files_are_short.ensures (let one = c.requires.table.2 in omega (arith, one)) (ap (λ m. m.1) now ∙ ap (λ cs. (0, Some c.args.disk) ∷ rest cs) c.requires.table.3) (hand ∙ c.requires.out.1) c.requires.out.2 c.requires.out.3,
)

pub returns-clause-same : goal.returns-clause-same
returns-clause-same g c = (search rules, search rules, (told_so (λ m u. ReadBy g.K.Naming.name (trace_of (carried m.1)) (went_of (failed_of (carried m.1))) (view_of m.0) u) c.args.board.now.shared.table_id.slots c.args.seat.now.me c.exchange.new.seat.me c.store.new.seat.me c.args.disk c.requires.table.3 c.exchange.ensures.3 c.store.ensures.2).0)

pub returns-clause-given : goal.returns-clause-given
returns-clause-given g c = subst (λ n. GivenBack (λ u. ReadBy n c.args.disk.trace (went_of c.args.disk.failed) (view_of c.args.seat.now.me.0) u) c.args.disk.failed c.args.disk.trace c.args.seat.now.me.0 c.store.new.seat.me.0) (sym c.requires.name)
    (told_so (λ m u. ReadBy g.K.Naming.name (trace_of (carried m.1)) (went_of (failed_of (carried m.1))) (view_of m.0) u) c.args.board.now.shared.table_id.slots c.args.seat.now.me c.exchange.new.seat.me c.store.new.seat.me c.args.disk c.requires.table.3 c.exchange.ensures.3 c.store.ensures.2).1
