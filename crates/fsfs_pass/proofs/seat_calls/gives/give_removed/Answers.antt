use Rattle.std.proofs.Common.{◌≡◌, ℕ, rules, true, ◌∷◌, sym, ap, subst, ◌∙◌, Some, None, arith}
use Rattle.atomic_table.specs.Table.{rest}
use Rattle.fsfs_disk.specs.Trace.{Remove}
use Rattle.fsfs_turn.specs.Packing.{MayRemove}
use Rattle.fsfs_turn.specs.Views.{rev_name}
use Rattle.fsfs_pass.specs.declared.seats.seat_view.SeatView.{SeatView}
use Rattle.fsfs_pass.specs.Seats.{view_of}
use Rattle.fsfs_pass.specs.SeatCalls.Made.{Made, carried, failed_of}
use Rattle.fsfs_pass.specs.SeatCalls.Tells.{GivenBack, RemovedBy}
use Rattle.fsfs_pass.proofs.Going.{told_so}
use Rattle.fsfs_pass.proofs.PackCalls.{gives_removed}
use Rattle.fsfs_pass.proofs.seat_calls.gives.give_removed.Goals as goal

pub exchange-requires : goal.exchange-requires
exchange-requires g c = let e = c.requires.table.3 in (search rules, (None, e ∙ ap (λ cs. (0, None) ∷ rest cs) (sym e)))

pub store-requires : goal.store-requires
store-requires g c = let now = c.exchange.ensures.3 in let me = ap (λ m. m.0) now in let hand = ap (λ m. m.0.hand) now in (
  search rules,
  search rules,
  gives_removed g.K.Naming.name _ _ _ _ _ c.args.disk (ap (λ m. m.0.kin.stage) now ∙ c.requires.sits) c.files_are_short.ensures c.requires.made.0 (let one = c.requires.table.2 in omega (arith, one)) (ap (λ m. m.1) now ∙ ap (λ cs. (0, Some c.args.disk) ∷ rest cs) c.requires.table.3) (hand ∙ c.requires.made.1) c.requires.made.2
      (subst (λ n. Made c.args.disk.failed (Remove n) c.requires.made.0.trace c.args.disk.trace) c.requires.name c.requires.made.3)
      (subst (λ n. c.exchange.new.seat.me.0.told ≡ true → (r : ℕ) × MayRemove (view_of c.exchange.new.seat.me.0) r × (n ≡ rev_name (view_of c.exchange.new.seat.me.0) r)) c.requires.name
      (subst (λ (v : SeatView). v.told ≡ true → (r : ℕ) × MayRemove (view_of v) r × (c.args.name.now ≡ rev_name (view_of v) r)) (sym me) c.requires.may)),
)

pub returns-clause-same : goal.returns-clause-same
returns-clause-same g c = (search rules, search rules, (told_so (λ m u. RemovedBy g.K.Naming.name (failed_of (carried m.1)) (view_of m.0) u) c.args.board.now.shared.table_id.slots c.args.seat.now.me c.exchange.new.seat.me c.store.new.seat.me c.args.disk c.requires.table.3 c.exchange.ensures.3 c.store.ensures.2).0)

pub returns-clause-given : goal.returns-clause-given
returns-clause-given g c = subst (λ n. GivenBack (λ u. RemovedBy n c.args.disk.failed (view_of c.args.seat.now.me.0) u) c.args.disk.failed c.args.disk.trace c.args.seat.now.me.0 c.store.new.seat.me.0) (sym c.requires.name)
    (told_so (λ m u. RemovedBy g.K.Naming.name (failed_of (carried m.1)) (view_of m.0) u) c.args.board.now.shared.table_id.slots c.args.seat.now.me c.exchange.new.seat.me c.store.new.seat.me c.args.disk c.requires.table.3 c.exchange.ensures.3 c.store.ensures.2).1
