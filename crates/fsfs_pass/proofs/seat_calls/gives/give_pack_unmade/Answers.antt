use Rattle.std.proofs.Common.{◌≡◌, ℕ, List, rules, true, ◌∷◌, sym, ap, subst, ◌∙◌, Some, None, arith}
use Rattle.atomic_table.specs.Table.{rest}
use Rattle.fsfs_disk.specs.Trace.{Adopt}
use Rattle.fsfs_base.specs.declared.places.place.DiskPlace.{DiskPlace}
use Rattle.fsfs_turn.specs.Views.{IsDue}
use Rattle.fsfs_pass.specs.declared.seats.seat_view.SeatView.{SeatView}
use Rattle.fsfs_pass.specs.Seats.{view_of}
use Rattle.fsfs_pass.specs.SeatCalls.Tells.{PackUnmade}
use Rattle.fsfs_pass.proofs.Going.{told_so}
use Rattle.fsfs_pass.proofs.SectionCalls.{gives_pack_unmade}
use Rattle.fsfs_pass.proofs.seat_calls.gives.give_pack_unmade.Goals as goal

pub exchange-requires : goal.exchange-requires
exchange-requires g c = let e = c.requires.table.3 in (search rules, (None, e ∙ ap (λ cs. (0, None) ∷ rest cs) (sym e)))

pub store-requires : goal.store-requires
store-requires g c = let now = c.exchange.ensures.3 in let me = ap (λ m. m.0) now in let hand = ap (λ m. m.0.hand) now in (
  search rules,
  search rules,
  gives_pack_unmade _ _ _ _ _ c.args.disk c.requires.out.0 (ap (λ m. m.0.kin.stage) now ∙ c.requires.sits) c.files_are_short.ensures (let one = c.requires.table.2 in omega (arith, one)) (ap (λ m. m.1) now ∙ ap (λ cs. (0, Some c.args.disk) ∷ rest cs) c.requires.table.3) (hand ∙ c.requires.out.1) c.requires.out.2 c.requires.out.3 (subst (λ (v : SeatView). v.told ≡ true → (place : DiskPlace) × (file : List ℕ) × (bytes : List ℕ) × IsDue (view_of v) place (Adopt file bytes)) (sym me) c.requires.due),
)

pub returns-clause-same : goal.returns-clause-same
returns-clause-same g c = (search rules, search rules, (told_so (λ m u. PackUnmade (view_of m.0) u) c.args.board.now.shared.table_id.slots c.args.seat.now.me c.exchange.new.seat.me c.store.new.seat.me c.args.disk c.requires.table.3 c.exchange.ensures.3 c.store.ensures.2).0)

pub returns-clause-given : goal.returns-clause-given
returns-clause-given g c = (told_so (λ m u. PackUnmade (view_of m.0) u) c.args.board.now.shared.table_id.slots c.args.seat.now.me c.exchange.new.seat.me c.store.new.seat.me c.args.disk c.requires.table.3 c.exchange.ensures.3 c.store.ensures.2).1
