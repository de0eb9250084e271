-- The laws of the turns of a pass at the table.
use Rattle.std.proofs.Common.{◌≡◌, ℕ, true, sym, ap, subst, ◌∙◌}
use Rattle.std.specs.Prelude.{Option, IsSome, is_some}
use Rattle.fsfs_disk.specs.Trace.{Trace}
use Rattle.fsfs_turn.specs.Views.{View}
use Rattle.fsfs_turn.specs.Telling.{TellsSeen}
use Rattle.fsfs_pass.specs.declared.seats.seat_view.SeatView.{SeatView}
use Rattle.fsfs_pass.specs.Met.{known_last, seat_store}
use Rattle.fsfs_pass.specs.Passes.{reach_by, pass_store, KnowsIt}

-- one view is known
pub one_known : (first : Option Trace) (last : ℕ) (s : SeatView) (v u : View) → KnowsIt first last s v → KnowsIt first last s u → u ≡ v
one_known first last s v u a b = sym b.is ∙ a.is

-- where the disk tells, its benches do
pub bench_tells : {X : Type 0} (first : Option Trace) (last : ℕ) (s : SeatView) (v : View) (held : Option X) → is_some held ≡ is_some first → KnowsIt first last s v → IsSome held
bench_tells first last s v held same k = same ∙ k.disk

-- where the disk tells, the pass tells what its seat does
pub store_told : (last : ℕ) (s : SeatView) → s.told ≡ true → seat_store s ≡ pass_store last s
store_told last s told = ap (λ b. record (seat_store s) { reach = reach_by b last (known_last s) }) (sym told)

pub pass_tells : (last : ℕ) (s : SeatView) (v : View) → s.told ≡ true → TellsSeen s.low (seat_store s) v → TellsSeen s.low (pass_store last s) v
pass_tells last s v told t = subst (λ z. TellsSeen s.low z v) (store_told last s told) t
