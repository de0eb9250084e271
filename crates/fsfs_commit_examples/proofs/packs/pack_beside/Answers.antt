use Rattle.std.proofs.Common.{◌∙◌, sym, ap, subst}
use Rattle.fsfs_pass.specs.declared.seats.seat_view.SeatView.{SeatView}
use Rattle.fsfs_pass.specs.Met.{ground_of}
use Rattle.fsfs_pass.specs.Tells.{TellsIt}
use Rattle.fsfs_commit_examples.proofs.packs.pack_beside.Goals as goal

pub pass-reader-requires : goal.pass-reader-requires
pass-reader-requires g c =
    let r = c.requires in
    let split = c.split-other.ensures in
    let is = split.split.1 in
    record {
      sits = (split.new.0 ∙ r.sits.0, split.new.1, ap (λ (v : SeatView). v.kin.stage) is);
      layout = ap ground_of is ∙ r.layout;
      tells = split.tells;
    }

pub join-seat-requires-after_bounds : goal.join-seat-requires-after_bounds
join-seat-requires-after_bounds g c κs within =
    let r = c.requires in
    let split = c.split-other.ensures in
    let board = c.board-board.ensures in
    let is = split.same.2 in (
      (
        (
          split.same.0 ∙ r.sits.0 ∙ sym (ap (λ b. b.shared.table_id) board.same),
          board.sized.0,
          board.sized.1,
          ap (λ m. m.1) is ∙ r.sits.1,
          ap (λ m. m.0.kin.stage) is ∙ r.sits.2,
        ),
        (
          ap (λ m. ground_of m.0) is ∙ r.layout ∙ sym (λ i. record { layout = c.layout-layout.ensures i; low = c.floor-floor.ensures i }),
          (
            subst (λ m. TellsIt m.0) (sym is) r.tells,
            ap (λ m. m.0.told) is ∙ r.quiet,
          ),
        ),
      ),
      tt,
    )

pub returns : goal.returns
returns g c =
    let packed = c.join-seat.ensures.first in
    record { sits = (packed.0 ∙ c.split-other.ensures.same.0 ∙ c.requires.sits.0, packed.1, packed.2) }
