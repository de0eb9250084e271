use Rattle.std.proofs.Common.{◌≡◌, ◌<◌, ◌/◌, ◌-◌, ◌∙◌, ℕ, sym, ap, subst, true, arith}
use Rattle.std.specs.Prelude.{Some, is_some}
use denote.Param.Send.{Quiet-if}
use mir.Syntax.{of_param}
use Rattle.fsfs_pass.specs.declared.seats.seat_view.SeatView.{SeatView}
use Rattle.fsfs_pass.specs.Tells.{TellsIt}
use Rattle.fsfs_workers.specs.Beside.{HaveWorked}
use Rattle.fsfs_workers.specs.Ready.{IsReady}
use Rattle.fsfs_workers.proofs.WithPacks.{packed_have, packed_often}
use Rattle.fsfs_workers.proofs.Readiness.{halved_ready, split_ready, rested}
use Rattle.fsfs_workers.proofs.packing.beside.do_packing.Goals as goal

pub split-packer-requires-clause-sits : goal.split-packer-requires-clause-sits
split-packer-requires-clause-sits g c = c.requires.ready.sitting

pub join-seat-requires-after_bounds : goal.join-seat-requires-after_bounds
join-seat-requires-after_bounds g c κs within =
    let r = c.requires in
    let split = c.split-packer.ensures in
    let tells = is_some (g.D.Disk.trace c.args.first.now.value) in
    let half = subst (λ (z : SeatView). IsReady c.args.layout c.args.floor tells z) (sym (ap (λ m. m.0) split.same.2)) (halved_ready c.args.layout c.args.floor tells c.args.seat.me.0 r.ready) in
    let new = subst (λ (z : SeatView). IsReady c.args.layout c.args.floor tells z) (sym split.split.1)
    (split_ready c.args.layout c.args.floor tells c.args.seat.me.0 split.split.0 c.split-packer.result.me.0.met r.ready (subst (λ (z : SeatView). TellsIt z) split.split.1 split.tells)) in
    let parts : c.split-packer.new.seat.me.0.kin.parts ≡ c.args.seat.me.0.kin.parts - c.args.seat.me.0.kin.parts / 2 = ap (λ m. m.0.kin.parts) split.same.2 in (
      (
        r.moment,
        (
          c.in-Ok.ensures.room,
          (
            (split.same.0 ∙ r.sits.0, r.sits.1, r.sits.2, ap (λ m. m.1) split.same.2 ∙ r.sits.3),
            (
              omega (arith, parts, r.parts),
              (
                subst (λ d. IsReady c.args.layout c.args.floor (is_some (g.D.Disk.trace d)) c.split-packer.new.seat.me.0) (sym c.said_again-note.ensures) half,
                (
                  record { owned = c.type_bounds.send-D.owned; leaving = λ k. Quiet-if (k (of_param 1)) _ _ (λ x w. tt) (λ x w. tt) },
                  record { owned = c.type_bounds.send-D-Bench.owned; leaving = λ k. Quiet-if (k (of_param 3)) _ _ (λ x w. tt) (λ x w. tt) },
                  record { shared = c.type_bounds.sync-R.shared },
                  record { shared = c.type_bounds.sync-G.shared },
                ),
              ),
            ),
          ),
        ),
      ),
      (
        (split.new.0 ∙ r.sits.0, r.sits.1, r.sits.2, split.new.1),
        (
          subst (λ d. IsReady c.args.layout c.args.floor (is_some (g.D.Disk.trace d)) c.split-packer.result.me.0) (sym c.said_again-packer_note.ensures) new,
          λ told. ap (λ (z : SeatView). z.since.packs) split.split.1 ∙ r.packs (sym (ap (λ (z : SeatView). z.told) split.split.1) ∙ told),
        ),
      ),
    )

pub returns-clause-done : goal.returns-clause-done
returns-clause-done g c =
    let split = c.split-packer.ensures in
    let j = c.join-seat.ensures in
    subst (λ (n : ℕ). HaveWorked c.args.micros n (Some c.join-seat.result.1.1.sticks) c.args.jobs.now c.join-seat.result.0.1.items c.args.seat.me.0 c.join.new.seat.me.0) c.in-Ok.ensures.workers
    (packed_have c.args.micros _ _ c.join-seat.result.1.1 c.args.jobs.now c.join-seat.result.0.1.items c.args.seat.me.0 c.split-packer.new.seat.me.0 c.split-packer.result.me.0 c.join-seat.result.0.0.me.0 c.join-seat.result.1.0.me.0 c.join.new.seat.me.0 split.split.0
    (ap (λ m. m.0) split.same.2) split.split.1 (ap (λ m. m.0) c.join.ensures.joined) j.first.0 j.second.0
    (λ told. (c.join.ensures.seen (j.first.0.duty ∙ ap (λ m. m.0.told) split.same.2 ∙ told)).0))

pub returns-clause-packed : goal.returns-clause-packed
returns-clause-packed g c =
    let split = c.split-packer.ensures in
    let j = c.join-seat.ensures in
    packed_often c.args.micros _ _ c.join-seat.result.1.1 c.args.jobs.now c.join-seat.result.0.1.items c.args.seat.me.0 c.split-packer.new.seat.me.0 c.split-packer.result.me.0 c.join-seat.result.0.0.me.0 c.join-seat.result.1.0.me.0 c.join.new.seat.me.0 split.split.0
    (ap (λ m. m.0) split.same.2) split.split.1 (ap (λ m. m.0) c.join.ensures.joined) j.first.0 j.second.0
