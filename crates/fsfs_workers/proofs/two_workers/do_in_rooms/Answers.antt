use Rattle.std.proofs.Common.{◌≡◌, ◌∙◌, sym, ap, subst, length, arith}
use Rattle.std.specs.Prelude.{is_some, vec_len}
use Rattle.fsfs_pass.specs.declared.seats.seat_view.SeatView.{SeatView}
use Rattle.fsfs_pass.specs.Tells.{TellsIt}
use Rattle.fsfs_job_run.specs.Workers.Lines.{dealt}
use Rattle.fsfs_workers.specs.InTurn.{AreDealt}
use Rattle.fsfs_workers.specs.Ready.{IsReady}
use Rattle.fsfs_workers.proofs.Both.{both_have}
use Rattle.fsfs_workers.proofs.InTurnLemmas.{shares_are_dealt, shares_are_all}
use Rattle.fsfs_workers.proofs.Readiness.{halved_ready, split_ready}
use Rattle.fsfs_workers.proofs.two_workers.do_in_rooms.Goals as goal

pub split-other-requires-clause-sits : goal.split-other-requires-clause-sits
split-other-requires-clause-sits g c = c.requires.ready.sitting

pub join-seat-requires-after_bounds : goal.join-seat-requires-after_bounds
join-seat-requires-after_bounds g c κs within =
    let r = c.requires in
    let split = c.split-other.ensures in
    let room = c.requires.room in
    let tells = is_some (g.D.Disk.trace c.args.first.now.value) in
    let half = subst (λ (z : SeatView). IsReady c.args.layout c.args.floor tells z) (sym (ap (λ m. m.0) split.same.2)) (halved_ready c.args.layout c.args.floor tells c.args.seat.me.0 r.ready) in
    let new = subst (λ (z : SeatView). IsReady c.args.layout c.args.floor tells z) (sym split.split.1)
    (split_ready c.args.layout c.args.floor tells c.args.seat.me.0 split.split.0 c.split-other.result.me.0.met r.ready (subst (λ (z : SeatView). TellsIt z) split.split.1 split.tells)) in (
      (
        r.moment,
        (
          (room.first, omega (arith, room.first_many)),
          (
            (split.same.0 ∙ r.sits.0, r.sits.1, r.sits.2, ap (λ m. m.1) split.same.2 ∙ r.sits.3),
            subst (λ d. IsReady c.args.layout c.args.floor (is_some (g.D.Disk.trace d)) c.split-other.new.seat.me.0) (sym c.said_again-note.ensures) half,
          ),
        ),
      ),
      (
        r.moment,
        (
          (room.second, omega (arith, room.second_many)),
          (
            (split.new.0 ∙ r.sits.0, r.sits.1, r.sits.2, split.new.1),
            subst (λ d. IsReady c.args.layout c.args.floor (is_some (g.D.Disk.trace d)) c.split-other.result.me.0) (sym c.said_again-other_note.ensures) new,
          ),
        ),
      ),
    )

pub in_order-requires-clause-dealt : goal.in_order-requires-clause-dealt
in_order-requires-clause-dealt g c =
    let firsts = c.join-seat.result.0.1 in
    let seconds = c.join-seat.result.1.1 in
    let a : vec_len firsts ≡ length (dealt 2 0 c.args.jobs.now) = firsts.ok.0 ∙ c.join-seat.ensures.first.0.each in
    let b : vec_len seconds ≡ length (dealt 2 1 c.args.jobs.now) = seconds.ok.0 ∙ c.join-seat.ensures.second.0.each in
    subst (λ n. AreDealt n (vec_len seconds)) (sym a) (subst (λ n. AreDealt (length (dealt 2 0 c.args.jobs.now)) n) (sym b) (shares_are_dealt c.args.jobs.now))

pub in_order-requires-clause-room : goal.in_order-requires-clause-room
in_order-requires-clause-room g c =
    let firsts = c.join-seat.result.0.1 in
    let seconds = c.join-seat.result.1.1 in
    let a : vec_len firsts ≡ length (dealt 2 0 c.args.jobs.now) = firsts.ok.0 ∙ c.join-seat.ensures.first.0.each in
    let b : vec_len seconds ≡ length (dealt 2 1 c.args.jobs.now) = seconds.ok.0 ∙ c.join-seat.ensures.second.0.each in
    let all = shares_are_all c.args.jobs.now in
    (c.requires.room.both, omega (arith, a, b, all, c.requires.room.both_many))

pub returns-clause-done : goal.returns-clause-done
returns-clause-done g c =
    let split = c.split-other.ensures in
    let j = c.join-seat.ensures in
    both_have c.args.micros c.args.jobs.now c.join-seat.result.0.1.items c.join-seat.result.1.1.items c.in_order.result.items c.args.seat.me.0 c.split-other.new.seat.me.0 c.split-other.result.me.0 c.join-seat.result.0.0.me.0 c.join-seat.result.1.0.me.0 c.join.new.seat.me.0 split.split.0
    (ap (λ m. m.0) split.same.2) split.split.1 (ap (λ m. m.0) c.join.ensures.joined) c.in_order.ensures j.first.0 j.second.0
    (λ told. c.join.ensures.seen (j.first.0.duty ∙ ap (λ m. m.0.told) split.same.2 ∙ told))
