use Rattle.std.proofs.Common.{◌≡◌, ◌∷◌, [], List, ℕ, ap, subst, sym, rules, Option, Some}
use Rattle.atomic_table.specs.Table.{opening}
use Rattle.fsfs_disk.specs.Seen.{DiskSeen}
use Rattle.fsfs_pass.specs.declared.seats.seat_view.Beginning.{Beginning}
use Rattle.fsfs_pass.specs.declared.seats.seat_view.SeatView.{SeatView}
use Rattle.fsfs_pass.specs.First.{IsFirst}
use Rattle.fsfs_pass.specs.Rule.{Rule}
use Rattle.fsfs_pass.specs.Seats.{nameless_view}
use Rattle.fsfs_pass.proofs.Beginnings.{begins}
use Rattle.fsfs_pass.proofs.seats.opening.start.Goals as goal

pub new-requires : goal.new-requires
new-requires g c =
    let d : DiskSeen = c.new-shared.result in
    let first : SeatView = c.args.about.now.value in
    let items : c.push.new.self.items ≡ Some d ∷ [] = search rules in
    let trace : d.trace ≡ g.D.Disk.trace c.args.disk = ap (λ (x : DiskSeen). x.trace) c.new-shared.ensures in
    subst (λ (b : Beginning). Rule b.disk b.seat (opening (0 ∷ 0 ∷ c.get.result ∷ []) c.push.new.self.items (nameless_view b.seat))) (sym c.of-first.ensures)
    (subst (λ (l : List (Option DiskSeen)). Rule d first (opening (0 ∷ 0 ∷ c.get.result ∷ []) l (nameless_view first))) (sym items)
    (subst (λ (n : ℕ). Rule d first (opening (0 ∷ 0 ∷ n ∷ []) (Some d ∷ []) (nameless_view first))) (sym c.get.ensures.same)
    (begins c.args.layout c.args.floor c.args.young d first c.get.ensures.limit c.files_are_short.ensures (subst (λ o. IsFirst c.args.layout c.args.floor c.args.young o first) (sym trace) c.requires.known))))
