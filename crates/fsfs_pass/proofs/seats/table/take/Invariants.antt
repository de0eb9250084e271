use Rattle.fsfs_pass.proofs.seats.table.take.Given as goal

abbrev pub ghosts-take_of : goal.ghosts-take_of
ghosts-take_of g a = record { disk = a.board.now.shared.key.value.disk; packs = a.board.now.shared.key.value.seat.since.packs; names = a.board.now.shared.key.value.seat.given }
