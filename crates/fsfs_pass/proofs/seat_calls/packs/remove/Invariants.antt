use Rattle.fsfs_pass.proofs.seat_calls.packs.remove.Given as goal

abbrev pub ghosts-give_removed : goal.ghosts-give_removed
ghosts-give_removed g a = record { name = a.name.now }
