use Rattle.fsfs_pass.proofs.seat_calls.reads.read.Given as goal

abbrev pub ghosts-give_read : goal.ghosts-give_read
ghosts-give_read g a = record { name = a.name.now }
