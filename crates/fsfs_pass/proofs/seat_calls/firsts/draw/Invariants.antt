use Rattle.fsfs_pass.proofs.seat_calls.firsts.draw.Given as goal

abbrev pub ghosts-give_drawn : goal.ghosts-give_drawn
ghosts-give_drawn g a = record { base = a.base }
