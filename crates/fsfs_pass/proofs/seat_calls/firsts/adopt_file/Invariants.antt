use Rattle.std.specs.Prelude.{unwrap_or}
use Rattle.fsfs_pass.specs.SeatCalls.Tells.{no_adoption}
use Rattle.fsfs_pass.proofs.seat_calls.firsts.adopt_file.Given as goal

abbrev pub ghosts-give_adopted : goal.ghosts-give_adopted
ghosts-give_adopted g a = record { adoption = unwrap_or a.about.now.value no_adoption; bytes = a.bytes.now.value }
