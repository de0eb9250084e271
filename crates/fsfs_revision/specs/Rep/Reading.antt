-- A representation that is being read.
use Rattle.std.specs.Prelude.{ℕ, ◌+◌, ◌≤◌, List, length, take, drop}
use Rattle.fsfs_revision.specs.declared.rep.frame.TheConstants.{PLAIN_LEN}
use Rattle.fsfs_revision.specs.declared.rep.rep_reader.RepReader.{RepReader}
use Rattle.fsfs_revision.specs.Rep.Headers.{HasPlainLine}
use Rattle.fsfs_revision.specs.Rep.Seen.{HasSeenNamed}

-- the header was there, and so many bytes behind it were read and digested
pub record IsReading (reader : RepReader) (bytes : List ℕ) : Type 0 where
  pub header : HasPlainLine reader.rep.offset bytes
  pub within : reader.rep.offset + PLAIN_LEN + reader.done ≤ length bytes
  pub seen : HasSeenNamed reader.digests (take reader.done (drop (reader.rep.offset + PLAIN_LEN) bytes))
