-- What was taken of a text.
use Rattle.std.specs.Prelude.{◌≡◌, ℕ, List, length}
use Rattle.fsfs_revision.specs.Rep.Seen.{HasSeen}
use Rattle.fsfs_txn_files.specs.declared.proto_rev.taken.Taken.{Taken}

pub record HasTaken (taken : Taken) (text : List ℕ) : Type 0 where
  pub seen : HasSeen taken.digester text
  pub length_is : taken.length ≡ length text
