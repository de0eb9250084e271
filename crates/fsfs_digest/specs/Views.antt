-- What the types of this crate are, apart from where they lie in memory, and what a reading takes for another representation.
use Rattle.std.specs.Prelude.{ℕ, List, take, None}
use Rattle.fsfs_noderev.specs.declared.rep.Rep.{Rep}
use Rattle.fsfs_digest.specs.declared.piece.Piece.{Piece}

abbrev pub piece_bytes : Piece → List ℕ
piece_bytes piece = take piece.count piece.buffer.items

-- a representation but for the SHA-1 that it names
abbrev pub bare : Rep → Rep
bare rep = record { rev = rep.rev; offset = rep.offset; length = rep.length; size = rep.size; md5 = rep.md5; unique = None }
