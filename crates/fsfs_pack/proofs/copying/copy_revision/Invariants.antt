use Rattle.std.proofs.Common.{◌-◌, ◌≡◌, ◌≤◌, ◌++◌, List, ℕ, Some, Ok, length, take}
use Rattle.std.specs.Prelude.{IsSome}
use Rattle.fsfs_revision.specs.Told.{Keeps}
use Rattle.fsfs_pack.specs.Copies.{HasFile}
use Rattle.fsfs_pack.specs.Sections.{pack_text}
use Rattle.fsfs_pack.proofs.copying.copy_revision.Given as goal

-- the first bytes of the revision are behind what was there
abbrev pub invariant-pieces : goal.invariant-pieces
invariant-pieces g l = record {
  room : length l.piece ≡ length l.fn.piece;
  kept : Keeps (g.B.Book.told l.fn.book) (g.B.Book.told l.book);
  there : (before : List ℕ) → HasFile (g.N.Bench.contents l.fn.bench) pack_text before → (bytes : List ℕ) × HasFile (g.N.Bench.contents l.bench) pack_text bytes;
  tells : IsSome (g.N.Bench.contents l.fn.bench) → IsSome (g.N.Bench.contents l.bench);
  size : (bytes : List ℕ) → (g.B.Book.told l.fn.book).revs l.rev ≡ Some (Ok bytes) → (l.size ≡ length bytes) × (l.done ≤ length bytes);
  copied : (bytes before : List ℕ) → (g.B.Book.told l.fn.book).revs l.rev ≡ Some (Ok bytes) → HasFile (g.N.Bench.contents l.fn.bench) pack_text before → HasFile (g.N.Bench.contents l.bench) pack_text (before ++ take l.done bytes);
  read : g.B.Book.faults l.fn.book ≤ g.B.Book.faults l.book;
  bench : g.N.Bench.faults l.fn.bench ≤ g.N.Bench.faults l.bench;
}

abbrev pub decreases-pieces : goal.decreases-pieces
decreases-pieces g l = l.size - l.done
