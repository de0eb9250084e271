use Rattle.std.proofs.Common.{◌≡◌, ◌≤◌, ℕ, take, map}
use Rattle.std.specs.Prelude.{IsSome}
use Rattle.std.specs.String.{string_bytes}
use Rattle.fsfs_revision.specs.Told.{RevisionBytes, Knows, Keeps}
use Rattle.fsfs_verify.specs.ReadDirs.{list_of, AreDirs}
use Rattle.fsfs_verify.proofs.dirs.ReadDirs.reach.Given as goal

-- the directories of the names so far were read
abbrev pub invariant-loop-name : goal.invariant-loop-name
invariant-loop-name g l = record {
  kept : Keeps (g.B.Book.told l.fn.book) (g.B.Book.told l.book);
  later : g.B.Book.faults l.fn.book ≤ g.B.Book.faults l.book;
  above : l.above ≡ map string_bytes (take l.name-index l.name-items);
  told : (look : RevisionBytes) (rev : ℕ) → Knows (g.B.Book.told l.fn.book).revs rev look → AreDirs look rev l.fn.self → AreDirs look rev l.self × IsSome (list_of l.self l.above);
}
