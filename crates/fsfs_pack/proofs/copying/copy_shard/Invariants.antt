use Rattle.std.proofs.Common.{◌-◌, ◌≡◌, ◌≤◌, ◌<◌, List, ℕ, length}
use Rattle.std.specs.Prelude.{IsSome}
use Rattle.fsfs_machine.specs.declared.contents.Part.{Part}
use Rattle.fsfs_revision.specs.Told.{Keeps}
use Rattle.fsfs_pack.specs.Copies.{HasFile, AreTold, AreOffsets}
use Rattle.fsfs_pack.specs.Sections.{pack_text}
use Rattle.fsfs_pack.proofs.Offsets.{AreCopied}
use Rattle.fsfs_pack.proofs.copying.copy_shard.Given as goal

-- the first revisions of the shard are in the pack
abbrev pub invariant-revisions : goal.invariant-revisions
invariant-revisions g l = record {
  kept : Keeps (g.B.Book.told l.fn.book) (g.B.Book.told l.book);
  many : length l.offsets.items ≡ l.number - l.shard.first;
  room : length l.piece ≡ 65536;
  tells : IsSome (g.N.Bench.contents l.fn.bench) → IsSome (g.N.Bench.contents l.bench);
  there : (bytes : List ℕ) × HasFile (g.N.Bench.contents l.bench) pack_text bytes;
  fits : l.at < 18446744073709551616;
  rising : AreOffsets l.offsets.items l.at;
  copied : (parts : List Part) → IsSome (g.N.Bench.contents l.fn.bench) → AreTold (g.B.Book.told l.fn.book).revs l.shard.first parts → length parts ≡ l.shard.next - l.shard.first → AreCopied parts (l.number - l.shard.first) l.offsets.items l.at (g.N.Bench.contents l.bench);
  read : g.B.Book.faults l.fn.book ≤ g.B.Book.faults l.book;
  bench : g.N.Bench.faults l.fn.bench ≤ g.N.Bench.faults l.bench;
}
