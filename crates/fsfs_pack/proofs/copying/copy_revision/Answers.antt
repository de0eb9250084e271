use Rattle.std.proofs.Common.{◌≡◌, ◌≤◌, ◌<◌, ◌+◌, ◌-◌, ◌++◌, ℕ, List, Some, Ok, length, take, refl, sym, subst, arith, rules, append-nil}
use Rattle.std.specs.Prelude.{min}
use Rattle.std.proofs.lemmas.List.{length-take}
use Rattle.std.proofs.lemmas.Result.{err_from_is_err_and}
use Rattle.fsfs_revision.proofs.Keeping.{keeps_trans}
use Rattle.fsfs_pack.specs.Causes.{IsWant}
use Rattle.fsfs_pack.specs.Copies.{HasFile}
use Rattle.fsfs_pack.specs.Sections.{pack_text}
use Rattle.fsfs_pack.proofs.BenchFiles.{book_want, size_is, copied_on, copied_all}
use Rattle.fsfs_pack.proofs.copying.copy_revision.Goals as goal

pub returns-in-Err-clause-fine : goal.returns-in-Err-clause-fine
returns-in-Err-clause-fine g c = λ bytes told. subst IsWant (sym c.fault_of.ensures) (book_want (λ n. n) c.args.rev c.in-Err.fault (length bytes) (c.in-Err.ensures.told (Ok bytes) told))

pub pieces-init : goal.pieces-init
pieces-init g c = record {
  room = refl;
  kept = c.rev_len.ensures.kept;
  there = λ before has. (before, has);
  tells = λ told. told;
  size = λ bytes told. (size_is c.in-Ok.size bytes (c.in-Ok.ensures.told (Ok bytes) told), omega arith);
  copied = λ bytes before told has. subst (λ l. HasFile (g.N.Bench.contents c.args.bench.now) pack_text l) (sym (append-nil before)) has;
  read = c.rev_len.ensures.cause.later;
  bench = omega arith;
}

pub returns-in_err-count-clause-fine : goal.returns-in_err-count-clause-fine
returns-in_err-count-clause-fine g c = λ bytes told.
    let p = err_from_is_err_and c.from_residual.result c.from_residual.ensures.1 in
    let size = c.pieces.invariant.size bytes told in
    rw (p.1, p.2) (c.in_err-count.ensures.fine bytes (c.pieces.invariant.kept.revs c.args.rev (Ok bytes) told) size.1)

-- as many as are asked for
asked : (piece : List ℕ) (size done most count : ℕ) → most ≡ min (length piece) (size - done) → count ≡ min (length (take most piece)) (size - done) → count ≡ min (length piece) (size - done)
asked piece size done most count least is = omega (arith, least, is, length-take most piece)

-- a piece that has a byte at least
many : (room size done count : ℕ) → 0 < room → done < size → count ≡ min room (size - done) → count ≡ 0 → ⊥
many room size done count some less is none = omega (arith, some, less, is, none)

pub returns-then-count-eq0-clause-fine : goal.returns-then-count-eq0-clause-fine
returns-then-count-eq0-clause-fine g c = λ bytes told.
    let size = c.pieces.invariant.size bytes told in
    many (length c.pieces.piece) (length bytes) c.pieces.done c.in_ok-count.count (omega (arith, c.requires.room, c.pieces.invariant.room)) (omega (arith, c.pieces-test.true, size.0))
    (asked c.pieces.piece (length bytes) c.pieces.done c.fitting-most.result c.in_ok-count.count (omega (arith, c.fitting-most.ensures, size.0)) (c.in_ok-count.ensures.many bytes (c.pieces.invariant.kept.revs c.args.rev (Ok bytes) told) size.1)) c.if-count-eq0.true

-- how far it is then
further : (room size done count next : ℕ) → done ≤ size → size < 18446744073709551616 → count ≡ min room (size - done) → next ≡ min (count + done) 18446744073709551615 → (next ≡ done + count) × (next ≤ size)
further room size done count next le fits is sum = (omega (arith, le, fits, is, sum), omega (arith, le, fits, is, sum))

pub pieces-preserved : goal.pieces-preserved
pieces-preserved g c =
    let w = c.pieces.invariant in
    let on = λ (bytes : List ℕ) (told : (g.B.Book.told c.args.book.now).revs c.args.rev ≡ Some (Ok bytes)). further (length c.pieces.piece) (length bytes) c.pieces.done c.in_ok-count.count c.saturating_add-done.result (w.size bytes told).1 (g.met.B.Book.fits c.args.book.now c.args.rev bytes told)
    (asked c.pieces.piece (length bytes) c.pieces.done c.fitting-most.result c.in_ok-count.count (omega (arith, c.fitting-most.ensures, (w.size bytes told).0)) (c.in_ok-count.ensures.many bytes (w.kept.revs c.args.rev (Ok bytes) told) (w.size bytes told).1)) c.saturating_add-done.ensures in
    record {
      room = search rules;
      kept = keeps_trans (g.B.Book.told c.args.book.now) (g.B.Book.told c.pieces.book) (g.B.Book.told c.copy_piece.new.book) w.kept c.in_ok-count.ensures.kept;
      tells = λ told. c.in_ok-count.ensures.tells (w.tells told);
      there = λ before has. let there = w.there before has in c.in_ok-count.ensures.there there.0 there.1;
      size = λ bytes told. ((w.size bytes told).0, (on bytes told).1);
      copied = λ bytes before told has. copied_on (g.N.Bench.contents c.copy_piece.new.bench) before bytes c.pieces.done c.in_ok-count.count c.saturating_add-done.result (on bytes told).0
          (c.in_ok-count.ensures.copied bytes (before ++ take c.pieces.done bytes) (w.kept.revs c.args.rev (Ok bytes) told) (w.size bytes told).1 (w.copied bytes before told has));
      read = omega (arith, w.read, c.in_ok-count.ensures.read_cause.later);
      bench = omega (arith, w.bench, c.in_ok-count.ensures.bench_cause.later);
    }

pub returns-clause-copied : goal.returns-clause-copied
returns-clause-copied g c = λ bytes before told has.
    let w = c.pieces.invariant in
    let size = w.size bytes told in
    (size.0, copied_all (g.N.Bench.contents c.pieces.bench) before bytes c.pieces.done (omega (arith, size.0, c.pieces-test.false)) (w.copied bytes before told has))
