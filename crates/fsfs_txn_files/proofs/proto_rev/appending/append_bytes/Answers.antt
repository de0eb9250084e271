use Rattle.std.proofs.Common.{◌≡◌, ◌≤◌, ◌++◌, ℕ, List, None, length, take, ◌∙◌, arith}
use Rattle.std.proofs.lemmas.List.{length-append}
use Rattle.std.proofs.lemmas.Result.{err_from_is_err_and}
use Rattle.fsfs_txn_files.proofs.SourceLemmas.{front_more}
use Rattle.fsfs_txn_files.proofs.TextLemmas.{spoiled_after, left_bench, refused_bench, refused_piece}
use Rattle.fsfs_txn_files.proofs.Steps.{plain, goes_on, taken_piece}
use Rattle.fsfs_txn_files.proofs.proto_rev.appending.append_bytes.Goals as goal

pub returns-in_err-count-clause-refused : goal.returns-in_err-count-clause-refused
returns-in_err-count-clause-refused g c =
    let w = c.pieces.invariant.taking in
    let p = err_from_is_err_and c.from_residual-in_err-count.result c.from_residual-in_err-count.ensures.1 in
    rw (p.1, p.2) (refused_piece (g.I.Source.remaining c.args.source.now) (g.I.Source.remaining c.pieces.source) (g.I.Source.remaining c.next_piece.new.source) w.text c.pieces.taken.length _
    w.given w.has.length_is w.short c.in_err-count.ensures.refused)

pub returns-in_err-put-2-clause-refused : goal.returns-in_err-put-2-clause-refused
returns-in_err-put-2-clause-refused g c =
    let w = c.pieces.invariant.taking in
    let n : ℕ = c.in_ok-count.count in
    let piece : List ℕ = take n c.next_piece.new.piece in
    let size : length piece ≡ n = taken_piece n c.next_piece.new.piece c.in_ok-count.ensures.fits.0 in
    let short : length (w.text ++ piece) ≤ 1073741824 = omega (arith, length-append w.text piece, size, c.in_ok-count.ensures.fits.1, w.has.length_is) in
    let p = err_from_is_err_and c.from_residual-in_err-put-2.result c.from_residual-in_err-put-2.ensures.1 in
    rw (p.1, p.2) (refused_bench (g.I.Source.remaining c.args.source.now) (g.I.Source.remaining c.next_piece.new.source) None (w.text ++ piece) _ c.in_err-put-2.ensures.refused
    (front_more (g.I.Source.remaining c.args.source.now) (g.I.Source.remaining c.pieces.source) (g.I.Source.remaining c.next_piece.new.source) w.text piece w.given c.in_ok-count.ensures.given) short)

pub returns-in_err-put-2-clause-left : goal.returns-in_err-put-2-clause-left
returns-in_err-put-2-clause-left g c =
    let w = c.pieces.invariant.taking in
    let p = err_from_is_err_and c.from_residual-in_err-put-2.result c.from_residual-in_err-put-2.ensures.1 in
    rw (p.1, p.2) (left_bench (g.D.Bench.contents c.args.bench.now) (g.D.Bench.contents c.put-in-pieces.new.bench) c.args.file.now _ c.in_err-put-2.ensures.refused
    (spoiled_after (g.D.Bench.contents c.args.bench.now) (g.D.Bench.contents c.pieces.bench) (g.D.Bench.contents c.put-in-pieces.new.bench) c.args.file.now (plain ++ w.text) w.files c.in_err-put-2.ensures.err))

pub pieces-preserved : goal.pieces-preserved
pieces-preserved g c =
    let w = c.pieces.invariant in
    let n : ℕ = c.in_ok-count.count in
    let piece : List ℕ = take n c.next_piece.new.piece in
    let size : length piece ≡ n = taken_piece n c.next_piece.new.piece c.in_ok-count.ensures.fits.0 in
    record {
      taking = goes_on (g.D.Bench.contents c.args.bench.now) (g.D.Bench.contents c.pieces.bench) (g.D.Bench.contents c.put-in-pieces.new.bench)
          (g.I.Source.remaining c.args.source.now) (g.I.Source.remaining c.pieces.source) (g.I.Source.remaining c.next_piece.new.source) c.args.file.now piece c.pieces.taken c.add.new.self
          w.taking c.in_ok-count.ensures.given (omega (arith, size, c.in_ok-count.ensures.fits.1)) c.in_ok-put-2.ensures.ok c.add.ensures.taken;
      room = c.next_piece.auto.piece ∙ w.room;
      source = omega (arith, w.source, c.in_ok-count.ensures.cause.later);
      bench = omega (arith, w.bench, c.in_ok-put-2.ensures.cause.later);
    }
