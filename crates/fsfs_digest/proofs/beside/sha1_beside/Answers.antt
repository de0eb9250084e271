use Rattle.std.proofs.Common.{◌≡◌, ◌≤◌, ◌+◌, List, [], ◌++◌, ℕ, length, drop, take, Ok, sym, ap, subst, ◌∙◌, arith}
use Rattle.sha1.specs.Sha1.{Holds}
use Rattle.fsfs_noderev.specs.declared.rep.Rep.{Rep}
use Rattle.std.proofs.lemmas.Result.{err_from_is_err_and}
use Rattle.std.proofs.lemmas.List.{take_all, length-take}
use Rattle.fsfs_revision.specs.Rep.Frames.{text_of}
use Rattle.fsfs_revision.proofs.Keeping.{keeps_trans}
use Rattle.fsfs_revision.proofs.WholeLemmas.{told_later, fault_for, whole_for, bytes_more}
use Rattle.fsfs_digest.specs.declared.piece.Piece.{Piece}
use Rattle.fsfs_digest.specs.Views.{piece_bytes}
use Rattle.fsfs_digest.proofs.beside.sha1_beside.Goals as goal

pub returns-in_err-fill_beside-clause-bytes : goal.returns-in_err-fill_beside-clause-bytes
returns-in_err-fill_beside-clause-bytes g c = λ bytes e.
    let inv = c.pieces.invariant in
    let told = told_later _ _ _ _ (Ok bytes) inv.kept inv.rep e in
    let p = err_from_is_err_and c.from_residual-in_err-fill_beside.result c.from_residual-in_err-fill_beside.ensures.1 in
    rw (p.1, p.2) (fault_for _ _ bytes _ inv.rep (c.in_err-fill_beside.ensures.bytes bytes told (inv.read bytes e).0))

pub returns-in_err-fill_beside-clause-kept : goal.returns-in_err-fill_beside-clause-kept
returns-in_err-fill_beside-clause-kept g c = keeps_trans _ _ _ c.pieces.invariant.kept c.in_err-fill_beside.ensures.kept

pub returns-in_err-finish-clause-bytes : goal.returns-in_err-finish-clause-bytes
returns-in_err-finish-clause-bytes g c = λ bytes e.
    let inv = c.pieces.invariant in
    let told = told_later _ _ _ _ (Ok bytes) inv.kept inv.rep e in
    let p = err_from_is_err_and c.from_residual-in_err-finish.result c.from_residual-in_err-finish.ensures.1 in
    rw (p.1, p.2) (fault_for _ _ bytes _ inv.rep (c.in_err-finish.ensures.bytes bytes told (inv.read bytes e).0))

pub returns-in_err-finish-clause-kept : goal.returns-in_err-finish-clause-kept
returns-in_err-finish-clause-kept g c = keeps_trans _ _ _ c.pieces.invariant.kept c.in_err-finish.ensures.kept

pub returns-clause-kept : goal.returns-clause-kept
returns-clause-kept g c = keeps_trans _ _ _ c.pieces.invariant.kept c.in_ok-finish.ensures.kept

pub pieces-init : goal.pieces-init
pieces-init g c =
    let reader = c.in_ok-reader.ensures in
    record {
      rep = reader.rep;
      read = λ bytes e.
          let text : List ℕ = text_of c.args.rep.now bytes in
          (reader.bytes bytes e, ([], c.new-digest.ensures, c.in_ok-piece.ensures ∙ sym (ap (λ (n : ℕ). take n text) reader.done)));
      there = λ why e. reader.refused why e;
      kept = reader.kept;
      later = reader.cause.later;
    }

pub pieces-preserved : goal.pieces-preserved
pieces-preserved g c =
    let inv = c.pieces.invariant in
    let filled = c.in_ok-fill_beside.ensures in
    let next = c.fill_beside.new.next in
    record {
      rep = filled.rep ∙ inv.rep;
      read = λ bytes e.
          let told = told_later _ _ _ _ (Ok bytes) inv.kept inv.rep e in
          let before = inv.read bytes e in
          let more = filled.bytes bytes told before.0 in
          let taken : List ℕ = before.1.0 ++ piece_bytes c.pieces.piece in
          let now : taken ++ piece_bytes next ≡ take c.fill_beside.new.reader.done (text_of c.args.rep.now bytes) =
          bytes_more _ c.args.rep.now bytes taken next.buffer.items c.pieces.reader.done next.count c.fill_beside.new.reader.done inv.rep filled.done before.1.2 more.1 in
          (more.0, (taken, filled.digest before.1.0 before.1.1, ap (λ (p : Piece). taken ++ piece_bytes p) c.swap.ensures.x_after ∙ now));
      there = inv.there;
      kept = keeps_trans _ _ _ inv.kept filled.kept;
      later = omega (arith, inv.later, filled.cause.later);
    }

pub returns-clause-bytes : goal.returns-clause-bytes
returns-clause-bytes g c = λ bytes e.
    let inv = c.pieces.invariant in
    let told = told_later _ _ _ _ (Ok bytes) inv.kept inv.rep e in
    let text = text_of c.args.rep.now bytes in
    let read = inv.read bytes e in
    let size : c.pieces.reader.rep.length ≡ c.args.rep.now.length = ap (λ (r : Rep). r.length) inv.rep in
    let all : length text ≤ c.pieces.reader.done = omega (arith, size, c.left.ensures, c.pieces-test.false, length-take c.args.rep.now.length (drop (c.args.rep.now.offset + 6) bytes)) in
    let is : read.1.0 ++ c.bytes.result.now ≡ text = ap (λ (t : List ℕ). read.1.0 ++ t) c.bytes.ensures ∙ read.1.2 ∙ take_all c.pieces.reader.done text all in
    let digested = subst (λ (t : List ℕ). Holds c.update.new.self t) is (c.update.ensures read.1.0 read.1.1) in
    (whole_for _ _ bytes inv.rep (c.in_ok-finish.ensures.bytes bytes told read.0), c.finalize.ensures text digested)
