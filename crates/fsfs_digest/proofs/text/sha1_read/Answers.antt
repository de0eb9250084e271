use Rattle.std.proofs.Common.{◌≡◌, ◌≤◌, ◌+◌, length, drop, take, Ok, refl, ap, subst, ◌∙◌, arith, rules, List, ℕ}
use Rattle.sha1.specs.Sha1.{Holds}
use Rattle.fsfs_noderev.specs.declared.rep.Rep.{Rep}
use Rattle.std.proofs.lemmas.Result.{err_from_is_err_and}
use Rattle.std.proofs.lemmas.List.{take_all, length-take}
use Rattle.fsfs_revision.specs.Rep.Frames.{text_of}
use Rattle.fsfs_revision.proofs.Keeping.{keeps_trans}
use Rattle.fsfs_revision.proofs.WholeLemmas.{told_later, fault_for, whole_for, bytes_more}
use Rattle.fsfs_digest.proofs.text.sha1_read.Goals as goal

pub returns-in_err-count-clause-bytes : goal.returns-in_err-count-clause-bytes
returns-in_err-count-clause-bytes g c = λ bytes e.
    let inv = c.pieces.invariant in
    let told = told_later _ _ _ _ (Ok bytes) inv.kept inv.rep e in
    let p = err_from_is_err_and c.from_residual-in_err-count.result c.from_residual-in_err-count.ensures.1 in
    rw (p.1, p.2) (fault_for _ _ bytes _ inv.rep (c.in_err-count.ensures.bytes bytes told (inv.read bytes e).0))

pub returns-in_err-count-clause-kept : goal.returns-in_err-count-clause-kept
returns-in_err-count-clause-kept g c = keeps_trans _ _ _ c.pieces.invariant.kept c.in_err-count.ensures.kept

pub pieces-preserved : goal.pieces-preserved
pieces-preserved g c =
    let inv = c.pieces.invariant in
    record {
      rep = c.in_ok-count.ensures.rep ∙ inv.rep;
      room = search rules;
      read = λ bytes e.
          let told = told_later _ _ _ _ (Ok bytes) inv.kept inv.rep e in
          let next = c.in_ok-count.ensures.bytes bytes told (inv.read bytes e).0 in
          let text = text_of c.args.rep.now bytes in (
            next.0,
            subst (λ (t : List ℕ). Holds c.update.new.self t) (bytes_more _ c.args.rep.now bytes (take c.pieces.reader.done text) c.next.new.buffer c.pieces.reader.done c.in_ok-count.count c.next.new.self.done inv.rep c.in_ok-count.ensures.done refl next.1)
                (c.update.ensures (take c.pieces.reader.done text) (inv.read bytes e).1),
          );
      there = inv.there;
      kept = keeps_trans _ _ _ inv.kept c.in_ok-count.ensures.kept;
      later = omega (arith, inv.later, c.in_ok-count.ensures.cause.later);
    }

pub returns-in_err-finish-clause-bytes : goal.returns-in_err-finish-clause-bytes
returns-in_err-finish-clause-bytes g c = λ bytes e.
    let inv = c.pieces.invariant in
    let told = told_later _ _ _ _ (Ok bytes) inv.kept inv.rep e in
    let p = err_from_is_err_and c.from_residual-in_err-finish.result c.from_residual-in_err-finish.ensures.1 in
    rw (p.1, p.2) (fault_for _ _ bytes _ inv.rep (c.in_err-finish.ensures.bytes bytes told (inv.read bytes e).0))

pub returns-in_err-finish-clause-kept : goal.returns-in_err-finish-clause-kept
returns-in_err-finish-clause-kept g c = keeps_trans _ _ _ c.pieces.invariant.kept c.in_err-finish.ensures.kept

pub returns-clause-bytes : goal.returns-clause-bytes
returns-clause-bytes g c = λ bytes e.
    let inv = c.pieces.invariant in
    let told = told_later _ _ _ _ (Ok bytes) inv.kept inv.rep e in
    let text = text_of c.args.rep.now bytes in
    let size : c.pieces.reader.rep.length ≡ c.args.rep.now.length = ap (λ (r : Rep). r.length) inv.rep in
    let all : length text ≤ c.pieces.reader.done = omega (arith, size, c.left.ensures, c.pieces-test.false, length-take c.args.rep.now.length (drop (c.args.rep.now.offset + 6) bytes)) in
    let digested = subst (λ (t : List ℕ). Holds c.pieces.digest t) (take_all c.pieces.reader.done text all) (inv.read bytes e).1 in
    (whole_for _ _ bytes inv.rep (c.in_ok-finish.ensures.bytes bytes told (inv.read bytes e).0), c.finalize.ensures text digested)

pub returns-clause-kept : goal.returns-clause-kept
returns-clause-kept g c = keeps_trans _ _ _ c.pieces.invariant.kept c.in_ok-finish.ensures.kept
