use Rattle.std.proofs.Common.{ℕ, List, length, drop, subst, arith}
use Rattle.std.specs.declared.vec.Vec.{Vec}
use Rattle.std.specs.declared.alloc.Global.{Global}
use Rattle.std.proofs.lemmas.Result.{err_from_is_err_and}
use Rattle.fsfs_base.specs.Grammar.Relations.{GoesOn}
use Rattle.fsfs_layout.specs.Hash.Dump.{IsDump}
use Rattle.fsfs_revision.proofs.Keeping.{keeps_trans}
use Rattle.fsfs_look.proofs.RevpropsFileLemmas.{file_wrong, front_read}
use Rattle.fsfs_look.proofs.revprops.reading.file_bytes.Goals as goal

abbrev items : Vec ℕ Global → List ℕ
items v = v.items

pub returns-in_err-count-clause-read : goal.returns-in_err-count-clause-read
returns-in_err-count-clause-read g c =
    let p = err_from_is_err_and c.from_residual-in_err-count.result c.from_residual-in_err-count.ensures.1 in
    rw (p.1, p.2) (file_wrong (g.B.RevProps.may_read c.args.book.now) (g.B.RevProps.may_read c.loop.book) c.loop.invariant.fewer c.args.rev items c.in_err-count.field-0.0 c.in_err-count.ensures.read)

pub returns-in_err-count-clause-kept : goal.returns-in_err-count-clause-kept
returns-in_err-count-clause-kept g c = keeps_trans _ _ _ c.loop.invariant.kept c.in_err-count.ensures.kept

pub loop-preserved : goal.loop-preserved
loop-preserved g c =
    let inv = c.loop.invariant in
    record {
      fewer = λ r read may. inv.fewer r read (c.in_ok-count.ensures.fewer r read may);
      kept = keeps_trans _ _ _ inv.kept c.in_ok-count.ensures.kept;
      later = omega (arith, inv.later, c.in_ok-count.ensures.cause.later);
    }

pub returns-then-leave_form-clause-read : goal.returns-then-leave_form-clause-read
returns-then-leave_form-clause-read g c =
    front_read (g.B.RevProps.may_read c.args.book.now) (g.B.RevProps.may_read c.loop.book) c.loop.invariant.fewer c.args.rev _ c.look.new.buffer (drop (length c.look.new.buffer) c.in_ok-bytes.bytes.items) c.in_ok-bytes.bytes.len c.in_ok-count.count
    c.in_ok-count.ensures.read (grind (arith, c.deref_mut.ensures.len)) (grind (arith, c.in_ok-bytes.ensures.len, c.if-count-size.false)) c.in_ok-count.ensures.bound (subst (λ (b : List ℕ). ¬ GoesOn IsDump b) c.deref.ensures.value (c.leave_form.ensures c.if-leave_form.true))
