use Rattle.std.proofs.Common.{◌≡◌, ◌-◌, ℕ, List, length, take, Ok, Err, ap, ◌∙◌, arith}
use Rattle.std.proofs.lemmas.Grind.{common_steps}
use Rattle.std.specs.declared.vec.Vec.{Vec}
use Rattle.std.specs.declared.alloc.Global.{Global}
use Rattle.std.proofs.lemmas.Result.{err_from_is_err_and}
use Rattle.fsfs_revision.specs.declared.trailer.Trailer.{Trailer}
use Rattle.fsfs_dag.proofs.Steps.{told_later}
use Rattle.fsfs_history.specs.declared.data.ChangesData.{ChangesData}
use Rattle.fsfs_history.proofs.EndLemmas.{no_trailer, no_rest, data_found}
use Rattle.fsfs_history.proofs.data.changes_data.Goals as goal

abbrev value : ChangesData → ℕ × List ℕ
value d = (d.begins, d.bytes.items)

pub returns-in_err-trailer-clause-told : goal.returns-in_err-trailer-clause-told
returns-in_err-trailer-clause-told g c = λ look told.
    let p = err_from_is_err_and c.from_residual.result c.from_residual.ensures.1 in
    rw (p.1, p.2) (no_trailer (λ (t : Trailer). t) value look c.args.rev c.in_err-trailer.field-0.0 (c.in_err-trailer.ensures.told look told))

pub returns-in_err-bytes-clause-told : goal.returns-in_err-bytes-clause-told
returns-in_err-bytes-clause-told g c = λ look told.
    let p = err_from_is_err_and c.from_residual-in_err-bytes.result c.from_residual-in_err-bytes.ensures.1 in
    let later = told_later _ _ look c.args.rev c.in_ok-trailer.ensures.kept told in
    rw (p.1, p.2) (no_rest (λ (v : Vec ℕ Global). v.items) value look c.args.rev c.in_ok-trailer.trailer.changes c.in_err-bytes.field-0.0 (c.in_err-bytes.ensures.told look later))

pub returns-clause-told : goal.returns-clause-told
returns-clause-told g c = λ look told.
    let later = told_later _ _ look c.args.rev c.in_ok-trailer.ensures.kept told in
    let rest = c.in_ok-bytes.bytes.items in
    let count : c.saturating_sub.result ≡ length rest - c.trailer_len.result = grind (arith, common_steps) in
    data_found look c.args.rev c.in_ok-trailer.trailer rest c.truncate.new.self.items c.trailer_len.result (c.in_ok-trailer.ensures.told look told) (c.in_ok-bytes.ensures.told look later) (c.truncate.ensures.items ∙ ap (λ (n : ℕ). take n rest) count) c.trailer_len.ensures
