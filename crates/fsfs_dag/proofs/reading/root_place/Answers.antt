use Rattle.std.proofs.Common.{ℕ, take}
use Rattle.std.proofs.lemmas.Result.{err_from_is_err_and}
use Rattle.fsfs_revision.specs.Damage.Damages.{place_of}
use Rattle.fsfs_revision.specs.declared.damage.RevOffset.{RevOffset}
use Rattle.fsfs_dag.specs.Told.{EndIn}
use Rattle.fsfs_dag.proofs.Steps.{told_later}
use Rattle.fsfs_dag.proofs.Windows.{length_stops, window_stops, end_found, end_missing}
use Rattle.fsfs_dag.proofs.reading.root_place.Goals as goal

pub returns-in_err-len-clause-told : goal.returns-in_err-len-clause-told
returns-in_err-len-clause-told g c = λ look told.
    let p = err_from_is_err_and c.from_residual.result c.from_residual.ensures.1 in
    rw (p.1, p.2) (length_stops (λ (n : ℕ). n) (λ (at : RevOffset). at) look c.args.rev c.in_err-len.field-0.0 (EndIn c.args.rev) (c.in_err-len.ensures.told look told))

pub returns-in_err-count-clause-told : goal.returns-in_err-count-clause-told
returns-in_err-count-clause-told g c = λ look told.
    let p = err_from_is_err_and c.from_residual-in_err-count.result c.from_residual-in_err-count.ensures.1 in
    let later = told_later _ _ look c.args.rev c.in_ok-len.ensures.kept told in
    rw (p.1, p.2) (window_stops (λ (n : ℕ). take n c.window.new.buffer) (λ (at : RevOffset). at) look (place_of c.args.rev c.saturating_sub-begins.result) 64 c.in_err-count.field-0.0 (EndIn c.args.rev) (c.in_err-count.ensures.told look later))

pub returns-in-Some-clause-told : goal.returns-in-Some-clause-told
returns-in-Some-clause-told g c = λ look told.
    let later = told_later _ _ look c.args.rev c.in_ok-len.ensures.kept told in
    end_found look c.args.rev c.in_ok-len.len c.saturating_sub-begins.result _ (c.in_ok-len.ensures.told look told) c.saturating_sub-begins.ensures (c.in_ok-count.ensures.told look later) c.in-Some.trailer c.in-Some.ensures.found

pub returns-in-None-clause-told : goal.returns-in-None-clause-told
returns-in-None-clause-told g c = λ look told.
    let later = told_later _ _ look c.args.rev c.in_ok-len.ensures.kept told in
    let missing = end_missing look c.args.rev c.in_ok-len.len c.saturating_sub-begins.result _ (c.in_ok-len.ensures.told look told) c.saturating_sub-begins.ensures (c.in_ok-count.ensures.told look later)
    (λ t h. let none = c.in-None.ensures.only t h in cc) in
    rw c.damaged.ensures missing
