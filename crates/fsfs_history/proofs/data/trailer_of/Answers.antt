use Rattle.std.proofs.Common.{ℕ, List, length, Result, Ok, Err, take, Some, ap, ◌∙◌}
use Rattle.std.proofs.lemmas.Result.{err_from_is_err_and}
use Rattle.fsfs_revision.specs.Damage.Damages.{place_of}
use Rattle.fsfs_revision.specs.declared.wrong.Refusal.{Refusal}
use Rattle.fsfs_revision.specs.declared.trailer.Trailer.{Trailer}
use Rattle.fsfs_revision.specs.Damages.{TrailerIn}
use Rattle.fsfs_dag.proofs.Steps.{told_later}
use Rattle.fsfs_dag.proofs.Windows.{length_stops, window_stops, window_read}
use Rattle.fsfs_history.proofs.EndLemmas.{trailer_found, trailer_missing}
use Rattle.fsfs_history.proofs.data.trailer_of.Goals as goal

pub returns-in_err-len-clause-told : goal.returns-in_err-len-clause-told
returns-in_err-len-clause-told g c = λ look told.
    let p = err_from_is_err_and c.from_residual.result c.from_residual.ensures.1 in
    rw (p.1, p.2) (length_stops (λ (n : ℕ). n) (λ (t : Trailer). t) look c.args.rev c.in_err-len.field-0.0 (TrailerIn c.args.rev) (c.in_err-len.ensures.told look told))

pub returns-in_err-count-clause-told : goal.returns-in_err-count-clause-told
returns-in_err-count-clause-told g c = λ look told.
    let p = err_from_is_err_and c.from_residual-in_err-count.result c.from_residual-in_err-count.ensures.1 in
    let later = told_later _ _ look c.args.rev c.in_ok-len.ensures.kept told in
    let e = c.in_err-count.field-0.0 in
    let at = place_of c.args.rev c.saturating_sub-begins.result in
    let ens = c.in_err-count.ensures in
    let read = window_read look at 64 c.window.new.buffer (Err e) (λ bytes is. ens.bytes bytes (later ∙ ap (λ (r : Result (List ℕ) Refusal). Some r) is)) (λ why is. ens.refused why (later ∙ ap (λ (r : Result (List ℕ) Refusal). Some r) is)) in
    rw (p.1, p.2) (window_stops (λ (n : ℕ). take n c.window.new.buffer) (λ (t : Trailer). t) look at 64 e (TrailerIn c.args.rev) read)

pub returns-in-Some-clause-told : goal.returns-in-Some-clause-told
returns-in-Some-clause-told g c = λ look told.
    let later = told_later _ _ look c.args.rev c.in_ok-len.ensures.kept told in
    let at = place_of c.args.rev c.saturating_sub-begins.result in
    let ens = c.in_ok-count.ensures in
    let read = window_read look at 64 c.window.new.buffer (Ok c.in_ok-count.count) (λ bytes is. ens.bytes bytes (later ∙ ap (λ (r : Result (List ℕ) Refusal). Some r) is)) (λ why is. ens.refused why (later ∙ ap (λ (r : Result (List ℕ) Refusal). Some r) is)) in
    trailer_found look c.args.rev c.in_ok-len.len c.saturating_sub-begins.result _ (c.in_ok-len.ensures.told look told) c.saturating_sub-begins.ensures read c.in-Some.trailer c.in-Some.ensures.found

pub returns-in-None-clause-told : goal.returns-in-None-clause-told
returns-in-None-clause-told g c = λ look told.
    let later = told_later _ _ look c.args.rev c.in_ok-len.ensures.kept told in
    let at = place_of c.args.rev c.saturating_sub-begins.result in
    let ens = c.in_ok-count.ensures in
    let read = window_read look at 64 c.window.new.buffer (Ok c.in_ok-count.count) (λ bytes is. ens.bytes bytes (later ∙ ap (λ (r : Result (List ℕ) Refusal). Some r) is)) (λ why is. ens.refused why (later ∙ ap (λ (r : Result (List ℕ) Refusal). Some r) is)) in
    let missing = trailer_missing look c.args.rev c.in_ok-len.len c.saturating_sub-begins.result _ (c.in_ok-len.ensures.told look told) c.saturating_sub-begins.ensures read (λ t h. let none = c.in-None.ensures.only t h in cc) in
    rw c.damaged.ensures missing
