use Rattle.std.proofs.Common.{refl, arith}
use Rattle.std.proofs.lemmas.Result.{err_from_is_err_and}
use Rattle.fsfs_history.proofs.HistoryLemmas.{back_wrong, back_goes, back_lower, across_goes, across_falls}
use Rattle.fsfs_history.proofs.history.step_back.Goals as goal

pub returns-in_err-found-in-Back-clause-told : goal.returns-in_err-found-in-Back-clause-told
returns-in_err-found-in-Back-clause-told g c = λ top look knows within.
    let e = err_from_is_err_and c.from_residual.result c.from_residual.ensures.1 in
    let low = back_lower look c.args.at c.leads.result c.leads.ensures.lead c.in-Back.id c.in-Back.is c.leads.ensures.lower in
    let own = within.own in
    rw (e.1, e.2) (back_wrong look c.args.at c.leads.result c.leads.ensures.lead c.in-Back.id c.in-Back.is c.in_err-found-in-Back.field-0.0 (c.in_err-found-in-Back.ensures.told look (λ r lower. knows r (omega (arith, lower, low, own)))))

pub returns-in_ok-found-in-Back-clause-told : goal.returns-in_ok-found-in-Back-clause-told
returns-in_ok-found-in-Back-clause-told g c = λ top look knows within.
    let low = back_lower look c.args.at c.leads.result c.leads.ensures.lead c.in-Back.id c.in-Back.is c.leads.ensures.lower in
    let own = within.own in
    back_goes look c.args.at c.leads.result c.leads.ensures.lead c.in-Back.id c.in-Back.is (record { path = c.args.at.path; found = c.in_ok-found-in-Back.found; root = c.args.at.root })
    (c.in_ok-found-in-Back.ensures.told look (λ r lower. knows r (omega (arith, lower, low, own)))) refl refl

pub returns-in-Across-clause-told : goal.returns-in-Across-clause-told
returns-in-Across-clause-told g c = λ top look knows within. across_goes look c.args.at c.leads.result c.leads.ensures.lead c.in-Across.is c.across.result (c.across.ensures.told top look knows within.root)

pub returns-in-Across-clause-smaller : goal.returns-in-Across-clause-smaller
returns-in-Across-clause-smaller g c = across_falls c.args.at c.across.result c.across.ensures.lower
