use Rattle.std.proofs.Common.{sym, ap, ◌∙◌}
use Rattle.std.specs.Prelude.{Option, option_map}
use Rattle.fsfs_dag.specs.declared.listing.entries.Listing.{Listing}
use Rattle.fsfs_dag.specs.Listing.Views.{listed}
use Rattle.fsfs_draft.specs.Drafts.{Kept}
use Rattle.fsfs_draft.specs.Views.{kept_value}
use Rattle.fsfs_txn.proofs.Following.{same_some}
use Rattle.fsfs_revision.proofs.DamageLemmas.{no_both}
use Rattle.fsfs_base.proofs.ResultLemmas.{not_none}
use Rattle.fsfs_txn.proofs.opened.opening.source_above.Goals as goal

pub returns-then-is_revision_id-clause-own : goal.returns-then-is_revision_id-clause-own
returns-then-is_revision_id-clause-own g c = λ k own there none. no_both _ (sym c.is_revision_id.ensures ∙ c.if-is_revision_id.true) own

pub returns-in-None-clause-lasting : goal.returns-in-None-clause-lasting
returns-in-None-clause-lasting g c = λ lasts. no_both _ lasts (sym c.is_revision_id.ensures ∙ c.if-is_revision_id.false)

pub returns-in-None-clause-own : goal.returns-in-None-clause-own
returns-in-None-clause-own g c = λ k own there none. not_none _ k there (sym c.in-None.ensures)

pub returns-in-Some-entries-clause-lasting : goal.returns-in-Some-entries-clause-lasting
returns-in-Some-entries-clause-lasting g c = λ lasts. no_both _ lasts (sym c.is_revision_id.ensures ∙ c.if-is_revision_id.false)

pub returns-in-Some-entries-clause-own : goal.returns-in-Some-entries-clause-own
returns-in-Some-entries-clause-own g c = λ k own there none.
    let same = same_some (kept_value c.in-Some.kept.now) k (c.in-Some.ensures ∙ there) in
    not_none _ _ (sym (ap (λ (x : Kept). x.entries) same) ∙ ap (λ (o : Option Listing). option_map listed o) c.in-Some-entries.is) none

pub returns-in-None-entries-clause-lasting : goal.returns-in-None-entries-clause-lasting
returns-in-None-entries-clause-lasting g c = λ lasts. no_both _ lasts (sym c.is_revision_id.ensures ∙ c.if-is_revision_id.false)

pub returns-in-None-entries-clause-own : goal.returns-in-None-entries-clause-own
returns-in-None-entries-clause-own g c = λ k own there none. ap (λ (x : Kept). x.node.predecessor) (same_some (kept_value c.in-Some.kept.now) k (c.in-Some.ensures ∙ there))
