use Rattle.std.proofs.Common.{◌∙◌, sym}
use Rattle.fsfs_draft.specs.Views.{kept_value}
use Rattle.fsfs_final.proofs.OrderLists.{differ}
use Rattle.fsfs_final.proofs.order.children.push_own.Goals as goal

pub returns-then-is_revision_id-clause-own : goal.returns-then-is_revision_id-clause-own
returns-then-is_revision_id-clause-own g c = λ mine. absurd (differ _ (sym c.is_revision_id.ensures ∙ c.if-is_revision_id.true) mine)

pub returns-clause-own : goal.returns-clause-own
returns-clause-own g c = λ mine. (kept_value c.in-Some.kept.now, sym c.in-Some.ensures, c.in_ok-push.ensures)
