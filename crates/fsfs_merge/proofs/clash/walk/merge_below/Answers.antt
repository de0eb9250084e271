use Rattle.std.proofs.Common.{sym, subst}
use Rattle.std.specs.Prelude.{Result}
use Rattle.std.proofs.lemmas.Result.{err_from_is_err_and}
use Rattle.fsfs_revision.specs.declared.wrong.ReadError.{ReadError}
use Rattle.fsfs_revision.specs.Damage.Readings.{Answers}
use Rattle.fsfs_merge.specs.declared.clash.walk.Merge.{Merge}
use Rattle.fsfs_merge.specs.Clash.Merges.{MergeFrom}
use Rattle.fsfs_merge.proofs.Stepping.{this, answers_walk, answers_fail}
use Rattle.fsfs_merge.proofs.clash.walk.merge_below.Goals as goal

pub returns-in_err-walk-clause-told : goal.returns-in_err-walk-clause-told
returns-in_err-walk-clause-told g c = λ look top see knows from.
    let r = err_from_is_err_and c.from_residual.result c.from_residual.ensures.1 in
    rw (r.1, r.2) (answers_fail see c.in_err-walk.field-0.0 c.in_err-walk.ensures.failure)

pub returns-clause-told : goal.returns-clause-told
returns-clause-told g c = λ look top see knows from.
    subst (λ (r : Result Merge ReadError). Answers this (MergeFrom see) r) (sym c.answered.ensures) (answers_walk see c.in_ok-walk.walk (c.in_ok-walk.ensures.told look top see knows from))
