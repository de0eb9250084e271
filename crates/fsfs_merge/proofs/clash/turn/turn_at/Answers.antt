use Rattle.std.proofs.Common.{sym, subst}
use Rattle.std.specs.Prelude.{Result, IfOk, IfErr}
use Rattle.fsfs_revision.specs.declared.wrong.ReadError.{ReadError}
use Rattle.fsfs_revision.specs.Damage.Causes.{HasCause}
use Rattle.fsfs_merge.specs.declared.clash.turn.Turn.{Turn}
use Rattle.fsfs_merge.specs.Clash.Dirs.{dirs_in}
use Rattle.fsfs_merge.specs.Clash.Readings.{LookAt}
use Rattle.fsfs_merge.specs.Clash.Turning.{IsFailure, IsTurn, IsTurnIn}
use Rattle.fsfs_merge.proofs.ReadingLemmas.{turns_from, failure_turned, cause_turned, turn_in}
use Rattle.fsfs_merge.proofs.clash.turn.turn_at.Goals as goal

pub returns-clause-told : goal.returns-clause-told
returns-clause-told g c = λ look top knows within.
    let R = LookAt look (g.N.Own.folder c.args.own.now) c.args.rev (dirs_in c.args.three.now) in
    subst (λ (r : Result Turn ReadError). IfOk r (IsTurn R)) (sym c.turned.ensures) (turns_from R c.look_at-read.result (c.look_at-read.ensures.told look top knows within))

pub returns-clause-failure : goal.returns-clause-failure
returns-clause-failure g c = subst (λ (r : Result Turn ReadError). IfErr r IsFailure) (sym c.turned.ensures) (failure_turned c.look_at-read.result)

pub returns-clause-base : goal.returns-clause-base
returns-clause-base g c = subst (λ (r : Result Turn ReadError). IfOk r (IsTurnIn c.args.three.now.base)) (sym c.turned.ensures) (turn_in c.args.three.now.base c.look_at-read.result c.look_at-read.ensures.base)

pub returns-clause-cause : goal.returns-clause-cause
returns-clause-cause g c =
    subst (λ (r : Result Turn ReadError). HasCause (g.B.Book.faults c.args.book.now) (g.B.Book.faults c.look_at-read.new.book) r) (sym c.turned.ensures) (cause_turned _ _ c.look_at-read.result c.look_at-read.ensures.cause)
