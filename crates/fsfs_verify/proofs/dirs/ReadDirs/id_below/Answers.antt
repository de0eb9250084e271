use Rattle.std.proofs.Common.{◌≡◌, ◌++◌, ◌∷◌, [], sym, ap, ◌∙◌}
use Rattle.std.specs.Prelude.{Err}
use Rattle.std.proofs.lemmas.Result.{err_from_is_err_and}
use Rattle.fsfs_base.specs.Paths.{PathName}
use Rattle.fsfs_revision.specs.Shows.Reading.{MetAt}
use Rattle.fsfs_dag.specs.Views.{entry_value}
use Rattle.fsfs_verify.proofs.Findings.{wrong_from}
use Rattle.fsfs_verify.proofs.ReadDirLemmas.{nothing_below, none_there, names_there}
use Rattle.fsfs_verify.proofs.dirs.ReadDirs.id_below.Goals as goal

pub returns-in_err-reach-clause-told : goal.returns-in_err-reach-clause-told
returns-in_err-reach-clause-told g c = λ look rev knows are.
    let p = err_from_is_err_and c.from_residual.result c.from_residual.ensures.1 in
    let above = c.args.above.now in
    let name = c.args.name.now in
    rw (p.1, p.2) (wrong_from (λ w. (other : PathName) → MetAt look rev (above ++ other ∷ []) (Err w)) (λ w. MetAt look rev (above ++ name ∷ []) (Err w)) c.in_err-reach.field-0.0 (λ w met. met name) (c.in_err-reach.ensures.told look rev knows are))

pub returns-then-not-branch-clause-told : goal.returns-then-not-branch-clause-told
returns-then-not-branch-clause-told g c = λ look rev knows are.
    let t = rw c.if-not-branch.true at (c.in_ok-reach.ensures.told look rev knows are) in
    (nothing_below look rev c.args.above.now c.args.name.now t.1, t.0)

pub returns-in-None-clause-told : goal.returns-in-None-clause-told
returns-in-None-clause-told g c = λ look rev knows are.
    let t = rw c.if-not-branch.false at (c.in_ok-reach.ensures.told look rev knows are) in
    (none_there look rev c.reach.new.self c.args.above.now c.args.name.now t.0 t.1 (rw c.in-None.is at c.named.ensures), t.0)

pub returns-in-Some-clause-told : goal.returns-in-Some-clause-told
returns-in-Some-clause-told g c = λ look rev knows are.
    let t = rw c.if-not-branch.false at (c.in_ok-reach.ensures.told look rev knows are) in
    (names_there look rev c.reach.new.self c.args.above.now c.args.name.now t.0 t.1 (entry_value c.in-Some.entry.now) (rw c.in-Some.is at c.named.ensures), t.0)
