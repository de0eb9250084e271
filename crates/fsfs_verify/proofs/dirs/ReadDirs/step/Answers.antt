use Rattle.std.proofs.Common.{◌≡◌, ◌++◌, ◌∷◌, [], sym, ap, subst, ◌∙◌}
use Rattle.std.specs.Prelude.{Err, Bool, Result}
use Rattle.std.proofs.lemmas.Result.{err_from_is_err_and}
use Rattle.fsfs_base.specs.Paths.{PathName, Path}
use Rattle.fsfs_noderev.specs.declared.node_rev.NodeRev.{NodeRev}
use Rattle.fsfs_revision.specs.Shows.Reading.{MetAt, StandsAt}
use Rattle.fsfs_revision.specs.declared.wrong.ReadError.{ReadError}
use Rattle.fsfs_revision.proofs.Keeping.{keeps_trans}
use Rattle.fsfs_dag.proofs.Steps.{knows_later}
use Rattle.fsfs_verify.specs.Finds.{Finds}
use Rattle.fsfs_verify.specs.ReadDirs.{IsReached}
use Rattle.fsfs_verify.proofs.Findings.{wrong_from}
use Rattle.fsfs_verify.proofs.dirs.ReadDirs.step.Goals as goal

pub returns-then-contains_key-clause-told : goal.returns-then-contains_key-clause-told
returns-then-contains_key-clause-told g c = λ look rev knows are some. (are, sym c.contains_key.ensures ∙ c.if-contains_key.true)

pub returns-in_err-dir_named-clause-told : goal.returns-in_err-dir_named-clause-told
returns-in_err-dir_named-clause-told g c = λ look rev knows are some.
    let p = err_from_is_err_and c.from_residual.result c.from_residual.ensures.1 in
    let below = c.args.dir.now ++ c.args.name.now ∷ [] in
    rw (p.1, p.2) (wrong_from (λ w. (other : PathName) → MetAt look rev (below ++ other ∷ []) (Err w)) (λ w. (other : PathName) → MetAt look rev (c.args.path.now ++ other ∷ []) (Err w)) c.in_err-dir_named.field-0.0
    (λ w met other. subst (λ (q : Path). MetAt look rev (q ++ other ∷ []) (Err w)) (sym c.requires) (met other)) (c.in_err-dir_named.ensures.told look rev knows are some))

pub returns-in-None-clause-told : goal.returns-in-None-clause-told
returns-in-None-clause-told g c = λ look rev knows are some.
    let none = rw c.in-None.is at (c.in_ok-dir_named.ensures.told look rev knows are some) in
    (are, λ v at kind. none v (subst (λ (q : Path). StandsAt look rev q v) c.requires at) kind)

pub returns-in_ok-path-in-Some-clause-told : goal.returns-in_ok-path-in-Some-clause-told
returns-in_ok-path-in-Some-clause-told g c = λ look rev knows are some.
    let there = rw c.in-Some.is at (c.in_ok-dir_named.ensures.told look rev knows are some) in
    let same : c.in_ok-path-in-Some.path ≡ c.args.path.now = c.in_ok-path-in-Some.ensures.cases in
    let at = subst (λ (q : Path). StandsAt look rev q c.in-Some.found.node) (sym c.requires ∙ sym same) there in
    subst (λ (q : Path). Finds (λ read. IsReached look rev q c.put_found.new.self read) (λ w. (other : PathName) → MetAt look rev (q ++ other ∷ []) (Err w)) c.put_found.result) same
    (c.put_found.ensures.told look rev (knows_later _ _ look rev c.in_ok-dir_named.ensures.kept knows) are at)

pub returns-in_ok-path-in-Some-clause-kept : goal.returns-in_ok-path-in-Some-clause-kept
returns-in_ok-path-in-Some-clause-kept g c = keeps_trans _ _ _ c.in_ok-dir_named.ensures.kept c.put_found.ensures.kept
