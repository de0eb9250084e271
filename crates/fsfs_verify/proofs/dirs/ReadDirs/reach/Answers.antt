use Rattle.std.proofs.Common.{◌≡◌, ◌++◌, ◌∷◌, ◌+◌, ℕ, [], take, drop, map, length, sym, ap, subst, ◌∙◌, arith}
use Rattle.std.specs.Prelude.{Err, IsSome}
use Rattle.std.specs.String.{string_bytes}
use Rattle.std.proofs.lemmas.Result.{err_from_is_err_and}
use Rattle.fsfs_base.specs.Paths.{PathName, Path}
use Rattle.fsfs_revision.specs.Shows.Reading.{MetAt}
use Rattle.fsfs_revision.proofs.Keeping.{keeps_refl, keeps_trans}
use Rattle.fsfs_dag.proofs.Steps.{knows_later}
use Rattle.fsfs_verify.specs.ReadDirs.{list_of}
use Rattle.fsfs_verify.proofs.BelowDirs.{prefix_rest, prefix_next, prefix_all, met_further}
use Rattle.fsfs_verify.proofs.Findings.{wrong_from}
use Rattle.fsfs_verify.proofs.ReadDirLemmas.{no_dir_below}
use Rattle.fsfs_verify.proofs.dirs.ReadDirs.reach.Goals as goal

pub returns-then-contains_key-clause-told : goal.returns-then-contains_key-clause-told
returns-then-contains_key-clause-told g c = λ look rev knows are. (are, sym c.contains_key.ensures ∙ c.if-contains_key.true)

pub loop-name-init : goal.loop-name-init
loop-name-init g c = record {
  kept = keeps_refl _;
  later = omega arith;
  above = c.root-above.ensures;
  told = λ look rev knows are. (are, subst (λ (p : Path). IsSome (list_of c.args.self.now p)) (sym c.root-above.ensures) are.top);
}

pub loop-name-preserved : goal.loop-name-preserved
loop-name-preserved g c =
    let inv = c.loop-name.invariant in
    let i = c.loop-name.name-index in
    let items = c.names-name-items.result.now in
    let here = c.in_ok-here.here in
    let so : here ≡ c.loop-name.above ++ string_bytes c.name-item.result ∷ [] = c.in_ok-here.ensures ∙ ap (λ (n : PathName). c.loop-name.above ++ n ∷ []) c.deref.ensures in
    record {
      kept = keeps_trans _ _ _ inv.kept c.in_ok-step.ensures.kept;
      later = omega (arith, inv.later, c.in_ok-step.ensures.cause.later);
      above = prefix_next string_bytes items i c.name-item.result c.loop-name.above here c.loop-name-test.true c.name-item.is inv.above so;
      told = λ look rev knows are. (
          let t = inv.told look rev knows are in
          rw c.if-not-branch.false at (c.in_ok-step.ensures.told look rev (knows_later _ _ look rev inv.kept knows) t.0 t.1));
    }

pub returns-in_err-step-clause-told : goal.returns-in_err-step-clause-told
returns-in_err-step-clause-told g c = λ look rev knows are.
    let p = err_from_is_err_and c.from_residual-in_err-step.result c.from_residual-in_err-step.ensures.1 in
    let inv = c.loop-name.invariant in
    let i = c.loop-name.name-index in
    let items = c.names-name-items.result.now in
    let here = c.in_ok-here.here in
    let so : here ≡ c.loop-name.above ++ string_bytes c.name-item.result ∷ [] = c.in_ok-here.ensures ∙ ap (λ (n : PathName). c.loop-name.above ++ n ∷ []) c.deref.ensures in
    let front = prefix_next string_bytes items i c.name-item.result c.loop-name.above here c.loop-name-test.true c.name-item.is inv.above so in
    let rest = map string_bytes (drop (i + 1) items) in
    let parts : c.args.path.now ≡ here ++ rest = sym c.names-name-items.ensures ∙ prefix_rest string_bytes items (i + 1) ∙ ap (λ (q : Path). q ++ rest) (sym front) in
    let t = inv.told look rev knows are in
    rw (p.1, p.2) (wrong_from (λ w. (other : PathName) → MetAt look rev (here ++ other ∷ []) (Err w)) (λ w. (other : PathName) → MetAt look rev (c.args.path.now ++ other ∷ []) (Err w)) c.in_err-step.field-0.0
    (λ w met other. subst (λ (q : Path). MetAt look rev (q ++ other ∷ []) (Err w)) (sym parts) (met_further look rev here rest w met other)) (c.in_err-step.ensures.told look rev (knows_later _ _ look rev inv.kept knows) t.0 t.1))

pub returns-in_err-step-clause-kept : goal.returns-in_err-step-clause-kept
returns-in_err-step-clause-kept g c = keeps_trans _ _ _ c.loop-name.invariant.kept c.in_err-step.ensures.kept

pub returns-then-not-branch-clause-told : goal.returns-then-not-branch-clause-told
returns-then-not-branch-clause-told g c = λ look rev knows are.
    let inv = c.loop-name.invariant in
    let i = c.loop-name.name-index in
    let items = c.names-name-items.result.now in
    let here = c.in_ok-here.here in
    let so : here ≡ c.loop-name.above ++ string_bytes c.name-item.result ∷ [] = c.in_ok-here.ensures ∙ ap (λ (n : PathName). c.loop-name.above ++ n ∷ []) c.deref.ensures in
    let front = prefix_next string_bytes items i c.name-item.result c.loop-name.above here c.loop-name-test.true c.name-item.is inv.above so in
    let rest = map string_bytes (drop (i + 1) items) in
    let parts : c.args.path.now ≡ here ++ rest = sym c.names-name-items.ensures ∙ prefix_rest string_bytes items (i + 1) ∙ ap (λ (q : Path). q ++ rest) (sym front) in
    let t = inv.told look rev knows are in
    let none = rw c.if-not-branch.true at (c.in_ok-step.ensures.told look rev (knows_later _ _ look rev inv.kept knows) t.0 t.1) in
    (none.0, no_dir_below look rev here rest c.args.path.now parts none.1)

pub returns-then-not-branch-clause-kept : goal.returns-then-not-branch-clause-kept
returns-then-not-branch-clause-kept g c = keeps_trans _ _ _ c.loop-name.invariant.kept c.in_ok-step.ensures.kept

pub returns-clause-told : goal.returns-clause-told
returns-clause-told g c = λ look rev knows are.
    let inv = c.loop-name.invariant in
    let t = inv.told look rev knows are in
    let all : c.loop-name.above ≡ c.args.path.now = prefix_all string_bytes c.names-name-items.result.now c.loop-name.name-index c.loop-name.above c.loop-name-test.false inv.above ∙ c.names-name-items.ensures in
    (t.0, subst (λ (q : Path). IsSome (list_of c.loop-name.self q)) all t.1)
