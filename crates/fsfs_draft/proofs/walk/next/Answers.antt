use Rattle.std.proofs.Common.{◌≡◌, sym, subst, ◌∙◌}
use Rattle.fsfs_base.specs.declared.kind.Kind.TheVariants.{File, Dir}
use Rattle.fsfs_draft.specs.Walks.{IsAt}
use Rattle.fsfs_draft.specs.declared.walk.Step.{Step}
use Rattle.fsfs_draft.proofs.Walking.{own_kind, lasting_kind}
use Rattle.fsfs_draft.proofs.walk.next.Goals as goal

pub returns-in-Own-clause-draft : goal.returns-in-Own-clause-draft
returns-in-Own-clause-draft g c = λ look trees top base nodes path knows shown le draft at has.
    let here = subst (λ (s : Step). IsAt look trees base nodes path s) c.in-Own.is at in
    c.own_child.ensures.draft look trees top base nodes path here.0 knows shown le draft here.1 here.2
    (own_kind look top base trees shown le (g.N.Own.txn c.args.own.now) (g.N.Own.folder c.args.own.now) nodes draft path here.0 here.1 has)

pub returns-in-File-clause-draft : goal.returns-in-File-clause-draft
returns-in-File-clause-draft g c = λ look trees top base nodes path knows shown le draft at has.
    let here = subst (λ (s : Step). IsAt look trees base nodes path s) c.in-Lasting.is at in
    let kind = lasting_kind look top base trees shown le (g.N.Own.txn c.args.own.now) (g.N.Own.folder c.args.own.now) nodes draft path c.in-Lasting.found.node here Dir has in
    let e : File ≡ Dir = sym c.in-File.is ∙ kind in
    cc

pub returns-in-Dir-clause-draft : goal.returns-in-Dir-clause-draft
returns-in-Dir-clause-draft g c = λ look trees top base nodes path knows shown le draft at has.
    let here = subst (λ (s : Step). IsAt look trees base nodes path s) c.in-Lasting.is at in
    c.lasting_below.ensures.draft look trees top base (g.N.Own.txn c.args.own.now) (g.N.Own.folder c.args.own.now) nodes path knows shown le draft here

pub returns-in-Dir-clause-bench : goal.returns-in-Dir-clause-bench
returns-in-Dir-clause-bench g c = c.lasting_below.ensures.quiet (g.N.Own.faults c.args.own.now)
