use Rattle.std.proofs.Common.{◌≡◌, ◌++◌, List, [], ◌∷◌, refl, sym, inl, inr}
use Rattle.std.specs.Prelude.{None}
use Rattle.fsfs_noderev.specs.declared.node_id.Part.{Part}
use Rattle.fsfs_revision.specs.declared.damage.DamageKind.TheVariants as what
use Rattle.fsfs_revision.specs.Damage.Damages.{damaged}
use Rattle.fsfs_revision.proofs.Earlier.{no_pred}
use Rattle.fsfs_dag.specs.Views.{home_of}
use Rattle.fsfs_verify.specs.Brought.{Brought, MayBegin}
use Rattle.fsfs_verify.specs.Steps.{Begins, IsWrongBeginning}
use Rattle.fsfs_verify.proofs.Findings.{finds_as}
use Rattle.fsfs_verify.proofs.nodes.begin.Goals as goal

pub returns-in-None-clause-told : goal.returns-in-None-clause-told
returns-in-None-clause-told c = λ look begun copied drawn lasting precedes held.
    let v = c.args.node.now.node in
    let none = rw c.in-None.is at precedes in
    finds_as (λ x. Brought c.args.rev c.begin_node.new.self (begun ++ v.id.node ∷ []) copied drawn × MayBegin c.args.rev begun v.id.node)
    (λ x. (now : List Part) × Begins c.args.rev v begun now × Brought c.args.rev c.begin_node.new.self now copied drawn)
    (λ w. (MayBegin c.args.rev begun v.id.node → ⊥) × (w ≡ damaged (home_of v) what.CopyId)) (IsWrongBeginning c.args.rev begun v)
    (λ x h. (begun ++ v.id.node ∷ [], inl (none, h.1, refl), h.0)) (λ w h. (none, h.0, h.1)) c.begin_node.result (c.begin_node.ensures.told begun copied drawn lasting.0 held)

pub returns-in-Some-clause-told : goal.returns-in-Some-clause-told
returns-in-Some-clause-told c = λ look begun copied drawn lasting precedes held.
    let pred = rw c.in-Some.is at precedes in
    (begun, inr ((λ none. no_pred look c.args.node.now.node _ pred.0 none), refl), held)
