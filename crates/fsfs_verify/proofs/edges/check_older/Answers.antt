use Rattle.std.proofs.Common.{refl, inl, inr}
use Rattle.std.specs.Prelude.{option_map}
use Rattle.std.specs.Borrow.{Bor}
use Rattle.std.proofs.lemmas.Result.{err_from_is_err_and}
use Rattle.fsfs_revision.specs.Shows.Reading.{OfEntry}
use Rattle.fsfs_dag.specs.declared.directory.DirEntry.{DirEntry}
use Rattle.fsfs_dag.specs.declared.node.PlacedNode.{PlacedNode}
use Rattle.fsfs_dag.specs.Views.{entry_value}
use Rattle.fsfs_verify.specs.Edges.{IsWrongOlder}
use Rattle.fsfs_verify.proofs.Findings.{wrong_as}
use Rattle.fsfs_verify.proofs.edges.check_older.Goals as goal

pub returns-in_err-child-clause-told : goal.returns-in_err-child-clause-told
returns-in_err-child-clause-told g c = λ look knows.
    let p = err_from_is_err_and c.from_residual.result c.from_residual.ensures.1 in
    let entry = entry_value c.args.entry.now in
    let before = option_map (λ (e : Bor DirEntry). entry_value e.now) c.args.before in
    rw (p.1, p.2) (wrong_as (λ (found : PlacedNode). found.node) (OfEntry look entry) (IsWrongOlder look entry before) c.in_err-child.field-0.0 (λ w h. inl h) (c.in_err-child.ensures.told look knows))

pub returns-clause-told : goal.returns-clause-told
returns-clause-told g c = λ look knows.
    rw c.breaks_rule.ensures (inr (c.in_ok-child.child.node, c.in_ok-child.ensures.told look knows, c.was_named.ensures.other c.if-was_named.false, refl))
