use Rattle.std.proofs.Common.{◌≡◌, ◌≢◌, not, true, false, sym, ap, ◌∙◌}
use Rattle.std.specs.Prelude.{Option, None, is_some}
use Rattle.fsfs_base.proofs.ResultLemmas.{none_of}
use Rattle.fsfs_noderev.specs.NodeRevs.{NoId, NoKind, NoPath}
use Rattle.fsfs_noderev.proofs.fields.Fields.lacks.Goals as goal

not_none : {A : Type 0} (o : Option A) → is_some o ≡ true → o ≢ None
not_none o there e = let h : true ≡ false = sym there ∙ ap is_some e in absurd cc

pub returns-then-is_none : goal.returns-then-is_none
returns-then-is_none c = NoId (none_of c.args.self.now.id (c.is_none.ensures ∙ ap not c.if-is_none.true))

pub returns-then-is_none-2 : goal.returns-then-is_none-2
returns-then-is_none-2 c = NoKind (not_none c.args.self.now.id (c.is_none.ensures ∙ ap not c.if-is_none.false)) (none_of c.args.self.now.kind (c.is_none-else-is_none.ensures ∙ ap not c.if-is_none-2.true))

pub returns-then-is_none-3 : goal.returns-then-is_none-3
returns-then-is_none-3 c =
    NoPath (not_none c.args.self.now.id (c.is_none.ensures ∙ ap not c.if-is_none.false)) (not_none c.args.self.now.kind (c.is_none-else-is_none.ensures ∙ ap not c.if-is_none-2.false))
    (none_of c.args.self.now.created_path (c.is_none-else-is_none-2.ensures ∙ ap not c.if-is_none-3.true))
