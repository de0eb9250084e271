use Rattle.std.proofs.Common.{ℕ, List, sym, subst}
use Rattle.std.specs.Prelude.{codes}
use Rattle.std.specs.declared.vec.Vec.{Vec}
use Rattle.std.specs.declared.alloc.Global.{Global}
use Rattle.fsfs_base.specs.declared.action.Action.{Action}
use Rattle.fsfs_revision.specs.Damage.Readings.{Answers}
use Rattle.fsfs_tree.specs.ChangedTexts.{changed_line, modified_line}
use Rattle.fsfs_stands.specs.ChangedTexts.{ActionLines}
use Rattle.fsfs_history.specs.Views.{by_text_value}
use Rattle.fsfs_history.proofs.lines.action_lines.Goals as goal

abbrev items : Vec ℕ Global → List ℕ
items v = v.items

pub returns-in-Replace-clause-told : goal.returns-in-Replace-clause-told
returns-in-Replace-clause-told g c = λ look knows kept.
    subst (λ (a : Action). Answers items (ActionLines look c.args.rev (by_text_value c.args.items.now) c.args.item.now a c.args.kind) c.replace_lines.result) (sym c.in-Replace.is) (c.replace_lines.ensures.told look knows kept)

pub returns-in-Add-clause-told : goal.returns-in-Add-clause-told
returns-in-Add-clause-told g c = λ look knows kept.
    let item = c.args.item.now in
    subst (λ (a : Action). Answers items (ActionLines look c.args.rev (by_text_value c.args.items.now) item a c.args.kind) c.read.result) (sym c.in-Add.is) (c.read.ensures.put (changed_line (codes "A ") item.path c.args.kind) c.line.ensures)

pub returns-in-Delete-clause-told : goal.returns-in-Delete-clause-told
returns-in-Delete-clause-told g c = λ look knows kept.
    let item = c.args.item.now in
    subst (λ (a : Action). Answers items (ActionLines look c.args.rev (by_text_value c.args.items.now) item a c.args.kind) c.read-in-Delete.result) (sym c.in-Delete.is) (c.read-in-Delete.ensures.put (changed_line (codes "D ") item.path c.args.kind) c.line-in-Delete.ensures)

pub returns-in-Modify-clause-told : goal.returns-in-Modify-clause-told
returns-in-Modify-clause-told g c = λ look knows kept.
    let item = c.args.item.now in
    subst (λ (a : Action). Answers items (ActionLines look c.args.rev (by_text_value c.args.items.now) item a c.args.kind) c.read-in-Modify.result) (sym c.in-Modify.is) (c.read-in-Modify.ensures.put (modified_line item.text_changed item.props_changed item.path c.args.kind) c.modified.ensures)
