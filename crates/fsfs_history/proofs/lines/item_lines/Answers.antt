use Rattle.std.proofs.Common.{ℕ, List, Ok, Err}
use Rattle.std.proofs.lemmas.Result.{err_from_is_err_and}
use Rattle.std.specs.declared.vec.Vec.{Vec}
use Rattle.std.specs.declared.alloc.Global.{Global}
use Rattle.fsfs_revision.proofs.Answering.{stops, goes_on}
use Rattle.fsfs_dag.proofs.Steps.{knows_later}
use Rattle.fsfs_stands.specs.ChangedTexts.{KindOf, ActionLines}
use Rattle.fsfs_history.specs.Views.{by_text_value}
use Rattle.fsfs_history.proofs.KindLemmas.{same}
use Rattle.fsfs_history.proofs.lines.item_lines.Goals as goal

abbrev items : Vec ℕ Global → List ℕ
items v = v.items

pub returns-in_err-kind-clause-told : goal.returns-in_err-kind-clause-told
returns-in_err-kind-clause-told g c = λ look knows kept.
    let p = err_from_is_err_and c.from_residual.result c.from_residual.ensures.1 in
    let item = c.args.item.now in
    rw (p.1, p.2) (stops same items c.in_err-kind.field-0.0 (KindOf look c.args.rev item item.kind) (ActionLines look c.args.rev (by_text_value c.args.items.now) item item.action) (c.in_err-kind.ensures.told look knows))

pub returns-clause-told : goal.returns-clause-told
returns-clause-told g c = λ look knows kept.
    let item = c.args.item.now in
    goes_on items c.action_lines.result (KindOf look c.args.rev item item.kind) (ActionLines look c.args.rev (by_text_value c.args.items.now) item item.action) c.in_ok-kind.kind (c.in_ok-kind.ensures.told look knows)
    (c.action_lines.ensures.told look (knows_later _ _ look c.args.rev c.in_ok-kind.ensures.kept knows) kept)

pub returns-clause-dir : goal.returns-clause-dir
returns-clause-dir g c = λ look knows kept. c.action_lines.ensures.dir look (knows_later _ _ look c.args.rev c.in_ok-kind.ensures.kept knows) kept
