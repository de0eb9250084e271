use Rattle.std.proofs.Common.{◌≡◌, ℕ, List, Ok, Err}
use Rattle.std.proofs.lemmas.Result.{err_from_is_err_and}
use Rattle.std.specs.declared.vec.Vec.{Vec}
use Rattle.std.specs.declared.alloc.Global.{Global}
use Rattle.fsfs_revision.proofs.Answering.{stops, goes_on}
use Rattle.fsfs_tree.specs.ChangedTexts.{replaced_lines}
use Rattle.fsfs_stands.specs.ChangedTexts.{TakenKind}
use Rattle.fsfs_history.specs.Views.{by_text_value}
use Rattle.fsfs_history.proofs.KindLemmas.{same}
use Rattle.fsfs_history.proofs.lines.replace_lines.Goals as goal

abbrev items : Vec ℕ Global → List ℕ
items v = v.items

pub returns-in_err-taken-clause-told : goal.returns-in_err-taken-clause-told
returns-in_err-taken-clause-told g c = λ look knows kept.
    let p = err_from_is_err_and c.from_residual.result c.from_residual.ensures.1 in
    rw (p.1, p.2) (stops same items c.in_err-taken.field-0.0 (TakenKind look c.args.rev (by_text_value c.args.items.now) c.args.path.now c.args.kind) (λ taken r. r ≡ Ok (replaced_lines c.args.path.now taken c.args.kind)) (c.in_err-taken.ensures.told look knows kept))

pub returns-clause-told : goal.returns-clause-told
returns-clause-told g c = λ look knows kept.
    goes_on items c.read.result (TakenKind look c.args.rev (by_text_value c.args.items.now) c.args.path.now c.args.kind) (λ taken r. r ≡ Ok (replaced_lines c.args.path.now taken c.args.kind)) c.in_ok-taken.taken (c.in_ok-taken.ensures.told look knows kept)
    (c.read.ensures.put (replaced_lines c.args.path.now c.in_ok-taken.taken c.args.kind) c.replaced.ensures)
