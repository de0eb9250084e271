use Rattle.std.proofs.Common.{refl}
use Rattle.std.proofs.lemmas.Result.{err_from_is_err_and}
use Rattle.fsfs_stands.specs.FileTexts.{IsWholeText}
use Rattle.fsfs_stands.specs.Texts.{Whole}
use Rattle.fsfs_dump.specs.Records.{delete_record}
use Rattle.fsfs_dump.proofs.WalkLemmas.{walks_put, walks_starved}
use Rattle.fsfs_dump.proofs.item.put_gone.Goals as goal

pub returns-in_err-put_delete-clause-told : goal.returns-in_err-put_delete-clause-told
returns-in_err-put_delete-clause-told c = λ told.
    let e = err_from_is_err_and c.from_residual.result c.from_residual.ensures.1 in
    let rec = delete_record c.args.item.now.path in
    rw (e.1, e.2) (walks_starved (IsWholeText rec) c.args.lines.now.items c.put_delete.new.lines.items rec Whole told (refl, refl))

pub returns-clause-told : goal.returns-clause-told
returns-clause-told c = λ told. walks_put (delete_record c.args.item.now.path) c.args.lines.now.items c.put_delete.new.lines.items told tt c.in_ok-put_delete.ensures
