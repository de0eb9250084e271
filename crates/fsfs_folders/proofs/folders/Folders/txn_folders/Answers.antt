use Rattle.std.proofs.Common.{◌≡◌, rules, refl, sym, ap, subst, ◌∙◌}
use Rattle.std.specs.Prelude.{IfSome, codes}
use Rattle.fsfs_folders.specs.System.CallRecord.{names_now, IsEmptyAt}
use Rattle.fsfs_folders.proofs.PutLemmas.{if_given}
use Rattle.fsfs_folders.proofs.TxnEntries.{bare_list}
use Rattle.fsfs_folders.proofs.folders.Folders.txn_folders.Goals as goal

pub returns-in_ok-folders_in-in-Err-NotFound-clause-names : goal.returns-in_ok-folders_in-in-Err-NotFound-clause-names
returns-in_ok-folders_in-in-Err-NotFound-clause-names g c =
    let old = g.C.Calls.history c.args.self.now.calls in
    bare_list old c.new-in-Err-NotFound-2.result.items (subst (λ p. IfSome old (λ r. IsEmptyAt (names_now r) p)) c.new.ensures (if_given _ _ old c.in-Err-NotFound.ensures.bare (search rules))) (search rules)
