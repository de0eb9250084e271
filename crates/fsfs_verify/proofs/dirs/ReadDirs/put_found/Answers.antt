use Rattle.std.proofs.Common.{◌≡◌, ◌≤◌, ◌++◌, ◌∷◌, [], arith}
use Rattle.std.specs.Prelude.{Err}
use Rattle.std.proofs.lemmas.Result.{err_from_is_err_and}
use Rattle.fsfs_base.specs.Paths.{PathName}
use Rattle.fsfs_revision.specs.Shows.Reading.{EntriesOf, MetAt}
use Rattle.fsfs_revision.proofs.TreeLaw.{stands_home}
use Rattle.fsfs_verify.proofs.Findings.{wrong_from}
use Rattle.fsfs_verify.proofs.ReadDirLemmas.{no_dir, reached_put, met_in}
use Rattle.fsfs_verify.proofs.dirs.ReadDirs.put_found.Goals as goal

pub returns-in-File-clause-told : goal.returns-in-File-clause-told
returns-in-File-clause-told g c = λ look rev knows dirs at. (dirs, no_dir look rev c.args.path c.args.found.now.node at c.in-File.is)

pub returns-in_err-put-in-Dir-clause-told : goal.returns-in_err-put-in-Dir-clause-told
returns-in_err-put-in-Dir-clause-told g c = λ look rev knows dirs at.
    let p = err_from_is_err_and c.from_residual.result c.from_residual.ensures.1 in
    let v = c.args.found.now.node in
    let home = (stands_home look rev c.args.path v at).1 in
    rw (p.1, p.2) (wrong_from (λ w. EntriesOf look v (Err w)) (λ w. (name : PathName) → MetAt look rev (c.args.path ++ name ∷ []) (Err w)) c.in_err-put-in-Dir.field-0.0 (λ w wrong. met_in look rev c.args.path v at c.in-Dir.is w wrong) (c.in_err-put-in-Dir.ensures.told look rev knows home))

pub returns-in_ok-put-in-Dir-clause-told : goal.returns-in_ok-put-in-Dir-clause-told
returns-in_ok-put-in-Dir-clause-told g c = λ look rev knows dirs at.
    let v = c.args.found.now.node in
    let home = (stands_home look rev c.args.path v at).1 in
    reached_put look rev c.args.path v at c.in-Dir.is c.args.self.now c.put.new.self (c.in_ok-put-in-Dir.ensures.told look rev knows home) dirs
