use Rattle.std.proofs.Common.{◌≡◌, ◌≤◌, ℕ, List, [], refl, sym, ap, subst, ◌∙◌, arith}
use Rattle.std.specs.Map.{lookup}
use Rattle.std.specs.BTreeMap.{is_at}
use Rattle.std.proofs.lemmas.Result.{err_from_is_err_and}
use Rattle.fsfs_base.specs.Paths.{Path, path_cmp}
use Rattle.fsfs_revision.proofs.TreeLaw.{root_home}
use Rattle.fsfs_dag.specs.Views.{home_of}
use Rattle.fsfs_history.specs.declared.entries_by_name.EntriesByName.{EntriesByName}
use Rattle.fsfs_verify.specs.declared.dirs.ReadDirs.{ReadDirs}
use Rattle.fsfs_verify.specs.ReadDirs.{IsDirPut}
use Rattle.fsfs_verify.proofs.ReadDirLemmas.{dirs_of_root}
use Rattle.fsfs_verify.proofs.dirs.ReadDirs.of.Goals as goal

pub returns-in_err-put-clause-told : goal.returns-in_err-put-clause-told
returns-in_err-put-clause-told g c = λ look rev knows root.
    let p = err_from_is_err_and c.from_residual.result c.from_residual.ensures.1 in
    let v = c.args.root.now.node in
    let home = (root_home look rev v root).1 in
    rw (p.1, p.2) (c.in_err-put.ensures.told look rev knows (omega (arith, home)))

pub returns-clause-told : goal.returns-clause-told
returns-clause-told g c = λ look rev knows root.
    let v = c.args.root.now.node in
    let home = (root_home look rev v root).1 in
    let old : ReadDirs = record { root = v.id; dirs = c.new.result } in
    let put : IsDirPut look v [] old c.put.new.self = subst (λ (p : Path). IsDirPut look v p old c.put.new.self) c.root.ensures (c.in_ok-put.ensures.told look rev knows (omega (arith, home))) in
    dirs_of_root look rev v old c.put.new.self root c.requires refl (λ q. ap (λ (es : List (Path × EntriesByName)). lookup (is_at (path_cmp q)) es) c.new.ensures.empty) put
