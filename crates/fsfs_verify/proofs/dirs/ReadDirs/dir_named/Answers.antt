use Rattle.std.proofs.Common.{◌≡◌, ◌≤◌, ◌++◌, ◌∷◌, [], sym, ap, ◌∙◌, arith}
use Rattle.std.specs.Prelude.{Some, None, option_map, Err}
use Rattle.std.proofs.lemmas.Result.{err_from_is_err_and}
use Rattle.fsfs_revision.specs.Shows.Reading.{OfEntry, MetAt, offset_of}
use Rattle.fsfs_base.specs.Paths.{PathName}
use Rattle.fsfs_revision.proofs.TreeLaw.{stands_home}
use Rattle.fsfs_dag.specs.declared.node.PlacedNode.{PlacedNode}
use Rattle.fsfs_dag.specs.Views.{entry_value}
use Rattle.fsfs_look.proofs.BelowHome.{entry_within}
use Rattle.fsfs_verify.proofs.Findings.{wrong_as}
use Rattle.fsfs_verify.proofs.ReadDirLemmas.{none_there, file_there, stands_named, met_named, list_stands}
use Rattle.fsfs_verify.proofs.dirs.ReadDirs.dir_named.Goals as goal

pub returns-in-None-clause-told : goal.returns-in-None-clause-told
returns-in-None-clause-told g c = λ look rev knows are some v at kind. none_there look rev c.args.self.now c.args.dir.now c.args.name.now are some (rw c.in-None.is at c.named.ensures) v at

pub returns-in-File-clause-told : goal.returns-in-File-clause-told
returns-in-File-clause-told g c = λ look rev knows are some v at kind.
    file_there look rev c.args.self.now c.args.dir.now c.args.name.now are some (entry_value c.in-Some.entry.now) (rw c.in-Some.is at c.named.ensures) c.in-File.is v at kind

pub returns-in_err-child-in-Dir-clause-told : goal.returns-in_err-child-in-Dir-clause-told
returns-in_err-child-in-Dir-clause-told g c = λ look rev knows are some.
    let p = err_from_is_err_and c.from_residual.result c.from_residual.ensures.1 in
    let entry = entry_value c.in-Some.entry.now in
    let is = rw c.in-Some.is at c.named.ensures in
    let s = list_stands look rev c.args.self.now c.args.dir.now c.args.name.now are some entry is in
    let home = (stands_home look rev c.args.dir.now s.0 s.1).1 in
    let within = entry_within look s.0 c.args.name.now s.3 entry s.4 s.5 in
    rw (p.1, p.2) (wrong_as (λ (found : PlacedNode). found.node) (OfEntry look entry) (λ w. (other : PathName) → MetAt look rev ((c.args.dir.now ++ c.args.name.now ∷ []) ++ other ∷ []) (Err w)) c.in_err-child-in-Dir.field-0.0 (λ w wrong. met_named look rev c.args.self.now c.args.dir.now c.args.name.now are some entry is w wrong)
    (c.in_err-child-in-Dir.ensures.told look (λ r lower. knows r (omega (arith, lower, within, home)))))

pub returns-in_ok-child-in-Dir-clause-told : goal.returns-in_ok-child-in-Dir-clause-told
returns-in_ok-child-in-Dir-clause-told g c = λ look rev knows are some.
    let entry = entry_value c.in-Some.entry.now in
    let is = rw c.in-Some.is at c.named.ensures in
    let s = list_stands look rev c.args.self.now c.args.dir.now c.args.name.now are some entry is in
    let home = (stands_home look rev c.args.dir.now s.0 s.1).1 in
    let within = entry_within look s.0 c.args.name.now s.3 entry s.4 s.5 in
    stands_named look rev c.args.self.now c.args.dir.now c.args.name.now are some entry is c.in_ok-child-in-Dir.child.node (c.in_ok-child-in-Dir.ensures.told look (λ r lower. knows r (omega (arith, lower, within, home))))
