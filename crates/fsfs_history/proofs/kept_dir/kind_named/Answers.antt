use Rattle.std.proofs.Common.{◌≡◌, ◌≤◌, ◌++◌, ◌∷◌, [], Some, sym, ◌∙◌, arith}
use Rattle.fsfs_revision.proofs.Answering.{answers_as}
use Rattle.fsfs_look.proofs.BelowHome.{stands_within, entry_within}
use Rattle.fsfs_revision.specs.Shows.Reading.{named, offset_of}
use Rattle.fsfs_dag.specs.Views.{entry_value}
use Rattle.fsfs_stands.specs.ChangedTexts.{KindAt}
use Rattle.fsfs_history.specs.KeptDirs.{EntryKind}
use Rattle.fsfs_history.proofs.DirLemmas.{none_named, kind_of_named}
use Rattle.fsfs_history.proofs.KindLemmas.{same}
use Rattle.fsfs_history.proofs.kept_dir.kind_named.Goals as goal

pub returns-in-None-clause-told : goal.returns-in-None-clause-told
returns-in-None-clause-told g c = λ look knows d.
    let dir = c.args.dir.now in
    let none = rw c.in-None.is at c.get.ensures in
    none_named look dir.rev dir.path c.args.name.now c.args.absent d.0 d.1 d.2 d.3 d.4 (sym (d.5 c.args.name.now) ∙ sym none)

pub returns-in-Some-clause-told : goal.returns-in-Some-clause-told
returns-in-Some-clause-told g c = λ look knows d.
    let dir = c.args.dir.now in
    let name = c.args.name.now in
    let x = entry_value c.in-Some.entry.now in
    let found = rw c.in-Some.is at c.get.ensures in
    let one : named name d.3 ≡ Some x = sym (d.5 name) ∙ sym found in
    let within : (offset_of x.id.place).rev ≤ dir.rev = omega (arith, entry_within look d.0 name d.3 x d.4 one, stands_within look dir.rev dir.path d.0 d.1) in
    answers_as same c.entry_kind.result (EntryKind look x) (KindAt look dir.rev (dir.path ++ name ∷ []) c.args.absent) (kind_of_named look dir.rev dir.path name c.args.absent d.0 d.1 d.2 d.3 d.4 x one)
    (c.entry_kind.ensures.told look (λ r lower. knows r (omega (arith, lower, within))))
