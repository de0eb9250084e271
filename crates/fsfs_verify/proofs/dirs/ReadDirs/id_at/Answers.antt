use Rattle.std.proofs.Common.{◌≡◌, ◌++◌, ◌∷◌, [], sym, ap, subst, ◌∙◌}
use Rattle.std.specs.Prelude.{Err}
use Rattle.fsfs_base.specs.Paths.{Path}
use Rattle.fsfs_revision.specs.Shows.Reading.{MetAt}
use Rattle.fsfs_history.proofs.DirLemmas.{parted}
use Rattle.fsfs_verify.specs.Finds.{Finds}
use Rattle.fsfs_verify.specs.ReadDirs.{AreDirs, IsNamedAt}
use Rattle.fsfs_verify.proofs.ReadDirLemmas.{root_named}
use Rattle.fsfs_verify.proofs.dirs.ReadDirs.id_at.Goals as goal

pub returns-in-None-clause-told : goal.returns-in-None-clause-told
returns-in-None-clause-told g c = λ look rev knows are.
    let none = rw c.in-None.is at c.in_ok-parent.ensures in
    (root_named look rev c.args.self.now c.args.path.now are none, are)

pub returns-in-Some-clause-told : goal.returns-in-Some-clause-told
returns-in-Some-clause-told g c = λ look rev knows are.
    let parent = rw c.in-Some.is at c.in_ok-parent.ensures in
    let path = parted c.args.path.now c.in-Some.above c.last_name-name.result.now parent.0 parent.1 c.last_name-name.ensures in
    subst (λ (q : Path). Finds (λ id. IsNamedAt look rev q id × AreDirs look rev c.id_below.new.self) (λ w. MetAt look rev q (Err w)) c.id_below.result) (sym path) (c.id_below.ensures.told look rev knows are)
