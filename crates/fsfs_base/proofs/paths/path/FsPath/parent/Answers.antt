use Rattle.std.proofs.Common.{◌∙◌, ◌++◌, ◌∷◌, [], ap, sym, arith}
use Rattle.fsfs_base.specs.Paths.{Path}
use Rattle.fsfs_base.proofs.PathTextLemmas.{last_name}
use Rattle.fsfs_base.proofs.paths.path.FsPath.parent.Goals as goal

pub returns-in_ok-prefix-in-Some : goal.returns-in_ok-prefix-in-Some
returns-in_ok-prefix-in-Some c =
    let w = last_name c.args.self.now c.in-Some.above (omega (arith, c.depth.ensures, c.in-Some.ensures)) in
    (w.0, w.1 ∙ ap (λ (p : Path). p ++ w.0 ∷ []) (sym c.in_ok-prefix-in-Some.ensures))
