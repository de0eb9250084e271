use Rattle.std.proofs.Common.{◌∙◌, ◌++◌, ◌∷◌, ap, sym, map, take, arith, rules, List, ℕ, Global}
use Rattle.std.proofs.Output.{has_written_append, has_written_of_eq}
use Rattle.std.specs.String.{string_bytes}
use Rattle.fsfs_base.specs.Paths.{names_text}
use Rattle.fsfs_base.proofs.PathTextLemmas.{text_more}
use Rattle.fsfs_base.proofs.paths.path_text.FsPathDisplay.fmt.Goals as goal

pub loop-name-preserved : goal.loop-name-preserved
loop-name-preserved g c = λ p.
    let so_far = names_text (map (string_bytes {Z = Global}) (take c.loop-name.name-index c.deref-name-items.result.now)) in
    let more = ap (λ (t : List ℕ). so_far ++ 47 ∷ t) (ap (string_bytes {Z = Global}) c.name-item.is)
    ∙ sym (text_more (string_bytes {Z = Global}) c.deref-name-items.result.now c.loop-name.name-index c.name-item.result (omega arith)) in
    has_written_of_eq _ _ _ _ _ more (has_written_append _ _ _ _ _ _ (c.loop-name.invariant p) (search rules))
