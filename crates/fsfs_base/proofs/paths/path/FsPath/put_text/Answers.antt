use Rattle.std.proofs.Common.{◌∙◌, ◌++◌, ◌∷◌, [], ap, sym, map, take, arith, List, ℕ, Global}
use Rattle.std.specs.String.{string_bytes}
use Rattle.fsfs_base.specs.Paths.{names_text}
use Rattle.fsfs_base.proofs.PathTextLemmas.{text_more, written_more}
use Rattle.fsfs_base.proofs.paths.path.FsPath.put_text.Goals as goal

pub loop-name-preserved : goal.loop-name-preserved
loop-name-preserved c =
    let so_far = names_text (map (string_bytes {Z = Global}) (take c.loop-name.name-index c.deref-name-items.result.now)) in
    let name = c.as_bytes.ensures.value ∙ ap (string_bytes {Z = Global}) c.name-item.is in
    c.in_ok-extend_from_slice.ensures.items
    ∙ ap (λ (t : List ℕ). t ++ c.as_bytes.result.now) (c.in_ok-push-2.ensures.items ∙ ap (λ (t : List ℕ). t ++ 47 ∷ []) c.loop-name.invariant)
    ∙ written_more c.args.out.now.items so_far c.as_bytes.result.now
    ∙ ap (λ (t : List ℕ). c.args.out.now.items ++ (so_far ++ 47 ∷ t)) name
    ∙ ap (λ (t : List ℕ). c.args.out.now.items ++ t) (sym (text_more (string_bytes {Z = Global}) c.deref-name-items.result.now c.loop-name.name-index c.name-item.result (omega arith)))
