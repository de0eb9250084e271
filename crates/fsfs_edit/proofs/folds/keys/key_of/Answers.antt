use Rattle.std.proofs.Common.{◌<◌, ◌++◌, List, ℕ, length, map, ap, ◌∙◌, arith, Global}
use Rattle.std.specs.String.{string_bytes}
use Rattle.std.proofs.lemmas.List.{length-map}
use Rattle.fsfs_base.specs.Paths.{Path}
use Rattle.fsfs_edit.proofs.KeyTexts.{key_more, name_at}
use Rattle.fsfs_edit.proofs.folds.keys.key_of.Goals as goal

pub loop-name-preserved : goal.loop-name-preserved
loop-name-preserved c =
    let names = c.names-name-items.result.now in
    let p : Path = map (string_bytes {Z = Global}) names in
    let k : ℕ = c.loop-name.name-index in
    let within : k < length names = omega arith in
    let lt : k < length p = omega (arith, length-map names (string_bytes {Z = Global})) in
    let mid : List ℕ = string_bytes c.push_str.new.self in
    key_more p k (string_bytes c.loop-name.key) mid (string_bytes c.push_str-in-loop-name.new.self) (string_bytes c.name-item.result) lt
    c.loop-name.invariant c.in_ok-push_str.ensures.bytes (c.in_ok-push_str-2.ensures.bytes ∙ ap (λ (t : List ℕ). mid ++ t) c.as_str.ensures.value) (name_at names k c.name-item.result within c.name-item.is)
