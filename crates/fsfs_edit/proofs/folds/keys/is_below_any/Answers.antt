use Rattle.std.proofs.Common.{◌≡◌, ◌<◌, ◌+◌, ◌++◌, ◌||◌, [], List, ℕ, Bool, true, false, length, map, take, ap, sym, ◌∙◌, append-nil, arith, Global}
use Rattle.std.specs.String.{string_bytes}
use Rattle.std.proofs.lemmas.List.{length-map}
use Rattle.indexmap.specs.IndexSet.{contains_text}
use Rattle.fsfs_base.specs.Paths.{Path, names_text}
use Rattle.fsfs_edit.proofs.Above.{left_above, left_more}
use Rattle.fsfs_edit.proofs.KeyTexts.{key_more, name_at}
use Rattle.fsfs_edit.proofs.folds.keys.is_below_any.Goals as goal

pub returns-then-contains : goal.returns-then-contains
returns-then-contains c =
    let names = c.names-name-items.result.now in
    let p : Path = map (string_bytes {Z = Global}) names in
    let k : ℕ = c.loop-name.name-index in
    let f : Path → Bool = λ q. contains_text c.args.paths.now (names_text q) in
    let lt : k < length p = omega (arith, length-map names (string_bytes {Z = Global})) in
    let here : f (take k p ++ []) ≡ true =
    ap f (append-nil (take k p)) ∙ ap (contains_text c.args.paths.now) (sym (c.as_str.ensures.value ∙ c.loop-name.invariant.above)) ∙ sym c.contains.ensures ∙ c.if-contains.true in
    sym (ap (λ (b : Bool). b || left_above f p (k + 1)) here) ∙ sym (left_more f p k lt) ∙ c.loop-name.invariant.left

pub loop-name-preserved : goal.loop-name-preserved
loop-name-preserved c =
    let names = c.names-name-items.result.now in
    let p : Path = map (string_bytes {Z = Global}) names in
    let k : ℕ = c.loop-name.name-index in
    let f : Path → Bool = λ q. contains_text c.args.paths.now (names_text q) in
    let within : k < length names = omega arith in
    let lt : k < length p = omega (arith, length-map names (string_bytes {Z = Global})) in
    let here : f (take k p ++ []) ≡ false =
    ap f (append-nil (take k p)) ∙ ap (contains_text c.args.paths.now) (sym (c.as_str.ensures.value ∙ c.loop-name.invariant.above)) ∙ sym c.contains.ensures ∙ c.if-contains.false in
    let mid : List ℕ = string_bytes c.push_str.new.self in
    record {
      above = key_more p k (string_bytes c.loop-name.above) mid (string_bytes c.push_str-in-loop-name.new.self) (string_bytes c.name-item.result) lt c.loop-name.invariant.above c.in_ok-push_str.ensures.bytes
          (c.in_ok-push_str-2.ensures.bytes ∙ ap (λ (t : List ℕ). mid ++ t) c.as_str-in-loop-name.ensures.value) (name_at names k c.name-item.result within c.name-item.is);
      left = sym (left_more f p k lt ∙ ap (λ (b : Bool). b || left_above f p (k + 1)) here) ∙ c.loop-name.invariant.left;
    }
