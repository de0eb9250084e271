-- What the marks say of a path that none of them names.
use Rattle.std.proofs.Common.{◌≡◌, ◌∙◌, ap, refl, None, List, [], ◌∷◌, Bool, true, false, cond}
use Rattle.std.proofs.lemmas.Bool.{or_parts}
use Rattle.std.specs.List.{list_any}
use Rattle.fsfs_model.specs.declared.flat.mark.Mark.{Mark}
use Rattle.fsfs_model.specs.declared.flat.mark.What.{What}
use Rattle.fsfs_model.specs.declared.flat.mark.What.TheVariants.{Make, Gone, Text, Prop}
use Rattle.fsfs_base.specs.Paths.{Path, covers, same_path}
use Rattle.fsfs_model.specs.Flat.Folding.{fold, fold_from, joined, forgotten, change_in}

nothing_forgotten : (k : What) (b : Bool) → forgotten None k b ≡ None
nothing_forgotten Gone true = refl
nothing_forgotten Gone false = refl
nothing_forgotten (Make src) b = refl
nothing_forgotten Text b = refl
nothing_forgotten Prop b = refl

still_nothing : (marks : List Mark) (q : Path) → list_any (λ m. same_path m.path q) marks ≡ false → fold_from q None marks ≡ None
still_nothing [] q h = refl
still_nothing (m ∷ ms) q h =
    let two = or_parts (same_path m.path q) (list_any (λ m. same_path m.path q) ms) h in
    ap (λ o. fold_from q o ms) (ap (λ b. cond b (joined None m.kind m.what) (forgotten None m.what (covers m.path q))) two.0 ∙ nothing_forgotten m.what (covers m.path q)) ∙ still_nothing ms q two.1

pub unmarked : (marks : List Mark) (q : Path) → list_any (λ m. same_path m.path q) marks ≡ false → fold marks q ≡ None
unmarked marks q h = ap change_in (still_nothing marks q h)
